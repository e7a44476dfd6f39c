-- Rule. Why tables are refused when they are opened, by what is in the file.
use Rattle.std.specs.Prelude.{◌≡◌, ◌⊎◌, ⊤, ℕ, Some}
use Rattle.sqlite.specs.Effect.{Database}
use Rattle.table_meaning.specs.Holding.{AreKnown}
use Rattle.table_meaning.specs.Rows.{whole}
use Rattle.table_meaning.specs.Schema.{newest}
use Rattle.table_meaning.specs.Schemas.{AreEarlier, schema_setting}
use Rattle.table_reading.specs.Reading.{HasBadTable, RepresentNone}
use Rattle.table_rows.specs.declared.opening.OpenFault.{OpenFault}
use Rattle.table_rows.specs.declared.opening.OpenFault.TheVariants.{NotTables, OldSchema, BadRow, Unavailable}

-- The tables are those of the newest schema, and say so (invariant 1 of docs/STORED.md).
pub record AreNewest (db : Database) : Type 0 where
  pub known : AreKnown db
  pub said : schema_setting db.trees ≡ Some (whole newest)

-- They are those of no schema, or do not say of which one.
pub record AreNotTables (db : Database) : Type 0 where
  pub not_newest : ¬ AreNewest db
  pub not_earlier : (n : ℕ) → ¬ AreEarlier n db

-- They are those of the newest schema, but one of two things is wrong. Some row does not have the format of its table (invariant 2 of
-- docs/STORED.md). Or the rows are not those of a sound world with what may be kept with it (2 to 12).
pub record HaveBadRows (db : Database) : Type 0 where
  pub known : AreKnown db
  pub rows : HasBadTable db.trees ⊎ RepresentNone db.trees

-- The tables are refused for this fault. Nothing is said about memory and the disk.
abbrev pub AreRefusedFor : OpenFault → Database → Type 0
AreRefusedFor NotTables db = AreNotTables db
AreRefusedFor (OldSchema n) db = AreEarlier n db
AreRefusedFor BadRow db = HaveBadRows db
AreRefusedFor (Unavailable cause) db = ⊤
