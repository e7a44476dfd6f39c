-- Rule. Tables that can be opened again.
use Rattle.sqlite.specs.Effect.{Database, IsDatabase}
use Rattle.sqlite.specs.State.{State, HasCleanDisk}
use Rattle.table_reading.specs.Reading.{AreUtf8, ReadFrom}
use Rattle.table_rows.specs.Refusing.{IsUnavailable}
use Rattle.table_rows.specs.declared.opening.OpenFault.{OpenFault}
use Rattle.table_worlds.specs.StoredWorld.{world_in}
use Rattle.sched_tables.specs.Held.{IsHonest}
use Rattle.sched_tables.specs.Refusals.{AreNewest, AreRefusedFor}

-- Nothing in the tables is a reason to refuse them. An opening takes them, unless memory or the disk fails.
abbrev pub AreTaken : Database → Type 0
AreTaken db = (e : OpenFault) → AreRefusedFor e db → IsUnavailable e

-- The tables are those of the newest schema, and say so. Their rows are those of a sound world, with what may be kept with it. Their
-- texts are in UTF-8. (Invariants 1 to 12 of docs/STORED.md.)
pub record CanBeOpened (db : Database) : Type 0 where
  pub newest : AreNewest db
  pub rows : ReadFrom db.trees (world_in db.trees)
  pub texts : AreUtf8 db.trees

-- The tables can be opened again, as they are and as a stop may leave them now.
pub record Reopens (s : State) : Type 0 where
  pub now : IsHonest s → CanBeOpened s.now
  pub stop : HasCleanDisk s → (db : Database) → IsDatabase db → s.may_leave db.trees → CanBeOpened db
