-- Words. Rows appended to others, which change one world into another at some keys.
use Rattle.std.specs.Prelude.{◌≡◌, ◌⊎◌, ℕ, Bool, true, false, List, ◌++◌, Some, None}
use Rattle.std.specs.List.{AllByRecursion, list_any}
use Rattle.sched_book.specs.declared.world.World.{World}
use Rattle.table_meaning.specs.declared.rows.StoredRow.{StoredRow}
use Rattle.table_meaning.specs.Rows.{row_key_of, same_row_key}
use Rattle.table_worlds.specs.declared.keys.WorldKey.{WorldKey}
use Rattle.table_worlds.specs.declared.keys.WorldKey.TheVariants.{Account, App, Version, Class, Unit, Mark, Host, Instance}
use Rattle.table_worlds.specs.Keys.{row_key, row_in}
use Rattle.call_working_set.specs.WorkingSets.{is_among}

-- the key is that of one of these workunits
abbrev pub is_unit_among : List ℕ → WorldKey → Bool
is_unit_among units (Account id) = false
is_unit_among units (App id) = false
is_unit_among units (Version id) = false
is_unit_among units (Class id) = false
is_unit_among units (Unit id) = is_among units id
is_unit_among units (Mark id) = false
is_unit_among units (Host id) = false
is_unit_among units (Instance p) = false

-- the key is that of the mark of one of these workunits
abbrev pub is_mark_among : List ℕ → WorldKey → Bool
is_mark_among units (Account id) = false
is_mark_among units (App id) = false
is_mark_among units (Version id) = false
is_mark_among units (Class id) = false
is_mark_among units (Unit id) = false
is_mark_among units (Mark id) = is_among units id
is_mark_among units (Host id) = false
is_mark_among units (Instance p) = false

-- the key is that of one of these hosts
abbrev pub is_host_among : List ℕ → WorldKey → Bool
is_host_among hosts (Account id) = false
is_host_among hosts (App id) = false
is_host_among hosts (Version id) = false
is_host_among hosts (Class id) = false
is_host_among hosts (Unit id) = false
is_host_among hosts (Mark id) = false
is_host_among hosts (Host id) = is_among hosts id
is_host_among hosts (Instance p) = false

-- the key is that of an instance of one of these workunits
abbrev pub is_instance_among : List ℕ → WorldKey → Bool
is_instance_among units (Account id) = false
is_instance_among units (App id) = false
is_instance_among units (Version id) = false
is_instance_among units (Class id) = false
is_instance_among units (Unit id) = false
is_instance_among units (Mark id) = false
is_instance_among units (Host id) = false
is_instance_among units (Instance p) = is_among units p.unit

-- a row of this key is among the rows
abbrev pub is_put : List StoredRow → WorldKey → Bool
is_put rows key = list_any (λ r. same_row_key (row_key key) (row_key_of r)) rows

-- Each row is one of the world after. If no row is put at one of these keys, the two worlds have the same row there, or the world after has none.
pub record AreChangesAt (at : WorldKey → Bool) (before after : World) (rows : List StoredRow) : Type 0 where
  pub each : AllByRecursion (λ r. (key : WorldKey) × (row_in after key ≡ Some r)) rows
  pub others : (key : WorldKey) → at key ≡ true → is_put rows key ≡ false → (row_in after key ≡ None) ⊎ (row_in before key ≡ row_in after key)

-- the rows are the old ones, followed by such changes
pub record AreAdded (at : WorldKey → Bool) (before after : World) (old new : List StoredRow) : Type 0 where
  pub more : List StoredRow
  pub behind : new ≡ old ++ more
  pub changes : AreChangesAt at before after more
