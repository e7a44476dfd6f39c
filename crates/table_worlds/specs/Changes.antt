-- Rule. The rows that change one world into another.
use Rattle.std.specs.Prelude.{◌≡◌, ◌⊎◌, false, List, Option, Some, None}
use Rattle.std.specs.List.{AllByRecursion, list_any}
use Rattle.sched_book.specs.declared.world.World.{World}
use Rattle.table_meaning.specs.declared.rows.StoredRow.{StoredRow}
use Rattle.table_meaning.specs.Rows.{row_key_of, same_row_key}
use Rattle.table_worlds.specs.declared.keys.WorldKey.{WorldKey}
use Rattle.table_worlds.specs.Keys.{row_key, row_in}

-- Each row is one of the world after. If no row is put at a key, the two worlds have the same row there, or the world after has none.
pub record AreChanges (before after : World) (rows : List StoredRow) : Type 0 where
  pub each : AllByRecursion (λ r. (key : WorldKey) × (row_in after key ≡ Some r)) rows
  pub others : (key : WorldKey) → list_any (λ r. same_row_key (row_key key) (row_key_of r)) rows ≡ false → (row_in after key ≡ None) ⊎ (row_in before key ≡ row_in after key)

-- The row of the world after, if it differs from the row before. There is no such row if the world after has none, or if the two are the same.
abbrev pub IsChange : Option StoredRow → Option StoredRow → Option StoredRow → Type 0
IsChange before after row = ((row ≡ None) × ((after ≡ None) ⊎ (before ≡ after))) ⊎ ((r : StoredRow) × (after ≡ Some r) × (row ≡ Some r))
