-- Words. Rows that are put lead from one world to another.
use Rattle.std.specs.Prelude.{◌≡◌, ◌≢◌, ◌⊎◌, List, [], ◌∷◌, Some}
use Rattle.std.specs.List.{AllByRecursion}
use Rattle.sched_book.specs.declared.world.World.{World}
use Rattle.table_meaning.specs.Rows.{RowKey, row_key_of}
use Rattle.table_meaning.specs.declared.rows.StoredRow.{StoredRow}
use Rattle.table_worlds.specs.Keys.{row_key, row_in}
use Rattle.table_worlds.specs.Readable.{IsReadable}
use Rattle.table_worlds.specs.declared.keys.WorldKey.{WorldKey}

-- a key is not that of this row
abbrev pub IsOtherKey : StoredRow → RowKey → Type 0
IsOtherKey row key = row_key_of row ≢ key

-- no row of these is put at this key
abbrev pub IsUnput : List StoredRow → RowKey → Type 0
IsUnput rows key = AllByRecursion (λ row. IsOtherKey row key) rows

-- this is one of these rows
abbrev pub IsPut : List StoredRow → StoredRow → Type 0
IsPut [] row = ⊥
IsPut (first ∷ rows) row = (row ≡ first) ⊎ IsPut rows row

-- The rows of each of two worlds determine it. At a key where no row of these is put, both worlds have the same row. A row of these at a
-- key of a world is the one that the second world has there.
pub record Lead (rows : List StoredRow) (before after : World) : Type 0 where
  pub was_readable : IsReadable before
  pub is_readable : IsReadable after
  pub stays : (key : WorldKey) → IsUnput rows (row_key key) → row_in before key ≡ row_in after key
  pub put : (row : StoredRow) (key : WorldKey) → IsPut rows row → row_key_of row ≡ row_key key → row_in after key ≡ Some row
