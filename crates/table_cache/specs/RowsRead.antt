-- Rule. Rows that were read, by their keys.
use Rattle.std.specs.Prelude.{◌≡◌, ◌⊎◌, true, false, Some}
use Rattle.std.specs.BTreeMap.{get, is_at}
use Rattle.std.specs.declared.cmp.Ordering.{Ordering}
use Rattle.table_cache.specs.declared.rows_read.RowsRead.{RowsRead}

-- this holds of each row that was read, by its key
abbrev pub HoldOfEach : {K T : Type 0} → (K → K → Ordering) → (K → T → Type 0) → RowsRead K T → Type 0
HoldOfEach {K} {T} cmp Holds read = (key : K) (row : T) → get cmp read.rows key ≡ Some row → Holds key row

-- nothing else is there than was, and maybe this row at its key
abbrev pub HasKept : {K T : Type 0} → (K → K → Ordering) → RowsRead K T → RowsRead K T → K → T → Type 0
HasKept {K} {T} cmp old new key row = (k : K) (kept : T) → get cmp new.rows k ≡ Some kept → ((is_at (cmp key) k ≡ true) × (kept ≡ row)) ⊎ (get cmp old.rows k ≡ Some kept)

-- nothing else is there than was, and nothing at this key
abbrev pub IsWithout : {K T : Type 0} → (K → K → Ordering) → RowsRead K T → RowsRead K T → K → Type 0
IsWithout {K} {T} cmp old new key = (k : K) (kept : T) → get cmp new.rows k ≡ Some kept → (is_at (cmp key) k ≡ false) × (get cmp old.rows k ≡ Some kept)

-- nothing else is there than was, and nothing but of these keys
abbrev pub AreSome : {K T : Type 0} → (K → K → Ordering) → (K → Type 0) → RowsRead K T → RowsRead K T → Type 0
AreSome {K} {T} cmp Of old new = (k : K) (kept : T) → get cmp new.rows k ≡ Some kept → Of k × (get cmp old.rows k ≡ Some kept)
