-- Rule. What is kept of a key once one more call is kept. (This profile's.)
use Rattle.std.specs.Prelude.{◌≡◌, ℕ, ◌<◌, ◌≤◌, ◌⊎◌, true, List, [], ◌∷◌, length, take, remove, slice_index_or, unwrap_or, All}
use Rattle.std.specs.FinMap as map
use Rattle.reply_register.specs.Calls.{is_above_all}
use Rattle.reply_register.specs.Keys.{key_cmp}
use Rattle.reply_register.specs.declared.kept.Kept.{Kept}
use Rattle.reply_register.specs.declared.key.Key.{Key}

-- how many calls of a key are kept
abbrev pub most_kept : ℕ
most_kept = 4

-- the kept calls of a key; none if the key is unknown
abbrev pub calls_of : map.FinMap key_cmp (List Kept) → Key → List Kept
calls_of calls key = unwrap_or (map.get calls key) []

-- the call at this place has the least number
abbrev pub IsLeastAt : List Kept → ℕ → Type 0
IsLeastAt kept place = (place < length kept) × ((d : Kept) → All (λ (k : Kept). (slice_index_or kept place d).seqno ≤ k.seqno) kept)

-- The call is kept in front of the others. If there is room, all of them stay; if not, the one with the least number is dropped.
abbrev pub IsKeptWith : Kept → List Kept → List Kept → Type 0
IsKeptWith kept older calls =
    ((length older < most_kept) × (calls ≡ kept ∷ older))
    ⊎ ((most_kept ≤ length older) × (place : ℕ) × IsLeastAt older place × (calls ≡ kept ∷ remove older place))

-- the numbers of these calls fall
abbrev pub DoFall : List Kept → Type 0
DoFall [] = Unit {0}
DoFall (k ∷ kept) = (is_above_all k.seqno kept ≡ true) × DoFall kept

-- Suppose that kept calls have falling numbers, and that another is above all of them. Then at most four are kept, again with falling
-- numbers: the new one and the latest three.
abbrev pub KeepsTheLatest : Type 0
KeepsTheLatest =
    (kept : Kept) (older calls : List Kept) → DoFall older → length older ≤ most_kept → is_above_all kept.seqno older ≡ true
    → IsKeptWith kept older calls → (calls ≡ kept ∷ take 3 older) × DoFall calls × (length calls ≤ most_kept)
