-- A row more among rows that were read.
use Rattle.std.proofs.Common.{◌≡◌, ℕ, true, List, sym, subst, ◌∙◌, inl, inr, arith}
use Rattle.std.specs.BTreeMap.{is_at}
use Rattle.std.specs.Cmp.Lexicographic.{slice_cmp}
use Rattle.std.specs.Ordering.{nat_cmp}
use Rattle.std.specs.declared.cmp.Ordering.{Ordering}
use Rattle.std.proofs.lemmas.Map.Text.{is_eq-slice_cmp}
use Rattle.std.proofs.lemmas.Slice.Eq.{bytes_eq-Decides}
use Rattle.table_cache.specs.RowsRead.{HoldOfEach, HasKept}
use Rattle.table_cache.specs.declared.rows_read.RowsRead.{RowsRead}

-- keys that are found equal are one
pub one_number : (a b : ℕ) → is_at (nat_cmp a) b ≡ true → a ≡ b
one_number a b is = grind (arith, is)

pub one_text : (a b : List ℕ) → is_at (slice_cmp nat_cmp a) b ≡ true → a ≡ b
one_text a b is = (bytes_eq-Decides a b).0 (sym (is_eq-slice_cmp a b) ∙ is)

-- what holds of each that was there and of the new one holds of all
pub holds_with : {K T : Type 0} (cmp : K → K → Ordering) → ((a b : K) → is_at (cmp a) b ≡ true → a ≡ b) → (Holds : K → T → Type 0) (old new : RowsRead K T) (key : K) (row : T)
    → HasKept cmp old new key row → HoldOfEach cmp Holds old → Holds key row → HoldOfEach cmp Holds new
holds_with cmp one Holds old new key row kept before holds = λ k r is. elim (kept k r is) [
  | inl it ↦ subst (λ n. Holds n r) (one key k it.0) (subst (Holds key) (sym it.1) holds)
  | inr was ↦ before k r was
]
