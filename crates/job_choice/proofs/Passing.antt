-- Elements that pass a test, among several.
use Rattle.std.proofs.Common.{◌≡◌, inl, inr, ℕ, ◌-◌, ◌+◌, Bool, true, false, eqb, List, [], ◌∷◌, ap, ◌∙◌, arith}
use Rattle.std.specs.Prelude.{nat_le, Contains}
use Rattle.std.specs.List.{list_any}
use Rattle.std.proofs.lemmas.Bool.{or_cases, or_left, or_right}
use Rattle.std.proofs.lemmas.Bool.Decides.{nat_tests}
use Rattle.sched_book.proofs.Newest.{none_in_nothing, in_front, behind, front_of}

pub any_from : {X : Type 0} (test : X → Bool) (xs : List X) (x : X) → Contains xs x → test x ≡ true → list_any test xs ≡ true
any_from test [] x h pass = absurd (none_in_nothing x h)
any_from test (y ∷ ys) x h pass = elim (in_front y ys x h) [
  | inl same ↦ or_left (test y) (list_any test ys) (ap test same ∙ pass)
  | inr there ↦ or_right (test y) (list_any test ys) (any_from test ys x there pass)
]

pub any_found : {X : Type 0} (test : X → Bool) (xs : List X) → list_any test xs ≡ true → (x : X) × Contains xs x × (test x ≡ true)
any_found test [] h = absurd (let never : false ≡ true = h in cc)
any_found test (y ∷ ys) h = elim (or_cases (test y) (list_any test ys) h) [
  | inl here ↦ (y, front_of y ys, here)
  | inr later ↦ (let there = any_found test ys later in (there.0, behind y ys there.0 there.1, there.2))
]

-- differences and sums
pub nothing_left : (a b : ℕ) → eqb (a - b) 0 ≡ nat_le a b
nothing_left a b = grind (arith, nat_tests)

pub left_reached : (a b n : ℕ) → nat_le (a - b) n ≡ nat_le a (b + n)
left_reached a b n = grind (arith, nat_tests)
