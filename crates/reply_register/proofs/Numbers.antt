-- Numbers of kept calls: what is above all of them, and the greatest.
use Rattle.std.proofs.Common.{◌≡◌, ℕ, zero, suc, ◌<◌, ◌≤◌, List, [], ◌∷◌, take, true, get_or, nat_lt, slice_get, inl, inr, refl, ap, ◌∙◌, arith}
use Rattle.std.specs.Prelude.{◌&&◌, All, Any, Some}
use Rattle.std.proofs.lemmas.Bool.{and_parts, cases_lt, lt-ltb, ltb-true}
use Rattle.reply_register.specs.Calls.{greatest, is_above_all, GreatestIsGreatest}
use Rattle.reply_register.specs.declared.kept.Kept.{Kept}

-- a number above all of some calls stays above them if it grows
pub above_more : (kept : List Kept) (a b : ℕ) → nat_lt a b ≡ true → is_above_all a kept ≡ true → is_above_all b kept ≡ true
above_more [] a b less above = refl
above_more (k ∷ kept) a b less above =
    let parts = and_parts (nat_lt k.seqno a) (is_above_all a kept) above in
    let first : nat_lt k.seqno b ≡ true = lt-ltb k.seqno b (omega (arith, ltb-true k.seqno a parts.0, ltb-true a b less)) in
    λ i. first i && above_more kept a b less parts.1 i

-- a number above all of some calls is above the first ones of them
pub above_taken : (n : ℕ) (kept : List Kept) (a : ℕ) → is_above_all a kept ≡ true → is_above_all a (take n kept) ≡ true
above_taken zero kept a above = refl
above_taken (suc n) [] a above = refl
above_taken (suc n) (k ∷ kept) a above =
    let parts = and_parts (nat_lt k.seqno a) (is_above_all a kept) above in
    λ i. parts.0 i && above_taken n kept a parts.1 i

-- the first call's number is the greatest if it is above the others
pub greatest_first : (k : Kept) (kept : List Kept) → is_above_all k.seqno kept ≡ true → greatest (k ∷ kept) ≡ k.seqno
greatest_first k kept above = let most : greatest kept ≤ k.seqno = at_most kept k.seqno above in omega (arith, most)
  where
    at_most : (kept : List Kept) (n : ℕ) → is_above_all n kept ≡ true → greatest kept ≤ n
    at_most [] n above = omega arith
    at_most (k ∷ kept) n above =
        let parts = and_parts (nat_lt k.seqno n) (is_above_all n kept) above in
        let first : k.seqno < n = ltb-true k.seqno n parts.0 in
        let rest : greatest kept ≤ n = at_most kept n parts.1 in
        omega (arith, first, rest)

pub none_greater : (kept : List Kept) → All (λ (k : Kept). k.seqno ≤ greatest kept) kept
none_greater [] i d less = absurd (omega (arith, less))
none_greater (k ∷ kept) zero d less = omega arith
none_greater (k ∷ kept) (suc i) d less = let rest : (get_or kept i d).seqno ≤ greatest kept = none_greater kept i d (omega (arith, less)) in omega (arith, rest)

some_greatest : (k : Kept) (kept : List Kept) → Any (λ (x : Kept). x.seqno ≡ greatest (k ∷ kept)) (k ∷ kept)
some_greatest k [] = (0, k, omega arith, refl, omega arith)
some_greatest k (j ∷ kept) =
    elim (cases_lt k.seqno (greatest (j ∷ kept))) [
      | inl less ↦
          let rest = some_greatest j kept in
          (suc rest.0, rest.1, omega (arith, rest.2), rest.3, rest.4 ∙ omega (arith, less))
      | inr most ↦ (0, k, omega arith, refl, omega (arith, most))
    ]

pub greatest_is_greatest : GreatestIsGreatest
greatest_is_greatest k kept = (some_greatest k kept, none_greater (k ∷ kept))

-- a call at any place is below a number that is above all
pub above_place : (kept : List Kept) (n i : ℕ) (k : Kept) → is_above_all n kept ≡ true → slice_get kept i ≡ Some k → k.seqno < n
above_place [] n i k above there = absurd cc
above_place (x ∷ kept) n zero k above there =
    let one : x ≡ k = cc in
    let first : x.seqno < n = ltb-true x.seqno n (and_parts (nat_lt x.seqno n) (is_above_all n kept) above).0 in
    omega (arith, first, ap (λ (k : Kept). k.seqno) one)
above_place (x ∷ kept) n (suc i) k above there = above_place kept n i k (and_parts (nat_lt x.seqno n) (is_above_all n kept) above).1 there
