-- A list in which any two elements have a relation, one element at a time.
use Rattle.std.proofs.Common.{◌≡◌, ℕ, ◌+◌, ◌<◌, List, [], ◌∷◌, ◌++◌, length, get_or, take, All, AllPairs, sym, ap, ◌∙◌, subst, arith}
use Rattle.std.proofs.lemmas.List.{take_more, get_or-take, get_or_default, length-take-le}
use Rattle.std.proofs.lemmas.List.Quantifiers.{all_pairs_push}

module _ {X : Type 0} (R : X → X → Type 0) (xs : List X) (i : ℕ) (x : X) (within : i < length xs) (is : x ≡ get_or xs i x) where
  -- the front with the next element, if each element before it has the relation to it
  pub pairs_more : AllPairs R (take i xs) → All (λ y. R y x) (take i xs) → AllPairs R (take (i + 1) xs)
  pairs_more front next =
      subst (AllPairs R) (sym (take_more xs i x within ∙ ap (λ y. take i xs ++ y ∷ []) (sym is)))
      (all_pairs_push R (take i xs) x front next)

  -- each element before the next has the relation to it
  pub pairs_before : AllPairs R xs → All (λ y. R y x) (take i xs)
  pairs_before pairs k d lt =
      let front : length (take i xs) ≡ i = length-take-le i xs (omega arith) in
      let below : k < i = omega arith in
      subst (R (get_or (take i xs) k d)) (get_or_default xs i d x within ∙ sym is)
      (subst (λ y. R y (get_or xs i d)) (sym (get_or-take i xs k d below)) (pairs k i d below within))
