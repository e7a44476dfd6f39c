-- The first element of each text, by the steps of a loop.
use Rattle.std.proofs.Common.{◌≡◌, ℕ, Bool, true, false, cond, List, [], ◌∷◌, refl, sym, ap, ◌∙◌}
use Rattle.std.specs.Prelude.{◌||◌}
use Rattle.std.specs.List.{list_any}
use Rattle.std.specs.Str.{bytes_eq}
use Rattle.std.proofs.lemmas.Slice.Eq.{bytes_eq-Decides}
use Rattle.sched_book.specs.Firsts.{first_unseen}
use Rattle.sched_book.specs.Reports.{first_of_each}

module _ {X : Type 0} (text : X → List ℕ) where
  -- the result depends only on which texts were seen
  pub same_came : (came other : List ℕ → Bool) → ((name : List ℕ) → came name ≡ other name) → (xs : List X)
      → first_unseen text came xs ≡ first_unseen text other xs
  same_came came other same [] = refl
  same_came came other same (x ∷ xs) =
      let later : List ℕ → Bool = λ name. bytes_eq name (text x) || came name in
      let later_other : List ℕ → Bool = λ name. bytes_eq name (text x) || other name in
      ap (λ (b : Bool). cond b (first_unseen text came xs) (x ∷ first_unseen text later xs)) (same (text x))
      ∙ ap (λ ys. cond (other (text x)) ys (x ∷ first_unseen text later xs)) (same_came came other same xs)
      ∙ ap (λ ys. cond (other (text x)) (first_unseen text other xs) (x ∷ ys))
      (same_came later later_other (λ name. ap (λ b. bytes_eq name (text x) || b) (same name)) xs)

  -- the texts that were seen, as a list
  pub by_list : (came : List ℕ → Bool) (seen : List (List ℕ)) → ((name : List ℕ) → came name ≡ list_any (bytes_eq name) seen) → (xs : List X)
      → first_unseen text came xs ≡ first_of_each text seen xs
  by_list came seen same [] = refl
  by_list came seen same (x ∷ xs) =
      let later : List ℕ → Bool = λ name. bytes_eq name (text x) || came name in
      ap (λ (b : Bool). cond b (first_unseen text came xs) (x ∷ first_unseen text later xs)) (same (text x))
      ∙ ap (λ ys. cond (list_any (bytes_eq (text x)) seen) ys (x ∷ first_unseen text later xs)) (by_list came seen same xs)
      ∙ ap (λ ys. cond (list_any (bytes_eq (text x)) seen) (first_of_each text seen xs) (x ∷ ys))
      (by_list later (text x ∷ seen) (λ name. ap (λ b. bytes_eq name (text x) || b) (same name)) xs)

  -- with no text seen yet
  pub first_unseen-none : (came : List ℕ → Bool) → ((name : List ℕ) → came name ≡ false) → (xs : List X)
      → first_unseen text came xs ≡ first_of_each text [] xs
  first_unseen-none came none xs = by_list came [] none xs

  -- seeing a text again changes nothing
  again : (came : List ℕ → Bool) (name other : List ℕ) (b : Bool) → bytes_eq other name ≡ b → came name ≡ true → (b || came other) ≡ came other
  again came name other false is was = refl
  again came name other true is was =
      let same : other ≡ name = (bytes_eq-Decides other name).0 is in
      sym (ap came same ∙ was)

  pub first_unseen-again : (came later : List ℕ → Bool) (x : X) (xs : List X) → came (text x) ≡ true
      → ((name : List ℕ) → later name ≡ (bytes_eq name (text x) || came name)) → first_unseen text came (x ∷ xs) ≡ first_unseen text later xs
  first_unseen-again came later x xs was is =
      ap (λ (b : Bool). cond b (first_unseen text came xs) (x ∷ first_unseen text (λ name. bytes_eq name (text x) || came name) xs)) was
      ∙ sym (same_came later came (λ name. is name ∙ again came (text x) name (bytes_eq name (text x)) refl was) xs)

  pub first_unseen-new : (came later : List ℕ → Bool) (x : X) (xs : List X) → came (text x) ≡ false
      → ((name : List ℕ) → later name ≡ (bytes_eq name (text x) || came name)) → first_unseen text came (x ∷ xs) ≡ x ∷ first_unseen text later xs
  first_unseen-new came later x xs new is =
      let after : List ℕ → Bool = λ name. bytes_eq name (text x) || came name in
      ap (λ (b : Bool). cond b (first_unseen text came xs) (x ∷ first_unseen text after xs)) new
      ∙ ap (λ ys. x ∷ ys) (sym (same_came later after is xs))
