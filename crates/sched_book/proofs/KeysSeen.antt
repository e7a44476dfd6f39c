-- `same_key` decides whether keys are equal; and the keys of the rows seen so far, with one more.
use Rattle.std.proofs.Common.{◌≡◌, ℕ, ◌+◌, ◌<◌, Bool, true, false, List, length, get_or, take, sym, refl, ap, ◌∙◌}
use Rattle.std.specs.Prelude.{◌||◌, ◌&&◌, ◌==◌}
use Rattle.std.specs.List.{list_any}
use Rattle.std.specs.Str.{bytes_eq}
use Rattle.std.specs.Bool.{Decides}
use Rattle.std.proofs.lemmas.Bool.Decides.{Decides-and, Decides-eqb, Decides-like}
use Rattle.std.proofs.lemmas.List.Folds.{list_any_more}
use Rattle.std.proofs.lemmas.Slice.Eq.{bytes_eq-Decides}
use Rattle.sched_book.specs.Keys.{Key, same_key}

equal_parts : (a b : Key) → a.0 ≡ b.0 → a.1 ≡ b.1 → a.2 ≡ b.2 → a ≡ b
equal_parts a b n s t = λ i. (n i, s i, t i)

-- `same_key` decides whether keys are equal
pub same_key-Decides : (a b : Key) → Decides (same_key a b) (a ≡ b)
same_key-Decides a b =
    Decides-like (same_key a b) (λ h. equal_parts a b h.0.0 h.0.1 h.1) (λ e. ((ap (λ (k : Key). k.0) e, ap (λ (k : Key). k.1) e), ap (λ (k : Key). k.2) e))
    (Decides-and ((a.0 == b.0) && bytes_eq a.1 b.1) (bytes_eq a.2 b.2)
    (Decides-and (a.0 == b.0) (bytes_eq a.1 b.1) (Decides-eqb a.0 b.0) (bytes_eq-Decides a.1 b.1))
    (bytes_eq-Decides a.2 b.2))

module _ {X : Type 0} (key_of : X → Key) (rows : List X) where
  -- the keys so far, with one more
  pub one_more : (i : ℕ) (x : X) → i < length rows → x ≡ get_or rows i x → (key : Key)
      → (same_key key (key_of x) || list_any (λ y. same_key key (key_of y)) (take i rows)) ≡ list_any (λ y. same_key key (key_of y)) (take (i + 1) rows)
  one_more i x within is key =
      turned (same_key key (key_of x)) (list_any (λ y. same_key key (key_of y)) (take i rows))
      ∙ ap (λ y. list_any (λ y. same_key key (key_of y)) (take i rows) || same_key key (key_of y)) is
      ∙ sym (list_any_more (λ y. same_key key (key_of y)) rows i x within)
    where
      turned : (a b : Bool) → (a || b) ≡ (b || a)
      turned true true = refl
      turned true false = refl
      turned false true = refl
      turned false false = refl
