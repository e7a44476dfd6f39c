-- Each of the first reports is the first with its name.
use Rattle.std.proofs.Common.{◌≡◌, ℕ, inl, inr, Bool, true, false, cond, List, [], ◌∷◌, ◌++◌, sym, refl, ap, ◌∙◌, subst}
use Rattle.std.specs.Prelude.{Contains}
use Rattle.std.specs.Str.{bytes_eq}
use Rattle.std.specs.List.{list_any}
use Rattle.std.proofs.lemmas.Bool.{or_parts}
use Rattle.std.proofs.lemmas.Slice.Eq.{bytes_eq-Decides}
use Rattle.rpc_records.specs.declared.request.Report.{Report}
use Rattle.sched_book.specs.Reports.{first_of_each}
use Rattle.sched_book.specs.Laws.{FirstReportsAreFirst}
use Rattle.sched_book.proofs.Newest.{none_in_nothing, in_front}

-- the same of any text, without the texts that were seen
record IsFirst {X : Type 0} (text : X → List ℕ) (seen : List (List ℕ)) (xs : List X) (x : X) : Type 0 where
  earlier : List X
  later : List X
  split : xs ≡ earlier ++ x ∷ later
  new_text : (other : X) → Contains earlier other → bytes_eq (text x) (text other) ≡ false
  unseen : list_any (bytes_eq (text x)) seen ≡ false

-- a text that was seen differs from one that was not
apart : (s t : List ℕ) (seen : List (List ℕ)) (b : Bool) → bytes_eq t s ≡ b → list_any (bytes_eq s) seen ≡ true → list_any (bytes_eq t) seen ≡ false
    → bytes_eq t s ≡ false
apart s t seen false is was was_not = is
apart s t seen true is was was_not =
    let same : t ≡ s = (bytes_eq-Decides t s).0 is in
    let never : true ≡ false = sym was ∙ ap (λ u. list_any (bytes_eq u) seen) (sym same) ∙ was_not in
    absurd cc

first_is_first : {X : Type 0} (text : X → List ℕ) (seen : List (List ℕ)) (xs : List X) (x : X) → Contains (first_of_each text seen xs) x
    → IsFirst text seen xs x
first_is_first text seen [] x h = absurd (none_in_nothing x h)
first_is_first {X} text seen (y ∷ ys) x h = cases (list_any (bytes_eq (text y)) seen) refl h (first_is_first text seen ys x) (first_is_first text (text y ∷ seen) ys x)
  where
    passed : list_any (bytes_eq (text y)) seen ≡ true → IsFirst text seen ys x → IsFirst text seen (y ∷ ys) x
    passed was f = record {
      earlier = y ∷ f.earlier;
      later = f.later;
      split = ap (λ zs. y ∷ zs) f.split;
      new_text = λ other among. elim (in_front y f.earlier other among) [
        | inl same ↦ subst (λ z. bytes_eq (text x) (text z) ≡ false) same (apart (text y) (text x) seen (bytes_eq (text x) (text y)) refl was f.unseen)
        | inr there ↦ f.new_text other there
      ];
      unseen = f.unseen;
    }

    kept : IsFirst text (text y ∷ seen) ys x → IsFirst text seen (y ∷ ys) x
    kept f =
        let parts = or_parts (bytes_eq (text x) (text y)) (list_any (bytes_eq (text x)) seen) f.unseen in
        record {
          earlier = y ∷ f.earlier;
          later = f.later;
          split = ap (λ zs. y ∷ zs) f.split;
          new_text = λ other among. elim (in_front y f.earlier other among) [
            | inl same ↦ subst (λ z. bytes_eq (text x) (text z) ≡ false) same parts.0
            | inr there ↦ f.new_text other there
          ];
          unseen = parts.1;
        }

    here : list_any (bytes_eq (text y)) seen ≡ false → y ≡ x → IsFirst text seen (y ∷ ys) x
    here was_not same = record {
      earlier = [];
      later = ys;
      split = ap (λ z. z ∷ ys) same;
      new_text = λ other among. absurd (none_in_nothing other among);
      unseen = ap (λ z. list_any (bytes_eq (text z)) seen) (sym same) ∙ was_not;
    }

    cases : (b : Bool) → list_any (bytes_eq (text y)) seen ≡ b
        → Contains (cond b (first_of_each text seen ys) (y ∷ first_of_each text (text y ∷ seen) ys)) x
        → (Contains (first_of_each text seen ys) x → IsFirst text seen ys x)
        → (Contains (first_of_each text (text y ∷ seen) ys) x → IsFirst text (text y ∷ seen) ys x)
        → IsFirst text seen (y ∷ ys) x
    cases true is h skip take_on = passed is (skip h)
    cases false is h skip take_on = elim (in_front y (first_of_each text (text y ∷ seen) ys) x h) [
      | inl same ↦ here is same
      | inr there ↦ kept (take_on there)
    ]

pub first_reports_are_first : FirstReportsAreFirst
first_reports_are_first reports r h =
    let f = first_is_first (λ (x : Report). x.name) [] reports r h in
    record { earlier = f.earlier; later = f.later; split = f.split; new_name = f.new_text }
