-- Looking through rows for a name that exists or was seen before, one row at a time.
use Rattle.std.proofs.Common.{◌≡◌, ℕ, ◌+◌, ◌<◌, Bool, true, false, cond, List, [], ◌∷◌, ◌++◌, length, get_or, drop, take, Some, sym, ap, ◌∙◌, append_assoc}
use Rattle.std.specs.Prelude.{◌||◌}
use Rattle.std.specs.List.{list_any}
use Rattle.std.proofs.lemmas.List.{take_more, drop_more}
use Rattle.std.proofs.lemmas.List.Folds.{list_any-append}
use Rattle.sched_book.specs.Imports.{first_known}
use Rattle.sched_book.specs.Keys.{Key, same_key}
use Rattle.office_files.proofs.LookUps.{list_any-ext}

module _ {X : Type 0} (rows : List X) (i : ℕ) (x : X) (within : i < length rows) (is : x ≡ get_or rows i x) where
  here : drop i rows ≡ x ∷ drop (i + 1) rows
  here = drop_more rows i x within ∙ ap (λ y. y ∷ drop (i + 1) rows) (sym is)

  so_far : take (i + 1) rows ≡ take i rows ++ x ∷ []
  so_far = take_more rows i x within ∙ ap (λ y. take i rows ++ y ∷ []) (sym is)

  module _ (same : X → X → Bool) (key_of : X → Key) (by_key : (a b : X) → same a b ≡ same_key (key_of a) (key_of b)) where
    -- a name exists, or a row before has its key
    pub taken : (shelf : List X) → list_any (same x) (shelf ++ take i rows)
        ≡ (list_any (same x) shelf || list_any (λ y. same_key (key_of x) (key_of y)) (take i rows))
    taken shelf =
        list_any-append (same x) shelf (take i rows)
        ∙ ap (λ b. list_any (same x) shelf || b) (list_any-ext (same x) (λ y. same_key (key_of x) (key_of y)) (by_key x) (take i rows))

  module _ (same : X → X → Bool) (shelf : List X) (n : ℕ) where
    at_row : first_known same n (shelf ++ take i rows) (drop i rows)
        ≡ cond (list_any (same x) (shelf ++ take i rows)) (Some n) (first_known same (n + 1) (shelf ++ take (i + 1) rows) (drop (i + 1) rows))
    at_row =
        ap (first_known same n (shelf ++ take i rows)) here
        ∙ ap (λ known. cond (list_any (same x) (shelf ++ take i rows)) (Some n) (first_known same (n + 1) known (drop (i + 1) rows)))
        (append_assoc shelf (take i rows) (x ∷ []) ∙ ap (λ past. shelf ++ past) (sym so_far))

    -- the first row whose name is taken is this one, or it is among the rest
    pub found : list_any (same x) (shelf ++ take i rows) ≡ true → first_known same n (shelf ++ take i rows) (drop i rows) ≡ Some n
    found e = at_row ∙ ap (λ b. cond b (Some n) (first_known same (n + 1) (shelf ++ take (i + 1) rows) (drop (i + 1) rows))) e

    pub passed : list_any (same x) (shelf ++ take i rows) ≡ false
        → first_known same n (shelf ++ take i rows) (drop i rows) ≡ first_known same (n + 1) (shelf ++ take (i + 1) rows) (drop (i + 1) rows)
    passed e = at_row ∙ ap (λ b. cond b (Some n) (first_known same (n + 1) (shelf ++ take (i + 1) rows) (drop (i + 1) rows))) e
