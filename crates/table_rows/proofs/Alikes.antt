-- Two lists that are compared item by item.
use Rattle.std.proofs.Common.{◌≡◌, ℕ, ◌+◌, ◌<◌, Bool, false, true≢false, List, [], ◌∷◌, ◌++◌, length, take, get_or, sym, ap, ap₂, subst, ◌∙◌, inl, inr}
use Rattle.std.specs.Bool.{Decides}
use Rattle.std.proofs.lemmas.List.{take_more, get_or_default}
use Rattle.sqlite_rules.specs.Lists.{Has}
use Rattle.table_rows.specs.Plain.{Each}
use Rattle.table_meaning.proofs.RowsHeld.{has_get_or}

each_more : {X : Type 0} (P : X → Type 0) (xs : List X) (y : X) → Each P xs → P y → Each P (xs ++ y ∷ [])
each_more P [] y each plain = λ x has. elim has [ inl this ↦ subst P (sym this) plain | inr later ↦ absurd later ]
each_more P (z ∷ xs) y each plain = λ x has. elim has [
  | inl this ↦ each x (inl this)
  | inr later ↦ each_more P xs y (λ w more. each w (inr more)) plain x later
]

-- an item of each list, at one place
module _ {X : Type 0} (P : X → Type 0) (xs ys : List X) (i : ℕ) (x y : X) (in_xs : i < length xs) (in_ys : i < length ys) (is_x : x ≡ get_or xs i x) (is_y : y ≡ get_or ys i y) where
  pub items_differ : (alike : Bool) → alike ≡ false → Decides alike ((x ≡ y) × P y) → Decides false ((xs ≡ ys) × Each P ys)
  items_differ alike differ decides = (
    λ no. absurd (true≢false (sym no)),
    λ both.
        let same : x ≡ y = is_x ∙ ap (λ l. get_or l i x) both.0 ∙ get_or_default ys i x y in_ys ∙ sym is_y in
        let plain : P y = both.1 y (subst (Has ys) (sym is_y) (has_get_or ys i y in_ys)) in
        absurd (true≢false (sym (decides.1 (same, plain)) ∙ differ)),
  )

  pub items_more : (x ≡ y) × P y → (take i xs ≡ take i ys) × Each P (take i ys) → (take (i + 1) xs ≡ take (i + 1) ys) × Each P (take (i + 1) ys)
  items_more both so_far =
      let more_x : take (i + 1) xs ≡ take i xs ++ x ∷ [] = take_more xs i x in_xs ∙ ap (λ z. take i xs ++ z ∷ []) (sym is_x) in
      let more_y : take (i + 1) ys ≡ take i ys ++ y ∷ [] = take_more ys i y in_ys ∙ ap (λ z. take i ys ++ z ∷ []) (sym is_y) in (
        more_x ∙ ap₂ (λ l z. l ++ z ∷ []) so_far.0 both.0 ∙ sym more_y,
        subst (Each P) (sym more_y) (each_more P (take i ys) y so_far.1 both.1),
      )
