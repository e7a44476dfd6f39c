-- If the order of a set agrees with equality, a look-up is by equality.
use Rattle.std.proofs.Common.{◌≡◌, List, [], ◌∷◌, Bool, true, false, cond, refl, sym, ◌∙◌, ap}
use Rattle.std.specs.Prelude.{◌||◌}
use Rattle.std.specs.BTreeMap.{is_at}
use Rattle.std.specs.List.{list_any}
use Rattle.std.specs.Ordering.{is_eq}
use Rattle.std.specs.declared.cmp.Ordering.{Ordering}

-- the test by which a set looks a key up
pub looked_up : {K : Type 0} (eq : K → K → Bool) (cmp : K → K → Ordering) → ((x y : K) → eq x y ≡ is_eq (cmp x y))
    → (keys : List K) (key : K) → list_any (is_at (cmp key)) keys ≡ list_any (eq key) keys
looked_up eq cmp same [] key = refl
looked_up eq cmp same (k ∷ keys) key =
    ap (λ b. b || list_any (is_at (cmp key)) keys) (sym (same key k)) ∙ ap (λ b. eq key k || b) (looked_up eq cmp same keys key)

-- one more key, as a set says it
pub one_more : (same other : Bool) → cond same true other ≡ (same || other)
one_more true other = refl
one_more false other = refl
