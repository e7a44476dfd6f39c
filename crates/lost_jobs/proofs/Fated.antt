-- The fates of lost jobs, as changes and as what they do to a world.
use Rattle.std.proofs.Common.{◌≡◌, ℕ, zero, suc, ◌-◌, Bool, true, false, cond, eqb, List, [], ◌∷◌, map, Option, Some, None, sym, refl, ap, ◌∙◌, subst}
use Rattle.std.specs.Prelude.{fold, filter_map, option_map, option_and_then, slice_get}
use Rattle.std.specs.List.{cons_option}
use Rattle.sched_book.specs.Places.{nth, unit_at, instance_at, is_same}
use Rattle.sched_book.specs.Delta.{with_instance, edited_one, edited}
use Rattle.sched_book.specs.Reports.{modify_at, modify_nth, with_number, with_changed}
use Rattle.sched_book.specs.declared.delta.Edit.{Edit}
use Rattle.sched_book.specs.declared.delta.Edit.TheVariants as edit
use Rattle.sched_book.specs.declared.instance.Instance.{Instance}
use Rattle.sched_book.specs.declared.instance.Owner.{Owner}
use Rattle.sched_book.specs.declared.instance.Place.{Place}
use Rattle.sched_book.specs.declared.instance.UnitBook.{UnitBook}
use Rattle.sched_book.specs.declared.world.World.{World}
use Rattle.sched_book.proofs.Changes.{modify_at-put}
use Rattle.sched_book.proofs.Recording.{instance_at-with_changed, is_same-true}
use Rattle.lost_jobs.specs.Fated.{fated, with_fate, fate_change, AreByPlace}
use Rattle.lost_jobs.specs.declared.fates.Fate.{Fate}

-- two functions that agree on the element at an index change the list alike
modify_at-same : {X : Type 0} (f g : X → X) (xs : List X) (i : ℕ) → ((x : X) → slice_get xs i ≡ Some x → f x ≡ g x)
    → modify_at f xs i ≡ modify_at g xs i
modify_at-same f g [] i same = refl
modify_at-same f g (x ∷ xs) zero same = ap (λ y. y ∷ xs) (same x refl)
modify_at-same f g (x ∷ xs) (suc i) same = ap (λ ys. x ∷ ys) (modify_at-same f g xs i same)

modify_nth-same : {X : Type 0} (f g : X → X) (xs : List X) (n : ℕ) → ((x : X) → nth xs n ≡ Some x → f x ≡ g x)
    → modify_nth f xs n ≡ modify_nth g xs n
modify_nth-same {X} f g xs n same = cases (eqb n 0) same
  where
    cases : (b : Bool) → ((x : X) → cond b None (slice_get xs (n - 1)) ≡ Some x → f x ≡ g x)
        → cond b xs (modify_at f xs (n - 1)) ≡ cond b xs (modify_at g xs (n - 1))
    cases true same = refl
    cases false same = modify_at-same f g xs (n - 1) same

-- changing nothing
modify_at-none : {X : Type 0} (xs : List X) (i : ℕ) → modify_at (λ x. x) xs i ≡ xs
modify_at-none [] i = refl
modify_at-none (x ∷ xs) zero = refl
modify_at-none (x ∷ xs) (suc i) = ap (λ ys. x ∷ ys) (modify_at-none xs i)

modify_nth-none : {X : Type 0} (xs : List X) (n : ℕ) → modify_nth (λ x. x) xs n ≡ xs
modify_nth-none xs n = cases (eqb n 0)
  where
    cases : (b : Bool) → cond b xs (modify_at (λ x. x) xs (n - 1)) ≡ xs
    cases true = refl
    cases false = modify_at-none xs (n - 1)

module _ (w : World) (p : Place) where
  stands_at : (b : UnitBook) → unit_at w p.unit ≡ Some b → instance_at w p ≡ slice_get b.instances p.number
  stands_at b is = ap (option_and_then (λ (u : UnitBook). slice_get u.instances p.number)) is

  pub with_changed-same : (f g : Instance → Instance) → ((x : Instance) → instance_at w p ≡ Some x → f x ≡ g x) → with_changed f w p ≡ with_changed g w p
  with_changed-same f g same =
      ap (λ units. record w { units = units })
      (modify_nth-same (with_number f p.number) (with_number g p.number) w.units p.unit
      (λ b is. ap (λ xs. record b { instances = xs }) (modify_at-same f g b.instances p.number (λ x there. same x (stands_at b is ∙ there)))))

  -- if there is no instance, nothing is changed
  with_changed-none : (f : Instance → Instance) → instance_at w p ≡ None → with_changed f w p ≡ w
  with_changed-none f none =
      with_changed-same f (λ x. x) (λ x stands. let never : None ≡ Some x = sym none ∙ stands in absurd cc)
      ∙ ap (λ units. record w { units = units })
      (modify_nth-same (with_number (λ x. x) p.number) (λ b. b) w.units p.unit
      (λ b is. ap (λ xs. record b { instances = xs }) (modify_at-none b.instances p.number))
      ∙ modify_nth-none w.units p.unit)

  -- if there is one, the changed instance is put in its place
  pub with_changed-is : (f : Instance → Instance) (x : Instance) → instance_at w p ≡ Some x → with_changed f w p ≡ edited_one w (edit.Instance p (f x))
  with_changed-is f x stands =
      ap (λ units. record w { units = units })
      (modify_nth-same (with_number f p.number) (with_instance p.number (f x)) w.units p.unit
      (λ b is. ap (λ xs. record b { instances = xs }) (modify_at-put f b.instances p.number x (sym (stands_at b is) ∙ stands))))

-- a fate twice is the fate once
fated_twice : (r : Option ℕ) (x : Instance) → fated r (fated r x) ≡ fated r x
fated_twice None x = refl
fated_twice (Some d) x = ap (λ o. record x { owner = o }) (moved x.owner)
  where
    moved : (o : Option Owner)
        → option_map (λ (o : Owner). record o { deadline = d }) (option_map (λ (o : Owner). record o { deadline = d }) o)
        ≡ option_map (λ (o : Owner). record o { deadline = d }) o
    moved None = refl
    moved (Some o) = refl

module _ (r : Place → Option ℕ) (before : World) where
  abbrev pub by_place : Place → Fate
  by_place p = record { place = p; resent = r p }

  -- at each place the fate of the instance is that of the instance before any fate
  abbrev pub Alike : World → Type 0
  Alike w = (p : Place) → option_map (fated (r p)) (instance_at w p) ≡ option_map (fated (r p)) (instance_at before p)

  pub stay_alike : (w : World) (q : Place) → Alike w → Alike (with_fate w (by_place q))
  stay_alike w q alike p =
      ap (option_map (fated (r p))) (instance_at-with_changed (fated (r q)) w q p)
      ∙ cases (is_same q p) refl ∙ alike p
    where
      twice : (o : Option Instance) → option_map (fated (r p)) (option_map (fated (r p)) o) ≡ option_map (fated (r p)) o
      twice None = refl
      twice (Some x) = ap Some (fated_twice (r p) x)

      cases : (s : Bool) → is_same q p ≡ s
          → option_map (fated (r p)) (cond s (option_map (fated (r q)) (instance_at w p)) (instance_at w p)) ≡ option_map (fated (r p)) (instance_at w p)
      cases false is = refl
      cases true is =
          ap (λ z. option_map (fated (r p)) (option_map (fated (r z)) (instance_at w p))) (is_same-true q p is)
          ∙ twice (instance_at w p)

  -- one fate as a change
  one : (w : World) (p : Place) (rest : List Edit) (o now : Option Instance) → instance_at w p ≡ now
      → option_map (fated (r p)) now ≡ option_map (fated (r p)) o
      → edited w (cons_option (option_map (λ x. edit.Instance p (fated (r p) x)) o) rest) ≡ edited (with_fate w (by_place p)) rest
  one w p rest None None is same = ap (λ z. edited z rest) (sym (with_changed-none w p (fated (r p)) is))
  one w p rest None (Some y) is same = absurd cc
  one w p rest (Some x) None is same = absurd cc
  one w p rest (Some x) (Some y) is same =
      let alike : fated (r p) y ≡ fated (r p) x = cc in
      ap (λ z. edited z rest)
      (ap (λ z. edited_one w (edit.Instance p z)) (sym alike) ∙ sym (with_changed-is w p (fated (r p)) y is))

  in_turn : (w : World) (ps : List Place) → Alike w → edited w (filter_map (fate_change before) (map by_place ps)) ≡ fold with_fate w (map by_place ps)
  in_turn w [] alike = refl
  in_turn w (p ∷ ps) alike =
      one w p (filter_map (fate_change before) (map by_place ps)) (instance_at before p) (instance_at w p) refl (alike p)
      ∙ in_turn (with_fate w (by_place p)) ps (stay_alike w p alike)

-- the changes of fates that follow from the places do the same as these fates in turn
pub made_by_fates : (w : World) (fates : List Fate) → AreByPlace fates → edited w (filter_map (fate_change w) fates) ≡ fold with_fate w fates
made_by_fates w fates by =
    subst (λ fs. edited w (filter_map (fate_change w) fs) ≡ fold with_fate w fs) (sym by.are)
    (in_turn by.resent_at w w by.places (λ p. refl))
