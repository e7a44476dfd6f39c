-- One more report, as a change of the instance that awaits it.
use Rattle.std.proofs.Common.{◌≡◌, ℕ, zero, suc, ◌-◌, Bool, true, false, cond, eqb, List, [], ◌∷◌, Option, Some, None, sym, refl, ap, ◌∙◌}
use Rattle.std.specs.Prelude.{◌+◌, count_by, option_map, option_and_then, unwrap_or, slice_get}
use Rattle.rpc_records.specs.declared.request.Report.{Report}
use Rattle.sched_book.specs.Count.{is_judged, has_failed}
use Rattle.sched_book.specs.Places.{nth, unit_at, passes, status_at}
use Rattle.sched_book.specs.Desk.{instances_at}
use Rattle.sched_book.specs.Delta.{with_instance, edited_one}
use Rattle.sched_book.specs.Reports.{modify_at, modify_nth, with_number, with_changed, awaits_report, with_report, judged_place, next_place, record_at}
use Rattle.sched_book.specs.declared.delta.Edit.TheVariants as edit
use Rattle.sched_book.specs.declared.instance.Instance.{Instance}
use Rattle.sched_book.specs.declared.instance.Place.{Place}
use Rattle.sched_book.specs.declared.instance.UnitBook.{UnitBook}
use Rattle.sched_book.specs.declared.world.World.{World}
use Rattle.sched_book.proofs.Changes.{modify_at-put}
use Rattle.quorum_credit.specs.Taken.{place_among, reported_in}

-- two functions that agree on the element at an index change the list alike
modify_at-same : {X : Type 0} (f g : X → X) (xs : List X) (i : ℕ) (x : X) → slice_get xs i ≡ Some x → f x ≡ g x → modify_at f xs i ≡ modify_at g xs i
modify_at-same f g [] i x stands same = refl
modify_at-same f g (y ∷ xs) zero x stands same = let is : y ≡ x = cc in ap (λ z. z ∷ xs) (ap f is ∙ same ∙ sym (ap g is))
modify_at-same f g (y ∷ xs) (suc i) x stands same = ap (λ ys. y ∷ ys) (modify_at-same f g xs i x stands same)

pub modify_nth-same : {X : Type 0} (f g : X → X) (xs : List X) (n : ℕ) (x : X) → nth xs n ≡ Some x → f x ≡ g x → modify_nth f xs n ≡ modify_nth g xs n
modify_nth-same {X} f g xs n x stands same = cases (eqb n 0) stands
  where
    cases : (b : Bool) → cond b None (slice_get xs (n - 1)) ≡ Some x → cond b xs (modify_at f xs (n - 1)) ≡ cond b xs (modify_at g xs (n - 1))
    cases true none = refl
    cases false there = modify_at-same f g xs (n - 1) x there same

-- a change of the instance at a place, as a change of the world
pub with_changed-is : (f : Instance → Instance) (w : World) (p : Place) (b : UnitBook) (x : Instance) → unit_at w p.unit ≡ Some b
    → slice_get b.instances p.number ≡ Some x → with_changed f w p ≡ edited_one w (edit.Instance p (f x))
with_changed-is f w p b x stands is =
    ap (λ units. record w { units = units })
    (modify_nth-same (with_number f p.number) (with_instance p.number (f x)) w.units p.unit b stands
    (ap (λ xs. record b { instances = xs }) (modify_at-put f b.instances p.number x is)))

module _ (entry : World) (host : ℕ) (w : World) (r : Report) (p : Place) where
  abbrev failed : Bool
  failed = has_failed (status_at entry p.unit)

  abbrev put : Option Instance → World
  put None = w
  put (Some x) = edited_one w (edit.Instance p x)

  abbrev test : Option UnitBook → Bool
  test o = unwrap_or (option_and_then (λ (b : UnitBook). option_map (awaits_report host) (slice_get b.instances p.number)) o) false

  -- the instance awaits the report, or not
  at_instance : (b : UnitBook) → unit_at w p.unit ≡ Some b → (o : Option Instance) → slice_get b.instances p.number ≡ o
      → (t : Bool) → unwrap_or (option_map (awaits_report host) o) false ≡ t
      → cond t (with_changed (with_report r (judged_place entry w p.unit)) w p) w
      ≡ put (cond t (option_map (with_report r (place_among failed b.instances)) o) None)
  at_instance b stands None is t passes = let never : t ≡ false = sym passes in ap (λ (s : Bool). cond s (with_changed (with_report r (judged_place entry w p.unit)) w p) w) never
      ∙ sym (ap (λ (s : Bool). put (cond s None None)) never)
  at_instance b stands (Some x) is false passes = refl
  at_instance b stands (Some x) is true passes =
      let next : next_place w p.unit ≡ 1 + count_by is_judged b.instances = ap (λ o. unwrap_or (option_map (λ (b : UnitBook). 1 + count_by is_judged b.instances) o) 1) stands in
      with_changed-is (with_report r (judged_place entry w p.unit)) w p b x stands is
      ∙ ap (λ n. edited_one w (edit.Instance p (with_report r (cond failed None (Some n)) x))) next

  at_unit : (o : Option UnitBook) → unit_at w p.unit ≡ o
      → cond (test o) (with_changed (with_report r (judged_place entry w p.unit)) w p) w
      ≡ put (reported_in host r failed (unwrap_or (option_map (λ (b : UnitBook). b.instances) o) []) p.number)
  at_unit None stands = refl
  at_unit (Some b) stands = at_instance b stands (slice_get b.instances p.number) refl _ refl

  pub record_at-is : record_at entry host r w p ≡ put (reported_in host r failed (instances_at w p.unit) p.number)
  record_at-is = at_unit (unit_at w p.unit) refl

-- a report that its instance awaits
pub report_some : (entry : World) (host : ℕ) (w : World) (r : Report) (p : Place) (x : Instance)
    → reported_in host r (has_failed (status_at entry p.unit)) (instances_at w p.unit) p.number ≡ Some x
    → edited_one w (edit.Instance p x) ≡ record_at entry host r w p
report_some entry host w r p x some = sym (record_at-is entry host w r p ∙ ap (put entry host w r p) some)
