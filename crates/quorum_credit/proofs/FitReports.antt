-- What reports change fits, in a world whose instances are within limits.
use Rattle.std.proofs.Common.{◌≡◌, ℕ, zero, suc, ◌+◌, ◌<◌, ◌≤◌, Bool, true, false, cond, eqb, List, [], ◌∷◌, ◌++◌, length, Option, Some, None, get_or, sym, refl, ap, ◌∙◌, subst, arith, Bor, IfSome}
use Rattle.std.specs.Prelude.{◌&&◌, ◌==◌, All, IsTrue, count_by, is_none, is_some, option_map, option_and_then, unwrap_or, slice_get}
use Rattle.std.proofs.lemmas.List.Sums.{count_by-le-length, fold-append, sum_by-cons}
use Rattle.std.proofs.lemmas.Option.{slice_get_within}
use Rattle.rpc_records.specs.Members.{is_output}
use Rattle.rpc_records.specs.Ranges.{IsReport}
use Rattle.rpc_records.specs.declared.request.Report.{Report}
use Rattle.sched_book.specs.Count.{is_judged}
use Rattle.sched_book.specs.Places.{unit_at, instance_at, is_same, option_any, is_owned_by}
use Rattle.sched_book.specs.Limits.{most_instances, IsInstanceInLimits}
use Rattle.sched_book.specs.Sound.{IsBare, HasOwnerAmong, IsSoundUnit, Sound}
use Rattle.sched_book.specs.Desk.{instances_at}
use Rattle.sched_book.specs.Delta.{edited_one, edited, EditFits, EditsFit}
use Rattle.sched_book.specs.Reports.{with_number, with_changed, awaits_report, with_report}
use Rattle.sched_book.specs.declared.delta.Edit.{Edit}
use Rattle.sched_book.specs.declared.delta.Edit.TheVariants as edit
use Rattle.sched_book.specs.declared.instance.Instance.{Instance}
use Rattle.sched_book.specs.declared.instance.Outcome.{Outcome}
use Rattle.sched_book.specs.declared.instance.Owner.{Owner}
use Rattle.sched_book.specs.declared.instance.Place.{Place}
use Rattle.sched_book.specs.declared.instance.UnitBook.{UnitBook}
use Rattle.sched_book.specs.declared.world.World.{World}
use Rattle.sched_book.proofs.PlacesOf.{nth-modify_nth, length-modify_at}
use Rattle.sched_book.proofs.Recording.{instance_at-with_changed, is_same-true}
use Rattle.quorum_credit.specs.Taken.{place_among, reported_in}
use Rattle.quorum_credit.specs.Limited.{IsLimited, FitWithin}
use Rattle.sched_book.proofs.ByPlace.{all_get, all_nth}
use Rattle.quorum_credit.proofs.Recorded.{with_changed-is}

pub limited_from_sound : (w : World) → Sound w → IsLimited w
limited_from_sound w sound = record {
  few = λ unit b stands. (all_nth (IsSoundUnit w.hosts w.apps) w.units unit b sound.units stands).well.few;
  each = λ p x stands. cases p x (unit_at w p.unit) refl stands;
}
  where
    cases : (p : Place) (x : Instance) (o : Option UnitBook) → unit_at w p.unit ≡ o
        → option_and_then (λ (b : UnitBook). slice_get b.instances p.number) o ≡ Some x → HasOwnerAmong w.hosts x × IsBare x × IsInstanceInLimits x
    cases p x None is none = absurd cc
    cases p x (Some b) is there =
        let unit = (all_nth (IsSoundUnit w.hosts w.apps) w.units p.unit b sound.units is).well in (
          all_get (HasOwnerAmong w.hosts) b.instances p.number x unit.owners there,
          all_get IsBare b.instances p.number x unit.bare there,
          all_get IsInstanceInLimits b.instances p.number x unit.instances there,
        )

-- an instance within limits put at a place
module _ (f : Instance → Instance) (w : World) (p : Place) (limited : IsLimited w) where
  few_after : (unit : ℕ) (b : UnitBook) → unit_at (with_changed f w p) unit ≡ Some b → length b.instances ≤ most_instances
  few_after unit b stands = cases (eqb p.unit unit) (unit_at w unit) refl (sym (nth-modify_nth (with_number f p.number) w.units p.unit unit) ∙ stands)
    where
      cases : (same : Bool) (o : Option UnitBook) → unit_at w unit ≡ o → cond same (option_map (with_number f p.number) o) o ≡ Some b → length b.instances ≤ most_instances
      cases true None was is = absurd cc
      cases true (Some u) was is =
          let changed : with_number f p.number u ≡ b = cc in
          let few : length u.instances ≤ most_instances = limited.few unit u was in
          let long : length (with_number f p.number u).instances ≡ length u.instances = length-modify_at f u.instances p.number in
          let whole : length (with_number f p.number u).instances ≡ length b.instances = ap (λ (c : UnitBook). length c.instances) changed in
          omega arith
      cases false o was is = limited.few unit b (was ∙ is)

  each_after : (x : Instance) → instance_at w p ≡ Some x → HasOwnerAmong w.hosts (f x) × IsBare (f x) × IsInstanceInLimits (f x)
      → (q : Place) (y : Instance) → instance_at (with_changed f w p) q ≡ Some y → HasOwnerAmong w.hosts y × IsBare y × IsInstanceInLimits y
  each_after x stood good q y stands = cases (is_same p q) refl (sym (instance_at-with_changed f w p q) ∙ stands)
    where
      cases : (same : Bool) → is_same p q ≡ same → cond same (option_map f (instance_at w q)) (instance_at w q) ≡ Some y
          → HasOwnerAmong w.hosts y × IsBare y × IsInstanceInLimits y
      cases true same is =
          let equal : p ≡ q = is_same-true p q same in
          let here : instance_at w q ≡ Some x = ap (instance_at w) (sym equal) ∙ stood in
          let value : Some (f x) ≡ Some y = sym (ap (option_map f) here) ∙ is in
          let put : f x ≡ y = cc in
          subst (λ z. HasOwnerAmong w.hosts z × IsBare z × IsInstanceInLimits z) put good
      cases false same is = limited.each q y is

  pub limited_after : (x : Instance) → instance_at w p ≡ Some x → HasOwnerAmong w.hosts (f x) × IsBare (f x) × IsInstanceInLimits (f x) → IsLimited (with_changed f w p)
  limited_after x stood good = record { few = few_after; each = each_after x stood good }

-- an instance that awaits a report is not judged, so not all are judged
not_judged : (o : Option Outcome) (b : Bool) → (b && is_none o) ≡ true → is_some (option_and_then (λ (t : Outcome). t.place) o) ≡ false
not_judged None b awaits = refl
not_judged (Some r) true awaits = absurd cc
not_judged (Some r) false awaits = absurd cc

-- one more element, which counts or not
count_step : {X : Type 0} (p : X → Bool) (y : X) (xs : List X) (n : ℕ) → cond {A = ℕ} (p y) 1 0 + count_by p xs < n → count_by p (y ∷ xs) < n
count_step p y xs n less = subst (λ m. m < n) (sym (sum_by-cons (λ x. cond {A = ℕ} (p x) 1 0) y xs)) less

fewer : {X : Type 0} (p : X → Bool) (xs : List X) (i : ℕ) (x : X) → slice_get xs i ≡ Some x → p x ≡ false → count_by p xs < length xs
fewer p [] i x stands fails = absurd cc
fewer p (y ∷ xs) zero x stands fails =
    let same : y ≡ x = cc in
    count_step p y xs (suc (length xs)) (cases (p y) (ap p same ∙ fails) (count_by-le-length p xs))
  where
    cases : (b : Bool) → b ≡ false → count_by p xs ≤ length xs → cond {A = ℕ} b 1 0 + count_by p xs < suc (length xs)
    cases true is rest = absurd cc
    cases false is rest = omega arith
fewer p (y ∷ xs) (suc i) x stands fails = count_step p y xs (suc (length xs)) (cases (p y) (fewer p xs i x stands fails))
  where
    cases : (b : Bool) → count_by p xs < length xs → cond {A = ℕ} b 1 0 + count_by p xs < suc (length xs)
    cases true less = omega arith
    cases false less = omega arith

-- the place of a report is in range
place_in_range : (failed : Bool) (n : ℕ) → n < most_instances → IfSome (cond failed None (Some (1 + n))) (λ place. (1 ≤ place) × (place ≤ most_instances))
place_in_range true n less = tt
place_in_range false n less = (omega arith, omega arith)

-- a changed instance at a place fits, if it is within limits
pub done_fits : (f : Instance → Instance) (w : World) (p : Place) (b : UnitBook) (x : Instance) → IsLimited w → unit_at w p.unit ≡ Some b
    → slice_get b.instances p.number ≡ Some x → HasOwnerAmong w.hosts (f x) × IsBare (f x) × IsInstanceInLimits (f x)
    → EditFits w (edit.Instance p (f x)) × IsLimited (edited_one w (edit.Instance p (f x)))
done_fits f w p b x limited stands is good =
    let few : length b.instances ≤ most_instances = limited.few p.unit b stands in
    let within : p.number < length b.instances = slice_get_within b.instances p.number x is in
    let here : instance_at w p ≡ Some x = ap (option_and_then (λ (u : UnitBook). slice_get u.instances p.number)) stands ∙ is in (
      (
        subst (λ (o : Option UnitBook). IsTrue (is_some o)) (sym stands) refl,
        omega arith,
        subst (λ (o : Option UnitBook). IfSome o (λ (u : UnitBook). p.number ≤ length u.instances)) (sym stands) (let low : p.number ≤ length b.instances = omega arith in low),
        good.0,
        good.1,
        good.2,
      ),
      subst IsLimited (with_changed-is f w p b x stands is) (limited_after f w p limited x here good),
    )

-- an instance that the host owns has an owner, so `IsBare` holds of it
owned : (host : ℕ) (o : Option Owner) (b : Bool) → (option_any (λ n. n == host) (option_map (λ (o : Owner). o.host) o) && b) ≡ true → o ≡ None → ⊥
owned host None b awaits none = absurd cc
owned host (Some o) b awaits none = absurd cc

-- one more report, whose output is in range
module _ (host : ℕ) (r : Report) (short : IsTrue (is_output r.output)) (failed : Bool) (w : World) (p : Place) (limited : IsLimited w) where
  abbrev FitsAndStays : Edit → Type 0
  FitsAndStays c = EditFits w c × IsLimited (edited_one w c)

  put_fits : (b : UnitBook) (x : Instance) → unit_at w p.unit ≡ Some b → slice_get b.instances p.number ≡ Some x → awaits_report host x ≡ true
      → FitsAndStays (edit.Instance p (with_report r (place_among failed b.instances) x))
  put_fits b x stands is awaits =
      let f = with_report r (place_among failed b.instances) in
      let few : length b.instances ≤ most_instances = limited.few p.unit b stands in
      let less : count_by is_judged b.instances < length b.instances =
      fewer is_judged b.instances p.number x is (not_judged x.report (is_owned_by host x) awaits) in
      let here : instance_at w p ≡ Some x = ap (option_and_then (λ (u : UnitBook). slice_get u.instances p.number)) stands ∙ is in
      let before = limited.each p x here in
      done_fits f w p b x limited stands is (
        before.0,
        (λ none. absurd (owned host x.owner (is_none x.report) awaits none)),
        record {
          sent = before.2.sent;
          deadline = before.2.deadline;
          output = short;
          place = place_in_range failed (count_by is_judged b.instances) (omega arith);
        },
      )

  at_instance : (b : UnitBook) → unit_at w p.unit ≡ Some b → (o : Option Instance) → slice_get b.instances p.number ≡ o
      → (t : Bool) → unwrap_or (option_map (awaits_report host) o) false ≡ t
      → (y : Instance) → cond t (option_map (with_report r (place_among failed b.instances)) o) None ≡ Some y → FitsAndStays (edit.Instance p y)
  at_instance b stands o is false awaits y puts = absurd cc
  at_instance b stands None is true awaits y puts = absurd cc
  at_instance b stands (Some x) is true awaits y puts =
      let value : with_report r (place_among failed b.instances) x ≡ y = cc in
      subst (λ z. FitsAndStays (edit.Instance p z)) value (put_fits b x stands is awaits)

  at_unit : (o : Option UnitBook) → unit_at w p.unit ≡ o
      → (y : Instance) → reported_in host r failed (unwrap_or (option_map (λ (b : UnitBook). b.instances) o) []) p.number ≡ Some y
      → FitsAndStays (edit.Instance p y)
  at_unit None stands y puts = absurd cc
  at_unit (Some b) stands y puts = at_instance b stands (slice_get b.instances p.number) refl _ refl y puts

  pub report_fits : (y : Instance) → reported_in host r failed (instances_at w p.unit) p.number ≡ Some y → FitsAndStays (edit.Instance p y)
  report_fits y puts = at_unit (unit_at w p.unit) refl y puts

fits_more : (w : World) (cs : List Edit) (c : Edit) → EditsFit w cs → EditFits (edited w cs) c → EditsFit w (cs ++ c ∷ [])
fits_more w [] c fits one = (one, tt)
fits_more w (d ∷ ds) c fits one = (fits.0, fits_more (edited_one w d) ds c fits.1 one)

-- one more change that fits
pub fit_more : (entry : World) (cs more : List Edit) (c : Edit) → more ≡ cs ++ c ∷ []
    → (IsLimited (edited entry cs) → EditFits (edited entry cs) c × IsLimited (edited_one (edited entry cs) c)) → FitWithin entry cs → FitWithin entry more
fit_more entry cs more c pushed one before =
    let next = one before.limited in
    subst (FitWithin entry) (sym pushed)
    (record {
      fits = fits_more entry cs c before.fits next.0;
      limited = subst IsLimited (sym (fold-append edited_one entry cs (c ∷ []))) next.1;
    })

-- the changes of a call state of a sound world fit, if the call state began with none
pub call_state_fits : (w v : World) (before after : List Edit) → v ≡ w → before ≡ [] → (FitWithin v before → FitWithin v after) → Sound w → EditsFit w after
call_state_fits w v before after same none more sound =
    subst (λ u. EditsFit u after) same
    (more (record {
      fits = subst (EditsFit v) (sym none) tt;
      limited = subst (λ cs. IsLimited (edited v cs)) (sym none) (limited_from_sound v (subst Sound (sym same) sound));
    })).fits

pub fit_report : (entry w : World) (host : ℕ) (r : Report) (failed : Bool) (p : Place) (y : Instance) (cs more : List Edit)
    → w ≡ edited entry cs → reported_in host r failed (instances_at w p.unit) p.number ≡ Some y → more ≡ cs ++ edit.Instance p y ∷ []
    → IsTrue (is_output r.output) → FitWithin entry cs → FitWithin entry more
fit_report entry w host r failed p y cs more here puts pushed short =
    fit_more entry cs more (edit.Instance p y) pushed (λ limited.
    report_fits host r short failed (edited entry cs) p limited y
    (ap (λ v. reported_in host r failed (instances_at v p.unit) p.number) (sym here) ∙ puts))

-- the report at an index is in range if all reports are
pub report_there : (reports : List (Bor Report)) (i : ℕ) (r d : Bor Report) → r ≡ get_or reports i d → i < length reports
    → All (λ r. IsReport r.now) reports → IsReport r.now
report_there reports i r d is within all = subst (λ (x : Bor Report). IsReport x.now) (sym is) (all i d within)

-- in a sound world everything is within limits before any change
pub nothing_put_within : (w : World) (changes : List Edit) → changes ≡ [] → Sound w → FitWithin w changes
nothing_put_within w changes none sound =
    subst (FitWithin w) (sym none) (let within : FitWithin w [] = record { fits = tt; limited = limited_from_sound w sound } in within)
