-- What a call's lost jobs change fits after what its reports change.
use Rattle.std.proofs.Common.{◌≡◌, ℕ, ◌≤◌, Bool, true, false, cond, List, [], ◌∷◌, ◌++◌, map, Option, Some, None, sym, refl, subst, arith}
use Rattle.std.specs.Prelude.{All, filter_map, is_some, option_map, unwrap_or, slice_get, IfSome}
use Rattle.std.specs.List.{cons_option}
use Rattle.std.proofs.lemmas.List.Elements.{All-head, All-tail}
use Rattle.rpc_records.specs.declared.request.Request.{Request}
use Rattle.sched_book.specs.Delta.{edited_one, edited, EditFits, EditsFit}
use Rattle.sched_book.specs.Limits.{last_moment, last_deadline, IsInstanceInLimits}
use Rattle.sched_book.specs.Fits.{estimate_at}
use Rattle.sched_book.specs.Lost.{is_resent, delay_at, deadline_after}
use Rattle.sched_book.specs.Places.{unit_at, instance_at, deadline_of}
use Rattle.sched_book.specs.Sound.{IsBare, HasOwnerAmong, IsWellUnit, IsWell}
use Rattle.sched_book.specs.Step.{after_reports, deadline_at, host_number, host_at_entry, lost_of}
use Rattle.sched_book.specs.declared.delta.Edit.{Edit}
use Rattle.sched_book.specs.declared.delta.Edit.TheVariants as edit
use Rattle.sched_book.specs.declared.instance.Instance.{Instance}
use Rattle.sched_book.specs.declared.instance.Lapse.TheVariants.{Dropped}
use Rattle.sched_book.specs.declared.instance.Owner.{Owner}
use Rattle.sched_book.specs.declared.instance.Place.{Place}
use Rattle.sched_book.specs.declared.instance.UnitBook.{UnitBook}
use Rattle.sched_book.specs.declared.rows.HostRow.{HostRow}
use Rattle.sched_book.specs.declared.world.World.{World}
use Rattle.sched_book.proofs.PlacesOf.{is_some-option_map}
use Rattle.lost_jobs.specs.Fated.{fated, with_fate, fate_change}
use Rattle.lost_jobs.specs.Fates.{resent_to}
use Rattle.lost_jobs.specs.declared.fates.Fate.{Fate}
use Rattle.lost_jobs.proofs.Fated.{with_changed-is, by_place, Alike, stay_alike}
use Rattle.quorum_credit.specs.Limited.{IsLimited}
use Rattle.sched_book.proofs.ByPlace.{all_get, all_nth}
use Rattle.quorum_credit.proofs.FitReports.{done_fits}
use Rattle.quorum_credit.proofs.GrownFits.{fits_then}
use Rattle.sched_machine.specs.Calling.{IsCalling}
use Rattle.sched_machine.specs.declared.caller.Calling.{Calling}
use Rattle.sched_machine.proofs.Calls.Lost.{fates_known}
use Rattle.sched_machine.proofs.OptionParts.{then_by}
use Rattle.sched_machine.proofs.Moves.Sound.{sound_is_well, reported}
use Rattle.sched_machine.proofs.Units.Lapsed.{lapse_keeps, IsGiven, given_after}
use Rattle.sched_machine.proofs.Units.Lost.{lost_given, deadline_keeps, delay_is_low, deadline_is_low}
use Rattle.sched_machine.proofs.Units.Well.{Keeps, owner_among}

-- a world that is well keeps its instances within limits
pub limited_from_well : (w : World) → IsWell w → IsLimited w
limited_from_well w well = record {
  few = λ unit b stands. (all_nth (IsWellUnit w.hosts w.apps) w.units unit b well.units stands).few;
  each = λ p x stands.
      (let b = then_by (λ (b : UnitBook). slice_get b.instances p.number) (unit_at w p.unit) x stands in
      let unit = all_nth (IsWellUnit w.hosts w.apps) w.units p.unit b.0 well.units b.1 in (
        all_get (HasOwnerAmong w.hosts) b.0.instances p.number x unit.owners b.2,
        all_get IsBare b.0.instances p.number x unit.bare b.2,
        all_get IsInstanceInLimits b.0.instances p.number x unit.instances b.2,
      ));
}

-- a fate keeps an instance within limits if its deadline is
fated_good : (hosts : List HostRow) (o : Option ℕ) (x : Instance) → ((d : ℕ) → o ≡ Some d → d ≤ last_deadline)
    → is_some x.owner ≡ true → HasOwnerAmong hosts x × IsBare x × IsInstanceInLimits x
    → HasOwnerAmong hosts (fated o x) × IsBare (fated o x) × IsInstanceInLimits (fated o x)
fated_good hosts o x low given good =
    let keeps : Keeps x (fated o x) = fated_keeps o low in
    (owner_among hosts x (fated o x) keeps good.0, keeps.bare good.1, keeps.limits good.2)
  where
    fated_keeps : (o : Option ℕ) → ((d : ℕ) → o ≡ Some d → d ≤ last_deadline) → Keeps x (fated o x)
    fated_keeps None low = lapse_keeps Dropped x given
    fated_keeps (Some d) low = deadline_keeps (λ before. d) (λ before was. low d refl) x

-- a fate removes no owner
fated_given : (o : Option ℕ) (x : Instance) → is_some (fated o x).owner ≡ is_some x.owner
fated_given None x = refl
fated_given (Some d) x = is_some-option_map _ x.owner

-- fates that follow from the places, with deadlines within limits
module _ (r : Place → Option ℕ) (before : World) (low : (p : Place) (d : ℕ) → r p ≡ Some d → d ≤ last_deadline) where
  -- one of them fits if there is an instance
  one_fits : (v : World) (p : Place) (y : Instance) → IsLimited v → is_some y.owner ≡ true → instance_at v p ≡ Some y
      → EditFits v (edit.Instance p (fated (r p) y)) × IsLimited (edited_one v (edit.Instance p (fated (r p) y)))
  one_fits v p y limited given is =
      let b = then_by (λ (b : UnitBook). slice_get b.instances p.number) (unit_at v p.unit) y is in
      done_fits (fated (r p)) v p b.0 y limited b.1 b.2 (fated_good v.hosts (r p) y (low p) given (limited.each p y is))

  -- the change of one fate, before the others
  step_fits : (v : World) (p : Place) (rest : List Edit) (o now : Option Instance) → IsLimited v → IsGiven v p → instance_at v p ≡ now
      → option_map (fated (r p)) now ≡ option_map (fated (r p)) o
      → EditsFit v rest → (IsLimited (with_fate v (by_place r before p)) → EditsFit (with_fate v (by_place r before p)) rest)
      → EditsFit v (cons_option (option_map (λ x. edit.Instance p (fated (r p) x)) o) rest)
  step_fits v p rest None now limited given is same nothing later = nothing
  step_fits v p rest (Some x) None limited given is same nothing later = absurd cc
  step_fits v p rest (Some x) (Some y) limited given is same nothing later =
      let alike : fated (r p) y ≡ fated (r p) x = cc in
      let one = one_fits v p y limited (given y is) is in
      let made : with_fate v (by_place r before p) ≡ edited_one v (edit.Instance p (fated (r p) y)) = with_changed-is v p (fated (r p)) y is in
      subst (λ z. EditFits v (edit.Instance p z) × EditsFit (edited_one v (edit.Instance p z)) rest) alike
      (one.0, subst (λ u. EditsFit u rest) made (later (subst IsLimited (sym made) one.1)))

  in_turn_fit : (v : World) (ps : List Place) → Alike r before v → IsLimited v → All (IsGiven v) ps → EditsFit v (filter_map (fate_change before) (map (by_place r before) ps))
  in_turn_fit v [] alike limited given = tt
  in_turn_fit v (p ∷ ps) alike limited given =
      step_fits v p (filter_map (fate_change before) (map (by_place r before) ps)) (instance_at before p) (instance_at v p) limited (All-head (IsGiven v) p ps given) refl (alike p)
      (in_turn_fit v ps alike limited (All-tail (IsGiven v) p ps given))
      (λ after. in_turn_fit (with_fate v (by_place r before p)) ps (stay_alike r before v p alike) after
      (λ k d within. given_after (fated (r p)) v p _ (fated_given (r p)) (All-tail (IsGiven v) p ps given k d within)))

-- a deadline in a world whose instances are within limits
deadline_was_low : (w : World) (p : Place) → IsLimited w → deadline_at w p ≤ last_deadline
deadline_was_low w p limited = cases (instance_at w p) refl
  where
    owned : (o : Option Owner) → IfSome o (λ o. o.deadline ≤ last_deadline) → deadline_of o ≤ last_deadline
    owned None low = omega arith
    owned (Some o) low = low

    cases : (o : Option Instance) → instance_at w p ≡ o → unwrap_or (option_map (λ (x : Instance). deadline_of x.owner) o) 0 ≤ last_deadline
    cases None is = omega arith
    cases (Some x) is = owned x.owner (limited.each p x is).2.deadline

-- a lost job is sent again with a deadline within limits
resent_low : (w : World) (h : HostRow) (now : ℕ) → IsWell w → now ≤ last_moment → (p : Place) (d : ℕ) → resent_to w h now p ≡ Some d → d ≤ last_deadline
resent_low w h now well early p d is = cases (is_resent w h p) is
  where
    cases : (b : Bool) → cond b (Some (deadline_after now (estimate_at w h p) (delay_at w p) (deadline_at w p))) None ≡ Some d → d ≤ last_deadline
    cases true is =
        let value : deadline_after now (estimate_at w h p) (delay_at w p) (deadline_at w p) ≡ d = cc in
        subst (λ n. n ≤ last_deadline) value
        (deadline_is_low now (estimate_at w h p) (delay_at w p) early (delay_is_low w p well) (deadline_at w p)
        (deadline_was_low w p (limited_from_well w well)))
    cases false is = absurd cc

-- what the fates of a call's lost jobs change fits after the changes of its reports
pub lost_fit : (w : World) (k : Calling) (r : Request) (now : ℕ) (before after : List Edit) (fates : List Fate) → now ≤ last_moment
    → IsCalling w r k → edited w before ≡ after_reports w k.caller r → fates ≡ fates_known w k.caller r now
    → after ≡ before ++ filter_map (fate_change (edited w before)) fates → EditsFit w before → EditsFit w after
lost_fit w k r now before after fates early is made known pushed fits =
    let left : World = after_reports w k.caller r in
    let limited : IsLimited left =
    limited_from_well left (reported w k.caller r now is.sound is.admitted.caller is.room is.admitted.limits early) in
    let behind : EditsFit left (filter_map (fate_change left) (fates_known w k.caller r now)) =
    in_turn_fit (resent_to w (host_at_entry w k.caller r) now) left (resent_low w (host_at_entry w k.caller r) now (sound_is_well w is.sound) early)
    left (lost_of w k.caller r) (λ p. refl) limited (lost_given left (host_number w k.caller) r.other_results) in
    subst (EditsFit w) (sym pushed)
    (fits_then w before (filter_map (fate_change (edited w before)) fates) fits
    (subst (λ v. EditsFit v (filter_map (fate_change v) fates)) (sym made)
    (subst (λ fs. EditsFit left (filter_map (fate_change left) fs)) (sym known) behind)))
