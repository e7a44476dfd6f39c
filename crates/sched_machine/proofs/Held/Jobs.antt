-- What a host holds after its call, by places.
use Rattle.std.proofs.Common.{◌≡◌, ◌⊎◌, inl, inr, ℕ, Bool, true, false, cond, not, List, [], Option, Some, None, sym, refl, ap, ◌∙◌, subst}
use Rattle.std.specs.Prelude.{◌&&◌, ◌==◌, Contains, filter, is_none, option_map, option_and_then, slice_get}
use Rattle.std.specs.List.{list_any}
use Rattle.std.specs.Str.{bytes_eq}
use Rattle.std.proofs.lemmas.List.Elements.{All-contains}
use Rattle.rpc_records.specs.declared.reply.Reply.{Reply}
use Rattle.rpc_records.specs.declared.request.Request.{Request}
use Rattle.sched_book.specs.Fits.{is_eligible, is_for}
use Rattle.sched_book.specs.Lost.{is_listed, is_resent, unlisted}
use Rattle.sched_book.specs.Places.{instance_at, held_by, is_held_by, is_owned_by, name_at, option_any}
use Rattle.sched_book.specs.Sound.{IsBare, IsSoundUnit, Sound}
use Rattle.sched_book.specs.Step.{RpcStep, after_grant, after_lost, after_reports, after_settlement, asking_of, at_entry, granted, host_number, host_at_entry, lost_of, resent_of}
use Rattle.sched_book.specs.declared.instance.Instance.{Instance}
use Rattle.sched_book.specs.declared.instance.Owner.{Owner}
use Rattle.sched_book.specs.declared.instance.Place.{Place}
use Rattle.sched_book.specs.declared.instance.UnitBook.{UnitBook}
use Rattle.sched_book.specs.declared.machine.Call.TheVariants as call
use Rattle.sched_book.specs.declared.machine.Caller.{Caller}
use Rattle.sched_book.specs.declared.settings.Settings.{Settings}
use Rattle.sched_book.specs.declared.world.World.{World}
use Rattle.sched_book.proofs.Newest.{in_filter, passed_filter, passes_filter}
use Rattle.sched_book.proofs.PlaceChanges.{lost_jobs_are_by_place, reports_change_instances_alone}
use Rattle.sched_book.proofs.PlacesWhere.{none_missed}
use Rattle.sched_book.proofs.Recording.{passes-is}
use Rattle.job_choice.proofs.Candidates.{Stood, stood}
use Rattle.sched_book.proofs.ByPlace.{all_get, all_nth}
use Rattle.sched_machine.specs.Asked.{holds}
use Rattle.sched_machine.specs.Held.{HeldByPlaces, IsRetained}
use Rattle.sched_machine.proofs.Alike.Settled.{the_settled_world_is_like_the_first}
use Rattle.sched_machine.proofs.Alike.Units.{row_at}
use Rattle.sched_machine.proofs.Classes.Left.{classed_like, holds_same}
use Rattle.sched_machine.proofs.Calls.Said.{name_by}
use Rattle.sched_machine.proofs.Held.Settled.{is_held_in, lost_held, lost_hold_no_more, lost_resent, reports_end_holding, settled_same, IsUnspoiled, grant_gives, grant_keeps, granted_is_held}
use Rattle.sched_machine.proofs.Moves.Moves.{free_first, lost_is_held, Lasts, settlement_lasts}

-- nobody owns an instance that was given to nobody
free_not_owned : (host : ℕ) (x : Instance) → x.owner ≡ None → is_owned_by host x ≡ false
free_not_owned host x free = ap (λ (o : Option Owner). option_any (λ n. n == host) (option_map (λ (o : Owner). o.host) o)) free

module _ (w : World) (c : Caller) (r : Request) where
  -- the call's host, and the world after its reports
  abbrev host : ℕ
  host = host_number w c

  abbrev reported : World
  reported = after_reports w c r

  -- the names stay through the reports
  name_stays : (p : Place) → name_at reported p ≡ name_at w p
  name_stays p = name_by w reported p (row_at w reported (reports_change_instances_alone (at_entry w c r) host r.results).units p.unit)

  -- the same of what is listed
  listed_stays : (names : List (List ℕ)) (p : Place) → is_listed reported names p ≡ is_listed w names p
  listed_stays names p = ap (λ name. list_any (bytes_eq name) names) (name_stays p)

  -- the settings stay too
  settings_stay : reported.settings ≡ w.settings
  settings_stay = (reports_change_instances_alone (at_entry w c r) host r.results).settings

  -- what is lost the host held after the reports
  lost_was_held : (p : Place) → Contains (lost_of w c r) p → holds reported host p ≡ true
  lost_was_held p there = lost_is_held reported host r.other_results p there

  module _ (now : ℕ) where
    -- what the lost jobs leave, and what settlement makes of it
    abbrev left : World
    left = after_lost w c r now

    abbrev settlement : World
    settlement = after_settlement w c r now

    -- an instance that is sent again is held
    settled_resent : (p : Place) → Contains (resent_of w c r) p → holds settlement host p ≡ true
    settled_resent p there =
        settled_same (at_entry w c r) left host p
        ∙ lost_resent (at_entry w c r) (host_at_entry w c r) now host p (lost_of w c r) reported
        (passed_filter (is_resent (at_entry w c r) (host_at_entry w c r)) (lost_of w c r) p there)
        ∙ lost_was_held p (in_filter (is_resent (at_entry w c r) (host_at_entry w c r)) (lost_of w c r) p there)

    -- an eligible instance is neither reported nor lapsed
    eligible_is_unspoiled : Sound w → (p : Place) → is_eligible w (asking_of w c r now).host p ≡ true → IsUnspoiled settlement p
    eligible_is_unspoiled sound p eligible =
        record { x = at.x; stands = settlement_lasts Stays w c r p stays now (λ never. absurd cc) stands; report = bare.1; lapse = bare.0 }
      where
        at : Stood w (λ b x. is_none x.owner && is_for w (asking_of w c r now).host b) p
        at = stood w (λ b x. is_none x.owner && is_for w (asking_of w c r now).host b) p eligible

        stands : instance_at w p ≡ Some at.x
        stands = ap (option_and_then (λ (b : UnitBook). slice_get b.instances p.number)) at.at ∙ at.stands

        free : at.x.owner ≡ None
        free = free_first at.x.owner (is_for w (asking_of w c r now).host at.book) at.passed

        bare : (at.x.lapse ≡ None) × (at.x.report ≡ None)
        bare =
            all_get IsBare at.book.instances p.number at.x
            (all_nth (IsSoundUnit w.hosts w.apps) w.units p.unit at.book sound.units at.at).well.bare at.stands free

        Stays : Option Instance → Option Instance → Type 0
        Stays i j = i ≡ Some at.x → j ≡ Some at.x

        mine : (x : Instance) → is_owned_by host x ≡ true → Some x ≡ Some at.x → ⊥
        mine x own is =
            let same : x ≡ at.x = cc in
            let never : false ≡ true = sym (free_not_owned host at.x free) ∙ ap (is_owned_by host) (sym same) ∙ own in
            absurd cc

        stays : Lasts w (call.Rpc c r) p Stays
        stays = record {
          same = λ i is. is;
          chain = λ i j k first second is. second (first is);
          reported = λ t place x none own later is. absurd (mine x own is);
          lapses = λ lapse x none own is. absurd (mine x own is);
          moved = λ f o x owned own again is. absurd (mine x own is);
        }

  -- what is lost, if lost jobs are sent again and the client lists what it has
  module _ (names : List (List ℕ)) (resends : w.settings.resend_lost_results ≡ true) (lists : r.other_results ≡ Some names) where
    -- it is what the host holds after the reports and does not list
    lost_are : lost_of w c r ≡ filter (λ p. not (is_listed reported names p)) (held_by reported host)
    lost_are =
        ap (λ (s : Settings). cond s.resend_lost_results (unlisted reported host r.other_results) []) settings_stay
        ∙ ap (λ (b : Bool). cond b (unlisted reported host r.other_results) []) resends
        ∙ ap (unlisted reported host) lists

    -- it is not listed
    lost_not_listed : (p : Place) → Contains (lost_of w c r) p → is_listed reported names p ≡ true → ⊥
    lost_not_listed p there listed =
        let fails : not (is_listed reported names p) ≡ true =
        passed_filter (λ p. not (is_listed reported names p)) (held_by reported host) p (subst (λ ps. Contains ps p) lost_are there) in
        let never : false ≡ true = sym (ap not listed) ∙ fails in
        absurd cc

    -- what is held and not listed is lost
    held_and_unlisted : (p : Place) → holds reported host p ≡ true → is_listed reported names p ≡ false → Contains (lost_of w c r) p
    held_and_unlisted p held unlisted =
        subst (λ ps. Contains ps p) (sym lost_are)
        (passes_filter (λ p. not (is_listed reported names p)) (held_by reported host) p (none_missed reported (λ b x. is_held_by host x) p held) (ap not unlisted))

    module _ (now : ℕ) where
      -- what is held after settlement is retained, or sent again
      settled_from : (p : Place) → holds (settlement now) host p ≡ true → IsRetained w c r names p ⊎ Contains (resent_of w c r) p
      settled_from p held = cases (is_listed reported names p) refl
        where
          then : holds (left now) host p ≡ true
          then = sym (settled_same (at_entry w c r) (left now) host p) ∙ held

          before : holds reported host p ≡ true
          before = lost_hold_no_more (at_entry w c r) (host_at_entry w c r) now host p (lost_of w c r) reported then

          cases : (b : Bool) → is_listed reported names p ≡ b → IsRetained w c r names p ⊎ Contains (resent_of w c r) p
          cases true listed =
              inl (record { kept = (reports_end_holding w c r p).0 before; listed = sym (listed_stays names p) ∙ listed })
          cases false unlisted =
              let there : Contains (lost_of w c r) p = held_and_unlisted p before unlisted in
              inr (passes_filter (is_resent (at_entry w c r) (host_at_entry w c r)) (lost_of w c r) p there
              (lost_held (at_entry w c r) (host_at_entry w c r) now host p (lost_of w c r) reported there then))

      -- a retained instance is held
      settled_retained : (p : Place) → IsRetained w c r names p → holds (settlement now) host p ≡ true
      settled_retained p kept =
          settled_same (at_entry w c r) (left now) host p
          ∙ passes-is (left now) (is_held_by host) p
          ∙ ap (is_held_in host) ((lost_jobs_are_by_place (at_entry w c r) (host_at_entry w c r) now reported (lost_of w c r)).other p nowhere)
          ∙ sym (passes-is reported (is_held_by host) p)
          ∙ (reports_end_holding w c r p).1 kept.kept
        where
          nowhere : Contains (lost_of w c r) p → ⊥
          nowhere there = lost_not_listed p there (listed_stays names p ∙ kept.listed)

-- After a step: a grant adds its jobs and removes nothing, and the classes that workunits take keep what is held.
module _ (w after : World) (c : Caller) (r : Request) (now : ℕ) (reply : Reply) (step : RpcStep w c r now after reply) (p : Place) where
  abbrev settled_world : World
  settled_world = after_settlement w c r now

  abbrev given : World
  given = granted settled_world (host_number w c) now step.jobs

  given_same : holds given (host_number w c) p ≡ holds after (host_number w c) p
  given_same =
      sym (ap (λ (v : World). holds v (host_number w c) p) step.left
      ∙ holds_same given (after_grant w c r now step.jobs) (classed_like w (host_at_entry w c r) step.jobs given) (host_number w c) p)

  step_keeps : holds settled_world (host_number w c) p ≡ true → holds after (host_number w c) p ≡ true
  step_keeps held = sym given_same ∙ grant_keeps (host_number w c) now p step.jobs settled_world held

  -- what is sent again is held
  pub sent_is_held : Contains (resent_of w c r) p → holds after (host_number w c) p ≡ true
  sent_is_held sent = step_keeps (settled_resent w c r now p sent)

  -- so is what is granted
  pub job_is_held : Sound w → Contains step.jobs p → holds after (host_number w c) p ≡ true
  job_is_held sound job =
      sym given_same
      ∙ granted_is_held (host_number w c) now p step.jobs settled_world job
      (eligible_is_unspoiled w c r now sound p
      (sym ((the_settled_world_is_like_the_first w c r now sound step.caller step.room).eligible p)
      ∙ All-contains (λ q. is_eligible settled_world (asking_of w c r now).host q ≡ true) step.jobs p step.grant.eligible job))

-- the law
pub held_jobs_by_place : HeldByPlaces
held_jobs_by_place w after c r now reply names step sound resends lists p = record {
  from = λ held. elim (grant_gives (host_number w c) now p step.jobs (after_settlement w c r now) (given_same w after c r now reply step p ∙ held)) [
    | inr job ↦ inr (inr job)
    | inl before ↦ elim (settled_from w c r names resends lists now p before) [
      | inl kept ↦ inl kept
      | inr sent ↦ inr (inl sent)
    ]
  ];
  retained = λ kept. step_keeps w after c r now reply step p (settled_retained w c r names resends lists now p kept);
  resent = sent_is_held w after c r now reply step p;
  granted = job_is_held w after c r now reply step p sound;
}
