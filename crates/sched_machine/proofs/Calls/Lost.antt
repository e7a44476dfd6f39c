-- What a call's lost jobs change, after what its reports change.
use Rattle.std.proofs.Common.{◌≡◌, ℕ, List, ◌++◌, map, sym, ap, ◌∙◌, subst}
use Rattle.std.specs.Prelude.{filter_map}
use Rattle.std.proofs.lemmas.List.Sums.{fold-append}
use Rattle.rpc_records.specs.declared.request.Request.{Request}
use Rattle.sched_book.specs.Delta.{edited_one, edited}
use Rattle.sched_book.specs.Lost.{lost}
use Rattle.sched_book.specs.Step.{at_entry, after_reports, after_lost, host_number, host_at_entry, lost_of, resent_of}
use Rattle.sched_book.specs.declared.delta.Edit.{Edit}
use Rattle.sched_book.specs.declared.machine.Caller.{Caller}
use Rattle.sched_book.specs.declared.world.World.{World}
use Rattle.lost_jobs.specs.Fated.{fate_change}
use Rattle.lost_jobs.specs.Fates.{fate}
use Rattle.lost_jobs.specs.Holding.{HoldsNoMore}
use Rattle.lost_jobs.specs.declared.fates.Fate.{Fate}
use Rattle.lost_jobs.proofs.Fated.{made_by_fates}
use Rattle.lost_jobs.proofs.Reported.{reports_hold_no_more, reports_keep_deadlines}
use Rattle.lost_jobs.proofs.Resending.{fates_resend_or_drop}
use Rattle.sched_machine.specs.Asked.{resent_places}
use Rattle.sched_machine.specs.Calling.{IsCalling}
use Rattle.sched_machine.specs.declared.caller.Calling.{Calling}
use Rattle.sched_book.specs.declared.instance.Place.{Place}
use Rattle.sched_machine.proofs.Calls.Asked.{resent_are}

-- the fates of a call's lost jobs
abbrev pub fates_known : World → Caller → Request → ℕ → List Fate
fates_known w c r now = map (fate w (host_at_entry w c r) now) (lost_of w c r)

module _ (w : World) (c : Caller) (r : Request) where
  -- the caller's host holds no more after the reports than before
  pub host_holds_no_more : HoldsNoMore w (after_reports w c r) (host_number w c)
  host_holds_no_more = reports_hold_no_more (at_entry w c r) (host_number w c) r.results

  module _ (now : ℕ) where
    -- the changes of the fates, after those of the reports, leave what the lost jobs leave
    pub lost_left : (before after : List Edit) (fates : List Fate) → edited w before ≡ after_reports w c r → fates ≡ fates_known w c r now
        → after ≡ before ++ filter_map (fate_change (edited w before)) fates → edited w after ≡ after_lost w c r now
    lost_left before after fates reported known pushed =
        let law = fates_resend_or_drop (at_entry w c r) (after_reports w c r) (host_at_entry w c r) now (host_number w c) r.other_results
        (reports_keep_deadlines (at_entry w c r) (host_number w c) r.results) in
        ap (edited w) pushed
        ∙ fold-append edited_one w before (filter_map (fate_change (edited w before)) fates)
        ∙ ap (λ fs. edited (edited w before) (filter_map (fate_change (edited w before)) fs)) known
        ∙ ap (λ v. edited v (filter_map (fate_change v) (fates_known w c r now))) reported
        ∙ made_by_fates (after_reports w c r) (fates_known w c r now) law.0
        ∙ law.1

    -- the fates of these jobs that are sent again
    pub lost_resent : (fates : List Fate) → fates ≡ fates_known w c r now → resent_places fates ≡ resent_of w c r
    lost_resent fates known = ap resent_places known ∙ resent_are w (host_at_entry w c r) now (lost_of w c r)

-- What the steps say that found a call's lost jobs and put their fates. The call found the world w, its reports left v,
-- and the fates left u.
pub record AreLost (w v u : World) (r : Request) (k : Calling) (now : ℕ) (places : List Place) (fates : List Fate) (before after : List Edit) : Type 0 where
  pub found : HoldsNoMore w v k.number → places ≡ lost v k.number r.other_results
  pub told : fates ≡ map (fate w k.host now) places
  pub here : v ≡ edited w before
  pub there : u ≡ edited w after
  pub put : after ≡ before ++ filter_map (fate_change v) fates

module _ (w v u : World) (r : Request) (k : Calling) (now : ℕ) (places : List Place) (fates : List Fate) (before after : List Edit)
    (are : AreLost w v u r k now places fates before after) (calling : IsCalling w r k) (reported : v ≡ after_reports w k.caller r) where
  no_more : HoldsNoMore w v k.number
  no_more =
      subst (λ z. HoldsNoMore w z k.number) (sym reported)
      (subst (λ n. HoldsNoMore w (after_reports w k.caller r) n) (sym calling.number) (host_holds_no_more w k.caller r))

  -- the fates are those of what the host lost
  pub fates_are : fates ≡ fates_known w k.caller r now
  fates_are =
      are.told
      ∙ ap (λ h. map (fate w h now) places) calling.host
      ∙ ap (map (fate w (host_at_entry w k.caller r) now))
      (are.found no_more ∙ ap (λ z. lost z k.number r.other_results) reported ∙ ap (λ n. lost (after_reports w k.caller r) n r.other_results) calling.number)

  pub before_is : edited w before ≡ after_reports w k.caller r
  before_is = sym are.here ∙ reported

  pub put_is : after ≡ before ++ filter_map (fate_change (edited w before)) fates
  put_is = are.put ∙ ap (λ z. before ++ filter_map (fate_change z) fates) are.here

  pub left_known : u ≡ after_lost w k.caller r now
  left_known = are.there ∙ lost_left w k.caller r now before after fates before_is fates_are put_is

  pub resent_known : (resent : List Place) → resent ≡ resent_places fates → resent ≡ resent_of w k.caller r
  resent_known resent is = is ∙ lost_resent w k.caller r now fates fates_are
