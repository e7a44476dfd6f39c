-- How long the jobs that a call sends again take together.
use Rattle.std.proofs.Common.{◌≡◌, ℕ, ◌*◌, ◌≤◌, Bool, true, false, cond, List, [], length, not, Option, Some, None, ap, arith}
use Rattle.std.specs.Prelude.{◌&&◌, All, filter, nat_le, option_map, sum_by, unwrap_or}
use Rattle.std.proofs.lemmas.Bool.{and_parts}
use Rattle.std.proofs.lemmas.List.Elements.{All-weaker, filter_passes}
use Rattle.std.proofs.lemmas.List.Sums.{count_by-le-length, length-filter, sum_by-le}
use borrow.Author.Tests.{leb-true}
use Rattle.rpc_records.specs.declared.request.Request.{Request}
use Rattle.sched_book.specs.Count.{is_open}
use Rattle.sched_book.specs.Fits.{estimate, unit_fits, version_for, estimate_at}
use Rattle.sched_book.specs.Lost.{is_listed, is_resent, unlisted}
use Rattle.sched_book.specs.Classes.{suits}
use Rattle.sched_book.specs.Places.{held_by, is_held_by, option_any, passes, status_at, unit_at}
use Rattle.sched_book.specs.Sound.{IsSoundUnit, Sound}
use Rattle.sched_book.specs.Step.{after_reports, at_entry, host_number, host_at_entry, lost_of, resent_of}
use Rattle.sched_book.specs.declared.instance.Place.{Place}
use Rattle.sched_book.specs.declared.instance.UnitBook.{UnitBook}
use Rattle.sched_book.specs.declared.machine.Caller.{Caller}
use Rattle.sched_book.specs.declared.rows.HostRow.{HostRow}
use Rattle.sched_book.specs.declared.rows.Workunit.{Workunit}
use Rattle.sched_book.specs.declared.world.World.{World}
use Rattle.sched_book.proofs.Bounded.{sound_is_bounded, instances_are_few}
use Rattle.lost_jobs.proofs.Holding.{held_after}
use Rattle.lost_jobs.proofs.Reported.{reports_hold_no_more}
use Rattle.sched_book.proofs.ByPlace.{all_nth}
use Rattle.sched_machine.specs.Bounds.{ResentSecondsAreBounded}
use Rattle.sched_machine.proofs.OptionParts.{any_by}

-- a filter makes no list longer
filtered : {X : Type 0} (p : X → Bool) (xs : List X) → length (filter p xs) ≤ length xs
filtered p xs =
    let same = length-filter p xs in
    let less = count_by-le-length p xs in
    omega (arith, same, less)

module _ (w : World) (c : Caller) (r : Request) (sound : Sound w) where
  abbrev entry : World
  entry = at_entry w c r

  abbrev reported : World
  reported = after_reports w c r

  abbrev host : ℕ
  host = host_number w c

  abbrev known : HostRow
  known = host_at_entry w c r

  -- a job that is sent again fits its host, so it takes at most its workunit's delay bound
  one : (p : Place) → is_resent entry known p ≡ true → estimate_at entry known p ≤ 100000000
  one p resent =
      let b = any_by (λ (b : UnitBook). is_open (status_at entry p.unit) && unit_fits entry known b) (unit_at w p.unit) resent in
      let u : Workunit = b.0.unit in
      let memory : Bool = nat_le u.rsc_memory_bound known.m_nbytes in
      let disk : Bool = nat_le u.rsc_disk_bound known.d_free in
      let time : Bool = nat_le (estimate u.rsc_fpops_est known.p_fpops) u.delay_bound in
      let fits : unit_fits entry known b.0 ≡ true = (and_parts (is_open (status_at entry p.unit)) (unit_fits entry known b.0) b.2).1 in
      let in_time : time ≡ true =
      (and_parts (memory && disk) time (and_parts (memory && disk && time) (option_any (suits u.class_rule) (version_for entry known u.app)) fits).0).1 in
      let within : estimate u.rsc_fpops_est known.p_fpops ≤ u.delay_bound = leb-true _ _ in_time in
      let most : u.delay_bound ≤ 100000000 = (all_nth (IsSoundUnit w.hosts w.apps) w.units p.unit b.0 sound.units b.1).well.limits.delay.1 in
      let all : estimate_at entry known p ≡ estimate u.rsc_fpops_est known.p_fpops =
      ap (λ o. unwrap_or (option_map (λ (b : UnitBook). estimate b.unit.rsc_fpops_est known.p_fpops) o) 0) b.1 in
      omega arith

  -- at most as many are lost as the host held
  few : length (lost_of w c r) ≤ 20000000
  few = cases reported.settings.resend_lost_results r.other_results
    where
      held : length (held_by reported host) ≤ 20000000
      held =
          let same = ap length (held_after entry reported host (reports_hold_no_more entry host r.results)) in
          let less = filtered (passes reported (λ b x. is_held_by host x)) (held_by w host) in
          let before : length (held_by w host) ≤ 20000000 = (instances_are_few w (sound_is_bounded w sound)).held host in
          omega (arith, same, less)

      cases : (b : Bool) (names : Option (List (List ℕ))) → length (cond b (unlisted reported host names) []) ≤ 20000000
      cases false names = omega arith
      cases true None = omega arith
      cases true (Some names) =
          let less = filtered (λ p. not (is_listed reported names p)) (held_by reported host) in
          omega (arith, held, less)

  seconds : sum_by (estimate_at entry known) (resent_of w c r) ≤ 2000000000000000
  seconds =
      let each : All (λ p. estimate_at entry known p ≤ 100000000) (resent_of w c r) =
      All-weaker (λ p. is_resent entry known p ≡ true) (λ p. estimate_at entry known p ≤ 100000000) one (resent_of w c r)
      (filter_passes (is_resent entry known) (lost_of w c r)) in
      let sum : sum_by (estimate_at entry known) (resent_of w c r) ≤ length (resent_of w c r) * 100000000 =
      sum_by-le (estimate_at entry known) 100000000 (resent_of w c r) each in
      let fewer = filtered (is_resent entry known) (lost_of w c r) in
      omega (arith, few, fewer)

pub resent_seconds_are_bounded : ResentSecondsAreBounded
resent_seconds_are_bounded w c r sound = seconds w c r sound
