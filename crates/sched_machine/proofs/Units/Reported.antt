-- Reports keep a world well.
use Rattle.std.proofs.Common.{◌≡◌, ℕ, ◌+◌, ◌≤◌, inl, inr, Bool, true, false, cond, [], length, Option, Some, None, sym, refl, ap, ◌∙◌, arith}
use Rattle.std.specs.Prelude.{count_by, is_some, is_none, option_map, option_and_then, unwrap_or, slice_get, IfSome, Contains}
use Rattle.std.proofs.lemmas.List.Elements.{All-contains}
use Rattle.std.proofs.lemmas.List.Sums.{count_by-le-length}
use Rattle.std.proofs.lemmas.Bool.{and_parts}
use Rattle.rpc_records.specs.Ranges.{IsReport}
use Rattle.rpc_records.specs.declared.request.Report.{Report}
use Rattle.sched_book.specs.Count.{is_judged, report_place, has_failed}
use Rattle.sched_book.specs.Limits.{most_instances}
use Rattle.sched_book.specs.Places.{status_at, is_owned_by, instance_at}
use Rattle.sched_book.specs.Reports.{modify_at, with_changed, first_reports, awaits_report, with_report, next_place, judged_place}
use Rattle.sched_book.specs.Sound.{IsWell}
use Rattle.sched_book.specs.declared.instance.Instance.{Instance}
use Rattle.sched_book.specs.declared.instance.Outcome.{Outcome}
use Rattle.sched_book.specs.declared.instance.Place.{Place}
use Rattle.sched_book.specs.declared.instance.UnitBook.{UnitBook}
use Rattle.sched_book.specs.declared.world.World.{World}
use Rattle.sched_book.proofs.PlacesOf.{length-modify_at}
use Rattle.quorum_credit.proofs.FirstNames.{all_first}
use Rattle.sched_machine.specs.Laws.{ReportsKeepWell}
use Rattle.sched_machine.proofs.Moves.Moves.{none_of, reports_keep}
use Rattle.sched_machine.proofs.Units.Alike.{count_more}
use Rattle.sched_machine.proofs.Units.Lapsed.{owned_given}
use Rattle.sched_machine.proofs.Units.Well.{Keeps, IsGoodChange, changed_well}

-- an instance that awaits a report was given to a host, and is not judged
awaits_given : (host : ℕ) (x : Instance) → awaits_report host x ≡ true → is_some x.owner ≡ true
awaits_given host x awaits = owned_given host x (and_parts (is_owned_by host x) (is_none x.report) awaits).0

-- an instance that awaits a report
module _ (host : ℕ) (r : Report) (known : IsReport r) (x : Instance) (awaits : awaits_report host x ≡ true) where
  none_yet : x.report ≡ None
  none_yet = none_of x.report (and_parts (is_owned_by host x) (is_none x.report) awaits).1

  no_place_yet : report_place x ≡ None
  no_place_yet = ap (option_and_then (λ (t : Outcome). t.place)) none_yet

  report_keeps : (place : Option ℕ) → IfSome place (λ n. (1 ≤ n) × (n ≤ most_instances)) → Keeps x (with_report r place x)
  report_keeps place in_range = record {
    host = refl;
    bare = λ bare none. (let never : true ≡ false = sym (awaits_given host x awaits) ∙ ap is_some none in absurd cc);
    limits = λ limits. record {
      sent = limits.sent;
      deadline = limits.deadline;
      output = known.output;
      place = in_range;
    };
  }

  -- the next place is within limits, because this instance is not judged yet
  next_is_low : (b : UnitBook) (i n : ℕ) → length b.instances ≤ most_instances → slice_get b.instances i ≡ Some x → n ≡ 1 + count_by is_judged b.instances → n ≤ most_instances
  next_is_low b i n few is next =
      let f : Instance → Instance = with_report r (Some 1) in
      let one_more : count_by is_judged (modify_at f b.instances i) ≡ count_by is_judged b.instances + 1 =
      count_more is_judged f b.instances i x is (ap is_some no_place_yet) refl in
      let most : count_by is_judged (modify_at f b.instances i) ≤ length (modify_at f b.instances i) = count_by-le-length is_judged (modify_at f b.instances i) in
      let same : length (modify_at f b.instances i) ≡ length b.instances = length-modify_at f b.instances i in
      omega arith

  report_is_good : (b : UnitBook) (i n : ℕ) (failed : Bool) → length b.instances ≤ most_instances → slice_get b.instances i ≡ Some x
      → n ≡ 1 + count_by is_judged b.instances → IsGoodChange b x (with_report r (cond failed None (Some n)) x)
  report_is_good b i n true few is next = (
    report_keeps None tt,
    inl (sym no_place_yet),
  )
  report_is_good b i n false few is next = (
    report_keeps (Some n) (omega arith, next_is_low b i n few is next),
    inr (no_place_yet, ap Some (let same : n ≡ count_by is_judged b.instances + 1 = omega arith in same)),
  )

-- one report after the other
pub reports_keep_well : ReportsKeepWell
reports_keep_well entry host reports known = reports_keep IsWell entry host (first_reports reports) one entry
  where
    one : (r : Report) → Contains (first_reports reports) r → (w : World) (p : Place) (x : Instance) → instance_at w p ≡ Some x → awaits_report host x ≡ true
        → IsWell w → IsWell (with_changed (with_report r (judged_place entry w p.unit)) w p)
    one r there w p x stands awaits well =
        changed_well (with_report r (judged_place entry w p.unit)) w p well
        (λ b y unit at is.
        let both : Some x ≡ Some y = sym stands ∙ ap (option_and_then (λ (u : UnitBook). slice_get u.instances p.number)) at ∙ is in
        let same : x ≡ y = cc in
        report_is_good host r (All-contains IsReport (first_reports reports) r (all_first IsReport [] reports known) there) y
        (ap (awaits_report host) (sym same) ∙ awaits) b p.number (next_place w p.unit) (has_failed (status_at entry p.unit)) unit.few is
        (ap (λ o. unwrap_or (option_map (λ (u : UnitBook). 1 + count_by is_judged u.instances) o) 1) at))
