-- What a step leaves: the settings, the imported rows, and the hosts' accounts and names.
use Rattle.std.proofs.Common.{◌≡◌, ℕ, ◌+◌, Bool, true, false, cond, List, [], ◌∷◌, ◌++◌, map, Option, Some, None, refl, ap, ◌∙◌}
use Rattle.std.specs.Prelude.{fold, option_map, replicate, unwrap_or}
use Rattle.std.specs.List.{enumerate_from}
use Rattle.rpc_records.specs.declared.request.Report.{Report}
use Rattle.rpc_records.specs.declared.request.Request.{Request}
use Rattle.sched_book.specs.Classes.{first_rule, imported, rule_after, with_class}
use Rattle.sched_book.specs.Count.{is_open, need}
use Rattle.sched_book.specs.Fits.{estimate_at, version_at_unit}
use Rattle.sched_book.specs.Lost.{resend_or_drop, is_resent, with_deadline, deadline_after, delay_at, with_lapse}
use Rattle.sched_book.specs.Places.{overdue, place_named, passes, book_status}
use Rattle.sched_book.specs.Reports.{awaits_report, judged_place, with_number, with_changed, with_report, record_at, record_one, recorded, first_reports}
use Rattle.sched_book.specs.Settle.{fresh, grown, with_grown, with_quota, settled}
use Rattle.sched_book.specs.Step.{at_entry, after_reports, after_lost, after_settlement, host_number, host_at_entry, lost_of, with_owner, grant_one, granted, class_granted, class_one, classed, lapsed}
use Rattle.sched_book.specs.declared.instance.Instance.{Instance}
use Rattle.sched_book.specs.declared.instance.Lapse.TheVariants.{Late, Dropped}
use Rattle.sched_book.specs.declared.instance.Place.{Place}
use Rattle.sched_book.specs.declared.instance.UnitBook.{UnitBook}
use Rattle.sched_book.specs.declared.machine.Answered.TheVariants as answered
use Rattle.sched_book.specs.declared.machine.Call.TheVariants as call
use Rattle.sched_book.specs.declared.machine.Caller.{Caller}
use Rattle.sched_book.specs.declared.rows.ClassRule.{ClassRule}
use Rattle.sched_book.specs.declared.rows.ClassRule.TheVariants.{Any, OfFirst, Only}
use Rattle.sched_book.specs.declared.rows.HostRow.{HostRow}
use Rattle.sched_book.specs.declared.rows.Version.{Version}
use Rattle.sched_book.specs.declared.rows.Workunit.{Workunit}
use Rattle.sched_book.specs.declared.world.World.{World}
use Rattle.sched_book.proofs.PlaceChanges.{map_changed_nth}
use Rattle.pasts.specs.Leaves.{host_name, Frame, frame, StepLeavesTheRest}

-- the frame with these workunits and these hosts
abbrev frame_with : World → List Workunit → List (ℕ × List ℕ) → Frame
frame_with w units hosts = record {
  settings = w.settings;
  shelf = record { accounts = w.accounts; apps = w.apps; versions = w.versions; units = units };
  hosts = hosts;
}

abbrev unit_of : UnitBook → Workunit
unit_of b = imported b.unit

changed_stays : (f : Instance → Instance) (w : World) (p : Place) → frame (with_changed f w p) ≡ frame w
changed_stays f w p =
    ap (λ us. frame_with w us (map host_name w.hosts)) (map_changed_nth unit_of (with_number f p.number) (λ b. refl) w.units p.unit)

-- a fold leaves the frame as it is if each step does
fold_stays : {X : Type 0} (f : World → X → World) → ((w : World) (x : X) → frame (f w x) ≡ frame w) → (xs : List X) (w : World) → frame (fold f w xs) ≡ frame w
fold_stays f stays [] w = refl
fold_stays f stays (x ∷ xs) w = fold_stays f stays xs (f w x) ∙ stays w x

reports_stay : (entry : World) (host : ℕ) (reports : List Report) → frame (recorded entry host reports) ≡ frame entry
reports_stay entry host reports = fold_stays (record_one entry host) one (first_reports reports) entry
  where
    cases : (b : Bool) (v w : World) → frame v ≡ frame w → frame (cond b v w) ≡ frame w
    cases true v w same = same
    cases false v w same = refl

    at_place : (w : World) (r : Report) (o : Option Place) → frame (unwrap_or (option_map (record_at entry host r w) o) w) ≡ frame w
    at_place w r None = refl
    at_place w r (Some p) =
        cases (passes w (λ b x. awaits_report host x) p) (with_changed (with_report r (judged_place entry w p.unit)) w p) w
        (changed_stays (with_report r (judged_place entry w p.unit)) w p)

    one : (w : World) (r : Report) → frame (record_one entry host w r) ≡ frame w
    one w r = at_place w r (place_named entry r.name)

lost_jobs_stay : (entry : World) (h : HostRow) (now : ℕ) (places : List Place) (w : World) → frame (fold (resend_or_drop entry h now) w places) ≡ frame w
lost_jobs_stay entry h now places w = fold_stays (resend_or_drop entry h now) one places w
  where
    cases : (b : Bool) (u v w : World) → frame u ≡ frame w → frame v ≡ frame w → frame (cond b u v) ≡ frame w
    cases true u v w first second = first
    cases false u v w first second = second

    one : (w : World) (p : Place) → frame (resend_or_drop entry h now w p) ≡ frame w
    one w p =
        let deadline : Instance → Instance = with_deadline (deadline_after now (estimate_at entry h p) (delay_at entry p)) in
        cases (is_resent entry h p) (with_changed deadline w p) (with_changed (with_lapse Dropped) w p) w (changed_stays deadline w p)
        (changed_stays (with_lapse Dropped) w p)

lapses_stay : (w : World) (now : ℕ) → frame (lapsed w now) ≡ frame w
lapses_stay w now = fold_stays (with_changed (with_lapse Late)) (λ v p. changed_stays (with_lapse Late) v p) (overdue w now) w

grants_stay : (w : World) (host now : ℕ) (jobs : List Place) → frame (granted w host now jobs) ≡ frame w
grants_stay w host now jobs =
    fold_stays (grant_one host now) (λ v p. changed_stays (with_owner (record { host = host; sent = now; deadline = now + delay_at v p })) v p) jobs w

-- if a workunit takes a class, it is still as it was imported
classes_stay : (entry : World) (h : HostRow) (jobs : List Place) (w : World) → frame (classed entry h w jobs) ≡ frame w
classes_stay entry h jobs w = fold_stays (class_one entry h) (λ v p. one v p (version_at_unit entry h p.unit)) jobs w
  where
    rule_stays : (rule : ClassRule) (class : List ℕ) → first_rule (rule_after rule class) ≡ first_rule rule
    rule_stays Any class = refl
    rule_stays OfFirst class = refl
    rule_stays (Only own) class = refl

    row_stays : (class : List ℕ) (b : UnitBook) → unit_of (with_class class b) ≡ unit_of b
    row_stays class b = ap (λ rule. record b.unit { class_rule = rule }) (rule_stays b.unit.class_rule class)

    one : (v : World) (p : Place) (o : Option Version) → frame (unwrap_or (option_map (λ (x : Version). class_granted v p.unit x.class) o) v) ≡ frame v
    one v p None = refl
    one v p (Some x) = ap (λ us. frame_with v us (map host_name v.hosts)) (map_changed_nth unit_of (with_class x.class) (row_stays x.class) v.units p.unit)

-- a settlement changes instances and quotas
settlement_stays : (old changed : World) → frame (settled old changed) ≡ frame changed
settlement_stays old changed = λ i. frame_with changed (units changed.units i) (hosts 1 changed.hosts i)
  where
    unit_stays : (grows : Bool) (b : UnitBook) (xs : List Instance) → unit_of (cond grows (record b { instances = xs }) b) ≡ unit_of b
    unit_stays true b xs = refl
    unit_stays false b xs = refl

    units : (us : List UnitBook) → map unit_of (map (grown changed.apps) us) ≡ map unit_of us
    units [] = refl
    units (b ∷ us) = λ i. unit_stays (is_open (book_status changed.apps b)) b (b.instances ++ replicate (need b.unit b.instances) fresh) i ∷ units us i

    hosts : (n : ℕ) (hs : List HostRow) → map host_name (map (with_quota old (with_grown changed)) (enumerate_from n hs)) ≡ map host_name hs
    hosts n [] = refl
    hosts n (h ∷ hs) = ap (λ names. host_name h ∷ names) (hosts (n + 1) hs)

call_stays : (w : World) (c : Caller) (r : Request) (now : ℕ) → frame (after_settlement w c r now) ≡ frame (at_entry w c r)
call_stays w c r now =
    settlement_stays (at_entry w c r) (after_lost w c r now)
    ∙ lost_jobs_stay (at_entry w c r) (host_at_entry w c r) now (lost_of w c r) (after_reports w c r)
    ∙ reports_stay (at_entry w c r) (host_number w c) r.results

pub step_leaves : StepLeavesTheRest
step_leaves w after (call.Rpc c r) now (answered.Rpc reply) step =
    ap frame step.left
    ∙ classes_stay w (host_at_entry w c r) step.jobs (granted (after_settlement w c r now) (host_number w c) now step.jobs)
    ∙ grants_stay (after_settlement w c r now) (host_number w c) now step.jobs
    ∙ call_stays w c r now
step_leaves w after (call.Rpc c r) now (answered.Imported n) step = absurd step
step_leaves w after (call.Rpc c r) now (answered.Lapsed n) step = absurd step
step_leaves w after (call.Import new) now (answered.Imported n) step = ap frame step.left
step_leaves w after (call.Import new) now (answered.Rpc reply) step = absurd step
step_leaves w after (call.Import new) now (answered.Lapsed n) step = absurd step
step_leaves w after call.Tick now (answered.Lapsed n) step = ap frame step.left ∙ settlement_stays w (lapsed w now) ∙ lapses_stay w now
step_leaves w after call.Tick now (answered.Rpc reply) step = absurd step
step_leaves w after call.Tick now (answered.Imported n) step = absurd step
