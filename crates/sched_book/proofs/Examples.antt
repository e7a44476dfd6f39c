-- Worked examples of the definitions. Each is computed.
use Rattle.std.proofs.Common.{◌≡◌, ℕ, true, false, List, [], ◌∷◌, Some, None, refl}
use Rattle.std.specs.Prelude.{codes, map}
use Rattle.std.specs.Fmt.{digits}
use Rattle.rpc_records.specs.declared.fault.Fault.TheVariants.{DuplicateName, UnknownReference}
use Rattle.rpc_records.specs.declared.request.Report.{Report}
use Rattle.std.specs.Prelude.{pos}
use Rattle.sched_book.specs.Names.{instance_name, name_parts}
use Rattle.sched_book.specs.Count.{agree, canonical, need, status, verdict, good}
use Rattle.sched_book.specs.Places.{instance_at, is_overdue, status_at}
use Rattle.sched_book.specs.Fits.{estimate, newest_version}
use Rattle.sched_book.specs.Lost.{deadline_after, aborts}
use Rattle.sched_book.specs.Reports.{recorded}
use Rattle.sched_book.specs.Settle.{next_quota}
use Rattle.sched_book.specs.Imports.{fault_of_rows, empty_shelf}
use Rattle.sched_book.specs.Step.{empty_world}
use Rattle.sched_book.specs.declared.rows.Account.{Account}
use Rattle.sched_book.specs.declared.rows.Agreement.TheVariants.{Exact, Within}
use Rattle.sched_book.specs.declared.rows.ClassRule.TheVariants.{Any}
use Rattle.sched_book.specs.declared.rows.Rows.TheVariants as rows
use Rattle.sched_book.specs.declared.rows.Version.{Version}
use Rattle.sched_book.specs.declared.rows.Workunit.{Workunit}
use Rattle.sched_book.specs.declared.instance.Instance.{Instance}
use Rattle.sched_book.specs.declared.instance.Lapse.TheVariants.{Late}
use Rattle.sched_book.specs.declared.instance.Status.TheVariants.{Open, FailedTotal}
use Rattle.sched_book.specs.declared.instance.Verdict.TheVariants.{Valid, Invalid}
use Rattle.sched_book.specs.declared.settings.Settings.{Settings}
use Rattle.sched_book.specs.declared.world.World.{World}

-- a workunit of the application `dock`, by its quorum, its target and its greatest number of instances
abbrev unit_of : ℕ → ℕ → ℕ → Workunit
unit_of quorum target total = record {
  name = codes "w1";
  app = codes "dock";
  min_quorum = quorum;
  target_nresults = target;
  max_error_results = 3;
  max_total_results = total;
  max_success_results = 4;
  delay_bound = 7200;
  rsc_fpops_est = 3600000;
  rsc_memory_bound = 1000;
  rsc_disk_bound = 1000;
  credit = 5000;
  class_rule = Any;
}

-- an instance of a host, sent at 1000 and due at 8200
abbrev given : ℕ → Instance
given host = record { owner = Some (record { host = host; sent = 1000; deadline = 8200 }); lapse = None; report = None }

-- the same, late
abbrev late : ℕ → Instance
late host = record (given host) { lapse = Some Late }

-- the same, with a reported success of this output and this place
abbrev told : ℕ → List ℕ → ℕ → Instance
told host output place = record (given host) { report = Some (record { success = true; output = output; place = Some place }) }

-- Outputs that agree within 2: whole numbers that are near each other, and equal texts. `01` is no whole number.
near : agree (Within 2) (codes "-1") (codes "1") ≡ true
near = refl

equal : agree (Within 2) (codes "x") (codes "x") ≡ true
equal = refl

leading_zero : agree (Within 2) (codes "01") (codes "1") ≡ false
leading_zero = refl

-- Outputs 10, 13 and 12 within 2, with a quorum of three. 10 agrees with 12, so the first is canonical. The second is
-- invalid, although it agrees with the third.
abbrev three : List Instance
three = told 1 (codes "10") 1 ∷ told 2 (codes "13") 2 ∷ told 3 (codes "12") 3 ∷ []

first_of_three : canonical (Within 2) (unit_of 3 3 6) three ≡ Some 0
first_of_three = refl

verdicts_of_three : map (verdict (Within 2) (unit_of 3 3 6) three) three ≡ Some Valid ∷ Some Invalid ∷ Some Valid ∷ []
verdicts_of_three = refl

-- The canonical result need not agree with the report that completes the quorum.
completed_by_another : canonical Exact (unit_of 3 3 6) (told 1 (codes "x") 1 ∷ told 2 (codes "x") 2 ∷ told 3 (codes "y") 3 ∷ []) ≡ Some 0
completed_by_another = refl

-- Two against two are no majority of four.
no_majority : canonical Exact (unit_of 4 4 6)
    (told 1 (codes "x") 1 ∷ told 2 (codes "x") 2 ∷ told 3 (codes "y") 3 ∷ told 4 (codes "y") 4 ∷ []) ≡ None
no_majority = refl

-- Reports count in the order of their places, not of their numbers.
by_place : good (told 1 (codes "x") 2 ∷ told 2 (codes "y") 1 ∷ []) ≡ 1 ∷ 0 ∷ []
by_place = refl

-- Two late instances of a workunit that wants two and may have two. It needs two more, and fails by its total.
abbrev two_late : List Instance
two_late = late 1 ∷ late 2 ∷ []

needs_two : need (unit_of 2 2 2) two_late ≡ 2
needs_two = refl

fails_by_total : status Exact (unit_of 2 2 2) two_late ≡ FailedTotal
fails_by_total = refl

-- One success, with a quorum of two: the workunit is open and needs nothing.
still_open : status Exact (unit_of 2 2 3) (told 1 (codes "x") 1 ∷ given 2 ∷ []) ≡ Open
still_open = refl

-- A late report on an instance of the failed workunit is recorded, but not judged. The workunit stays failed.
abbrev settings : Settings
settings = record {
  daily_result_quota = 4;
  max_hosts = 3;
  max_wus_in_progress = 3;
  max_wus_to_send = 2;
  operator_key = codes "opkey-01";
  request_delay = 60;
  resend_lost_results = true;
}

abbrev failed_world : World
failed_world = record (empty_world settings) {
  apps = record { name = codes "dock"; agreement = Exact } ∷ [];
  units = record { unit = unit_of 2 2 2; instances = two_late } ∷ [];
}

abbrev late_report : Report
late_report = record { name = codes "w1_0"; exit_status = pos 0; output = codes "ok" }

abbrev unjudged : Instance
unjudged = record (late 1) { report = Some (record { success = true; output = codes "ok"; place = None }) }

recorded_late : instance_at (recorded failed_world 1 (late_report ∷ [])) (record { unit = 1; number = 0 }) ≡ Some unjudged
recorded_late = refl

stays_failed : status_at (recorded failed_world 1 (late_report ∷ [])) 1 ≡ FailedTotal
stays_failed = refl

-- A report of another host on it is not recorded.
recorded_for_another : recorded failed_world 2 (late_report ∷ []) ≡ failed_world
recorded_for_another = refl

-- A name of no instance, and one of a failed workunit, may be forgotten; each is listed once.
may_forget : aborts failed_world 1 (Some (codes "zz_0" ∷ codes "w1_0" ∷ codes "zz_0" ∷ [])) ≡ codes "zz_0" ∷ codes "w1_0" ∷ []
may_forget = refl

-- Quotas: minus the charges, but at least one; then doubled, but at most the limit.
quota_falls : next_quota 3 2 0 4 ≡ 1
quota_falls = refl

quota_of_one : next_quota 1 5 1 4 ≡ 2
quota_of_one = refl

quota_at_the_limit : next_quota 4 1 3 4 ≡ 4
quota_at_the_limit = refl

-- Names are split at the last underscore. A number has no leading zero and is at most 99.
name_made : instance_name (codes "w_1") 0 ≡ codes "w_1_0"
unfolding digits
name_made = refl

name_split : name_parts (codes "w_1_0") ≡ Some (codes "w_1", 0)
name_split = refl

name_at_99 : name_parts (codes "w_99") ≡ Some (codes "w", 99)
name_at_99 = refl

name_above_99 : name_parts (codes "w_100") ≡ None
name_above_99 = refl

name_with_a_leading_zero : name_parts (codes "w_07") ≡ None
name_with_a_leading_zero = refl

-- 3600000 operations take an hour at 1000 a second, and longer than two at 499.
an_hour : estimate 3600000 1000 ≡ 3600
an_hour = refl

longer : estimate 3600000 499 ≡ 7215
longer = refl

-- A deadline stays while the host can meet it. At 4600 it can meet 8200 in an hour, at 4601 it can't.
deadline_stays : deadline_after 4600 3600 7200 8200 ≡ 8200
deadline_stays = refl

deadline_moves : deadline_after 4601 3600 7200 8200 ≡ 11801
deadline_moves = refl

-- An instance is overdue after its deadline, and not at it.
at_the_deadline : is_overdue 8200 (given 1) ≡ false
at_the_deadline = refl

after_the_deadline : is_overdue 8201 (given 1) ≡ true
after_the_deadline = refl

-- The greater version number is the newer.
abbrev version_of : ℕ → Version
version_of number = record { app = codes "dock"; platform = codes "linux"; version_num = number; class = codes "linux" }

newest_of_two : newest_version (version_of 101 ∷ version_of 102 ∷ []) ≡ Some (version_of 102)
newest_of_two = refl

-- The third row has the name of the first. A duplicate is reported before an unknown application.
abbrev account_of : List ℕ → Account
account_of word = record { authenticator = word; name = word }

third_is_known : fault_of_rows empty_shelf (rows.Accounts (account_of (codes "k6") ∷ account_of (codes "k7") ∷ account_of (codes "k6") ∷ []))
    ≡ Some (DuplicateName 3)
third_is_known = refl

duplicate_first : fault_of_rows empty_shelf (rows.Versions (version_of 5 ∷ version_of 6 ∷ version_of 6 ∷ [])) ≡ Some (DuplicateName 3)
duplicate_first = refl

unknown_then : fault_of_rows empty_shelf (rows.Versions (version_of 5 ∷ [])) ≡ Some (UnknownReference 1)
unknown_then = refl
