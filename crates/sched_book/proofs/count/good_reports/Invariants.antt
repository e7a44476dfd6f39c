use Rattle.std.proofs.Common.{◌≡◌, ◌≤◌, length}
use Rattle.std.specs.List.Sorted.{IsNonDecreasingBy}
use Rattle.sched_book.specs.Count.{place_of, good}
use Rattle.sched_book.proofs.Reports.{put_from}
use Rattle.sched_book.proofs.count.good_reports.Given as goal

abbrev pub invariant-loop-number : goal.invariant-loop-number
invariant-loop-number l = record {
  put : put_from l.instances l.reports.items l.number ≡ good l.instances;
  few : length l.reports.items ≤ l.number;
  order : IsNonDecreasingBy (place_of l.instances) l.reports.items;
}
