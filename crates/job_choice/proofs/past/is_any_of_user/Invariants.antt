use Rattle.std.proofs.Common.{◌≡◌, drop}
use Rattle.std.specs.List.{list_any}
use Rattle.sched_book.specs.Places.{is_of_user}
use Rattle.job_choice.proofs.past.is_any_of_user.Given as goal

-- there is one if and only if there is one among those that are left
abbrev pub invariant-loop-instance : goal.invariant-loop-instance
invariant-loop-instance g l = record {
  reads : g.D.Units.reads l.fn.desk l.desk;
  told : g.D.Units.honest l.desk → g.D.Units.well_kept l.fn.desk
      → list_any (is_of_user (g.D.Units.world l.fn.desk).hosts l.account) (drop l.instance-index l.instances)
      ≡ list_any (is_of_user (g.D.Units.world l.fn.desk).hosts l.account) l.instances;
}
