use Rattle.std.proofs.Common.{take}
use Rattle.sched_book.specs.Delta.{edited}
use Rattle.call_working_set.specs.WorkingSets.{IsCallStateOf}
use Rattle.table_changes.specs.Added.{is_host_among, AreAdded}
use Rattle.table_changes.specs.Touching.{AreTouched}
use Rattle.table_changes.proofs.hosts.push_hosts.Given as goal

-- the rows of the hosts so far are added
abbrev pub invariant-loop-host : goal.invariant-loop-host
invariant-loop-host g l = record {
  reads : g.D.Units.reads l.fn.desk l.desk;
  told : g.D.Units.honest l.desk → g.D.Units.well_kept l.fn.desk → IsCallStateOf (g.D.Units.world l.fn.desk) l.call_state → AreTouched l.call_state l.touched
      → AreAdded (is_host_among (take l.host-index l.host-items)) (g.D.Units.world l.fn.desk) (edited (g.D.Units.world l.fn.desk) l.call_state.edits) l.fn.rows l.rows;
}
