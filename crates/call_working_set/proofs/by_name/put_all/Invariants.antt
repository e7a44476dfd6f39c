use Rattle.std.proofs.Common.{◌≡◌, ◌++◌}
use Rattle.sched_book.specs.Delta.{edited}
use Rattle.std.proofs.Common.{drop}
use Rattle.std.specs.Prelude.{All}
use Rattle.call_working_set.specs.WorkingSets.{IsOfKnown}
use Rattle.call_working_set.proofs.by_name.put_all.Given as goal

abbrev pub invariant-loop-edit : goal.invariant-loop-edit
invariant-loop-edit g l = record {
  works : g.S.Draft.works l.fn.working_set l.working_set;
  put : g.S.Units.honest l.working_set → g.S.Units.well_kept l.fn.working_set
      → edited (g.S.Units.world l.working_set) (drop l.edit-index l.edits) ≡ edited (g.S.Units.world l.fn.working_set) l.edits;
  edits : g.S.Draft.edits l.working_set ++ drop l.edit-index l.edits ≡ g.S.Draft.edits l.fn.working_set ++ l.edits;
  known : g.S.Units.honest l.working_set → g.S.Units.well_kept l.fn.working_set
      → All (IsOfKnown (g.S.Units.world l.fn.working_set)) l.edits → All (IsOfKnown (g.S.Units.world l.working_set)) l.edits;
}
