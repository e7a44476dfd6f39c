use Rattle.std.proofs.Common.{◌≡◌, ◌++◌, drop}
use Rattle.quorum_credit.specs.Scoring.{scores_of_units}
use Rattle.quorum_credit.proofs.scores.scores_of_units.Given as goal

-- the scores so far, and those of the workunits that are left
abbrev pub invariant-loop-unit : goal.invariant-loop-unit
invariant-loop-unit g l = record {
  reads : g.S.Units.reads l.fn.working_set l.working_set;
  told : g.S.Units.honest l.working_set → g.S.Units.well_kept l.fn.working_set
      → l.scores ++ scores_of_units (g.S.Draft.entry l.fn.working_set) (g.S.Units.world l.fn.working_set) (drop l.unit-index l.units)
      ≡ scores_of_units (g.S.Draft.entry l.fn.working_set) (g.S.Units.world l.fn.working_set) l.units;
}
