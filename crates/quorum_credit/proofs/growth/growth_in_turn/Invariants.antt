use Rattle.std.proofs.Common.{◌≡◌, ◌++◌, drop}
use Rattle.quorum_credit.specs.Growing.{all_growth}
use Rattle.quorum_credit.proofs.growth.growth_in_turn.Given as goal

-- the new instances so far, and those of the workunits that are left
abbrev pub invariant-loop-unit : goal.invariant-loop-unit
invariant-loop-unit g l = record {
  reads : g.S.Units.reads l.fn.working_set l.working_set;
  told : g.S.Units.honest l.working_set → g.S.Units.well_kept l.fn.working_set
      → l.more ++ all_growth (g.S.Units.world l.fn.working_set) (drop l.unit-index l.touched) ≡ all_growth (g.S.Units.world l.fn.working_set) l.touched;
}
