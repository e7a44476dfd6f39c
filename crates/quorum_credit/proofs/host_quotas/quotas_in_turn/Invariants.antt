use Rattle.std.proofs.Common.{◌≡◌, ◌++◌, drop}
use Rattle.quorum_credit.specs.Tallies.{new_quotas}
use Rattle.quorum_credit.proofs.host_quotas.quotas_in_turn.Given as goal

-- the hosts so far, and those of the tallies that are left
abbrev pub invariant-loop-tally : goal.invariant-loop-tally
invariant-loop-tally g l = record {
  reads : g.S.Units.reads l.fn.working_set l.working_set;
  told : g.S.Units.honest l.working_set → g.S.Units.well_kept l.fn.working_set
      → l.quotas ++ new_quotas (g.S.Units.world l.fn.working_set) l.limit (drop l.tally-index l.tallies)
      ≡ new_quotas (g.S.Units.world l.fn.working_set) l.limit l.tallies;
}
