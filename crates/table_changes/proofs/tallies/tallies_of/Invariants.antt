use Rattle.std.proofs.Common.{take}
use Rattle.std.specs.BTreeMap.{get}
use Rattle.std.specs.Ordering.{nat_cmp}
use Rattle.table_changes.specs.Tallies.{AreTallies}
use Rattle.table_changes.proofs.tallies.tallies_of.Given as goal

-- the tallies of the workunits so far
abbrev pub invariant-loop-unit : goal.invariant-loop-unit
invariant-loop-unit l = AreTallies (get nat_cmp l.call_state.unit_states) (take l.unit-index l.units) l.tallies
