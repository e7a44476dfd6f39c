use Rattle.std.proofs.Common.{◌≡◌, ◌++◌}
use Rattle.table_worlds.specs.Keys.{numbered}
use Rattle.table_worlds.proofs.keys.push_numbered.Given as goal

abbrev pub invariant-loop-index : goal.invariant-loop-index
invariant-loop-index l = l.keys ≡ l.initial.keys ++ numbered l.table l.index
