use Rattle.std.proofs.Common.{drop}
use Rattle.sqlite_rules.specs.Lists.{Has}
use Rattle.table_worlds.proofs.Members.{LeftOr}
use Rattle.table_worlds.proofs.matching.are_among.Given as goal

abbrev pub invariant-loop-row : goal.invariant-loop-row
invariant-loop-row l = LeftOr (Has l.others) l.rows (drop l.row-index l.rows)
