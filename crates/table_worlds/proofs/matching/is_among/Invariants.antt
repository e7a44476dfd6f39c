use Rattle.std.proofs.Common.{drop}
use Rattle.sqlite_rules.specs.Lists.{Has}
use Rattle.table_worlds.proofs.matching.is_among.Given as goal

-- if the row is among them, it is among those that are left
abbrev pub invariant-loop-other : goal.invariant-loop-other
invariant-loop-other l = Has l.rows l.row → Has (drop l.other-index l.rows) l.row
