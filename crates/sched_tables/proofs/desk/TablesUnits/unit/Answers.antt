use Rattle.std.proofs.Common.{◌≡◌, Some, sym, subst, rules}
use Rattle.std.specs.Prelude.{IfSome}
use Rattle.sched_book.specs.Desk.{workunit_at}
use Rattle.sched_book.specs.declared.rows.Workunit.{Workunit}
use Rattle.sched_tables.specs.Views.{world_of}
use Rattle.sched_tables.proofs.desk.TablesUnits.unit.Goals as goal

pub returns-in-Some-clause-answer : goal.returns-in-Some-clause-answer
returns-in-Some-clause-answer g c = λ honest kept.
    let found : Some c.in-Some.row ≡ c.in_ok-row.field-0 = search rules in
    sym (subst (λ o. IfSome o (λ (u : Workunit). workunit_at (world_of g.S.Store c.args.self.now) c.args.unit ≡ Some u)) (sym found) (c.in_ok-row.ensures (world_of g.S.Store c.args.self.now) kept.1.rows_are.units))
