use Rattle.std.proofs.Common.{◌≡◌, List, Some, sym, subst, rules}
use Rattle.std.specs.Prelude.{IfSome}
use Rattle.sched_book.specs.Desk.{instances_at}
use Rattle.sched_book.specs.declared.instance.Instance.{Instance}
use Rattle.sched_tables.specs.Views.{world_of}
use Rattle.sched_tables.proofs.desk.TablesUnits.instances_of.Goals as goal

pub returns-in-Some-clause-answer : goal.returns-in-Some-clause-answer
returns-in-Some-clause-answer g c = λ honest kept.
    let found : Some c.in-Some.rows ≡ c.in_ok-rows.field-0 = search rules in
    subst (λ o. IfSome o (λ (xs : List Instance). xs ≡ instances_at (world_of g.S.Store c.args.self.now) c.args.unit)) (sym found) (c.in_ok-rows.ensures _ _ kept.1.rows_are)
