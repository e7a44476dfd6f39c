use Rattle.std.proofs.Common.{◌≡◌, Some, sym, subst, rules}
use Rattle.std.specs.Prelude.{IfSome}
use Rattle.sched_book.specs.Places.{instance_at}
use Rattle.sched_book.specs.declared.instance.Instance.{Instance}
use Rattle.sched_tables.specs.Views.{world_of}
use Rattle.sched_tables.proofs.Told.{told}
use Rattle.sched_tables.proofs.desk.TablesUnits.instance.Goals as goal

pub returns-in-Some-clause-answer : goal.returns-in-Some-clause-answer
returns-in-Some-clause-answer g c = λ honest kept.
    let found : Some c.in-Some.found ≡ c.in_ok-found.field-0 = search rules in
    sym (subst (λ o. IfSome o (λ (x : Instance). instance_at (world_of g.S.Store c.args.self.now) (record { unit = c.args.unit; number = c.args.number }) ≡ Some x)) (sym found) (c.in_ok-found.ensures _ _ kept.1.rows_are))

pub returns-in-None-clause-answer : goal.returns-in-None-clause-answer
returns-in-None-clause-answer g c = λ honest kept. told g.S.Store c.args.self.now c.instance_at.new.conn _ c.instance_at.ensures.answer honest kept
