use Rattle.std.proofs.Common.{◌≡◌, ℕ, Some, sym, subst, rules}
use Rattle.std.specs.Prelude.{IfSome}
use Rattle.sched_book.specs.Places.{unit_named}
use Rattle.sched_tables.specs.Views.{world_of}
use Rattle.sched_tables.proofs.desk.TablesUnits.unit_by_name.Goals as goal

pub returns-in-Some-clause-answer : goal.returns-in-Some-clause-answer
returns-in-Some-clause-answer g c = λ honest kept.
    let found : Some c.in-Some.unit ≡ c.in_ok-unit.field-0 = search rules in
    sym (subst (λ o. IfSome o (λ (unit : ℕ). unit_named (world_of g.S.Store c.args.self.now) c.args.name.now ≡ Some unit)) (sym found) (c.in_ok-unit.ensures _ _ kept.1.rows_are))
