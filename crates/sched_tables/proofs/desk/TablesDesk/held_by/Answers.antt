use Rattle.std.proofs.Common.{◌≡◌, List, Some, sym, subst, rules}
use Rattle.std.specs.Prelude.{IfSome}
use Rattle.sched_book.specs.Places.{held_by}
use Rattle.sched_book.specs.declared.instance.Place.{Place}
use Rattle.sched_tables.specs.Views.{world_of}
use Rattle.sched_tables.proofs.desk.TablesDesk.held_by.Goals as goal

pub returns-in-Some-clause-answer : goal.returns-in-Some-clause-answer
returns-in-Some-clause-answer g c = λ honest kept.
    let found : Some c.in-Some.places ≡ c.in_ok-places.field-0 = search rules in
    subst (λ o. IfSome o (λ (ps : List Place). ps ≡ held_by (world_of g.S.Store c.args.self.now) c.args.host)) (sym found) (c.in_ok-places.ensures _ _ kept.1.rows_are)
