use Rattle.std.proofs.Common.{◌≡◌, Some, sym, subst, rules}
use Rattle.std.specs.Prelude.{IfSome}
use Rattle.sched_book.specs.Desk.{account_by_key}
use Rattle.sched_book.specs.declared.desk.Placed.{Placed}
use Rattle.sched_book.specs.declared.rows.Account.{Account}
use Rattle.sched_tables.specs.Views.{world_of}
use Rattle.sched_tables.proofs.desk.TablesDesk.account_by_key.Goals as goal

pub returns-in-Some-clause-answer : goal.returns-in-Some-clause-answer
returns-in-Some-clause-answer g c = λ honest kept.
    let found : Some c.in-Some.found ≡ c.in_ok-found.field-0 = search rules in
    sym (subst (λ o. IfSome o (λ (a : Placed Account). account_by_key (world_of g.S.Store c.args.self.now) c.args.authenticator.now ≡ Some a)) (sym found) (c.in_ok-found.ensures _ _ kept.1.rows_are))
