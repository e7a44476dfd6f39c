use Rattle.std.proofs.Common.{◌≡◌, ℕ, Some, sym, subst, rules}
use Rattle.std.specs.Prelude.{IfSome}
use Rattle.sched_book.specs.Places.{known_host}
use Rattle.sched_tables.specs.Views.{world_of}
use Rattle.sched_tables.proofs.desk.TablesDesk.host_by_key.Goals as goal

pub returns-in-Some-clause-answer : goal.returns-in-Some-clause-answer
returns-in-Some-clause-answer g c = λ honest kept.
    let found : Some c.in-Some.host ≡ c.in_ok-host.field-0 = search rules in
    sym (subst (λ o. IfSome o (λ (host : ℕ). known_host (world_of g.S.Store c.args.self.now) c.args.account c.args.cpid.now ≡ Some host)) (sym found) (c.in_ok-host.ensures _ _ kept.1.rows_are))
