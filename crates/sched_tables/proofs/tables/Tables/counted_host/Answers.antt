use Rattle.std.proofs.Common.{◌≡◌, Some, sym, subst, rules}
use Rattle.std.specs.Prelude.{IfSome}
use Rattle.table_desk.specs.Columns.{counted_host_at}
use Rattle.table_desk.specs.declared.hosts.CountedHost.{CountedHost}
use Rattle.sched_tables.specs.Views.{world_of}
use Rattle.sched_tables.proofs.tables.Tables.counted_host.Goals as goal

pub returns-in-Some-clause-answer : goal.returns-in-Some-clause-answer
returns-in-Some-clause-answer g c = λ honest kept.
    let found : Some c.in-Some.found ≡ c.in_ok-found.field-0 = search rules in
    sym (subst (λ o. IfSome o (λ (h : CountedHost). counted_host_at (world_of g.S.Store c.args.self.now) c.args.host ≡ Some h)) (sym found) (c.in_ok-found.ensures _ _ kept.1.rows_are))
