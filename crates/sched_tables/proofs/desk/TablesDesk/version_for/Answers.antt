use Rattle.std.proofs.Common.{◌≡◌, Some, sym, subst, rules}
use Rattle.std.specs.Prelude.{IfSome}
use Rattle.sched_book.specs.Fits.{version_at}
use Rattle.sched_book.specs.declared.rows.Version.{Version}
use Rattle.sched_tables.specs.Views.{world_of}
use Rattle.sched_tables.proofs.desk.TablesDesk.version_for.Goals as goal

pub returns-in-Some-clause-answer : goal.returns-in-Some-clause-answer
returns-in-Some-clause-answer g c = λ honest kept.
    let w = world_of g.S.Store c.args.self.now in
    let found : Some c.in-Some.found ≡ c.in_ok-found.field-0 = search rules in
    let read = c.in_ok-found.ensures w _ c.args.host.now kept.1.rows_are c.as_slice.ensures in
    sym (subst (λ o. IfSome o (λ (v : Version). version_at w c.args.host.now c.args.app ≡ Some v)) (sym found) read)
