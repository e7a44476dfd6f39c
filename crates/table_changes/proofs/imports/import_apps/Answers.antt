use Rattle.std.proofs.Common.{rules, ◌≡◌, ◌<◌, length, take, get_or, subst}
use Rattle.std.proofs.lemmas.List.{take_all}
use Rattle.sched_book.specs.Imports.{with_rows}
use Rattle.sched_book.specs.declared.rows.Rows.TheVariants as kinds
use Rattle.table_changes.specs.Imported.{AreImported}
use Rattle.table_changes.proofs.ImportRows.{app_next, no_app, counted_now}
use Rattle.table_changes.proofs.imports.import_apps.Goals as goal

pub loop-app-init : goal.loop-app-init
loop-app-init c = λ w v so_far. no_app w v c.args.count c.args.rows.now so_far

pub loop-app-preserved : goal.loop-app-preserved
loop-app-preserved c = λ w v so_far.
    let xs = c.args.apps.now in
    let i = c.loop-app.app-index in
    let within : i < length xs = search rules in
    let item : get_or xs i c.app-item.result ≡ c.app-item.result = search rules in
    app_next w v i _ _ _ _ xs c.app-item.result within item
    (c.in_ok-counted.ensures w (with_rows v (kinds.Apps (take i xs)))) (c.loop-app.invariant w v so_far)

pub returns : goal.returns
returns c = λ w v so_far.
    counted_now w _ c.loop-app.counted _
    (subst (λ xs. AreImported w (with_rows v (kinds.Apps xs)) c.loop-app.counted c.loop-app.rows)
    (take_all c.loop-app.app-index c.args.apps.now c.loop-app-test.false) (c.loop-app.invariant w v so_far))
