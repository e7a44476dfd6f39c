use Rattle.std.proofs.Common.{rules, ◌≡◌, ◌<◌, length, take, get_or, subst}
use Rattle.std.proofs.lemmas.List.{take_all}
use Rattle.sched_book.specs.Imports.{with_rows}
use Rattle.sched_book.specs.declared.rows.Rows.TheVariants as kinds
use Rattle.table_changes.specs.Imported.{AreImported}
use Rattle.table_changes.proofs.ImportRows.{account_next, no_account, counted_now}
use Rattle.table_changes.proofs.imports.import_accounts.Goals as goal

pub loop-account-init : goal.loop-account-init
loop-account-init c = λ w v so_far. no_account w v c.args.count c.args.rows.now so_far

pub loop-account-preserved : goal.loop-account-preserved
loop-account-preserved c = λ w v so_far.
    let xs = c.args.accounts.now in
    let i = c.loop-account.account-index in
    let within : i < length xs = search rules in
    let item : get_or xs i c.account-item.result ≡ c.account-item.result = search rules in
    account_next w v i _ _ _ _ xs c.account-item.result within item
    (c.in_ok-counted.ensures w (with_rows v (kinds.Accounts (take i xs)))) (c.loop-account.invariant w v so_far)

pub returns : goal.returns
returns c = λ w v so_far.
    counted_now w _ c.loop-account.counted _
    (subst (λ xs. AreImported w (with_rows v (kinds.Accounts xs)) c.loop-account.counted c.loop-account.rows)
    (take_all c.loop-account.account-index c.args.accounts.now c.loop-account-test.false) (c.loop-account.invariant w v so_far))
