use Rattle.std.proofs.Common.{ap, ◌∙◌}
use Rattle.table_meaning.specs.declared.rows.StoredRow.TheVariants as stored
use Rattle.table_changes.proofs.ImportRows.{account_added}
use Rattle.table_changes.proofs.imports.push_account.Goals as goal

pub returns : goal.returns
returns c = λ w v so_far.
    account_added w v c.args.count c.args.rows.now c.push.new.self c.in_ok-accounts.accounts c.insert.result so_far c.in_ok-push.ensures.ok
    c.args.account.now c.in_ok-accounts.ensures (c.insert.ensures ∙ ap stored.Account c.in_ok-row.ensures)
