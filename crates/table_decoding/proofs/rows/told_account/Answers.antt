use Rattle.std.proofs.Common.{sym, ◌∙◌}
use Rattle.table_meaning.specs.Worlds.{account_row}
use Rattle.table_decoding.proofs.Refusals.{same_account_row}
use Rattle.table_decoding.proofs.rows.told_account.Goals as goal

pub returns-in-Account : goal.returns-in-Account
returns-in-Account c = λ id a limits is. c.account.ensures.given id a limits (same_account_row c.in-Account.row (account_row id a) (sym c.in-Account.is ∙ is))
