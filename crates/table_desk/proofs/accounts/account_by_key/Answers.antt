use Rattle.std.proofs.Common.{◌≡◌, Some, None, option_map, ap, ◌∙◌, rules}
use Rattle.table_meaning.specs.declared.rows.StoredAccount.{StoredAccount}
use Rattle.table_meaning.specs.declared.rows.StoredRow.TheVariants as stored
use Rattle.table_meaning.specs.Rows.{columns_of}
use Rattle.table_desk.proofs.Found.{no_account, account_is}
use Rattle.table_desk.proofs.accounts.account_by_key.Goals as goal

pub returns-in-None-clause-answer : goal.returns-in-None-clause-answer
returns-in-None-clause-answer g c = λ clean is_open rests w tell.
    let none : None ≡ c.in_ok-account_with.field-0 = search rules in
    no_account _ w tell c.args.authenticator.now (ap (option_map (λ (a : StoredAccount). columns_of (stored.Account a))) none ∙ c.in_ok-account_with.ensures.first clean tell.holds.known)

pub returns-in_ok-account-in-Some-clause-answer : goal.returns-in_ok-account-in-Some-clause-answer
returns-in_ok-account-in-Some-clause-answer g c = λ clean is_open rests w tell.
    let found : Some c.in-Some.found ≡ c.in_ok-account_with.field-0 = search rules in
    account_is _ w tell c.args.authenticator.now c.in-Some.found c.in_ok-account-in-Some.field-0
    (ap (option_map (λ (a : StoredAccount). columns_of (stored.Account a))) found ∙ c.in_ok-account_with.ensures.first clean tell.holds.known) c.in_ok-account-in-Some.ensures.read
