use Rattle.std.proofs.Common.{◌≡◌, Some, None, option_map, ap, ◌∙◌, rules}
use Rattle.table_meaning.specs.Codes.{status_of_code}
use Rattle.table_meaning.specs.Rows.{whole}
use Rattle.table_desk.proofs.ColumnsCounted.{status_is, no_status}
use Rattle.table_desk.proofs.columns.status_of.Goals as goal

pub returns-in-None-clause-answer : goal.returns-in-None-clause-answer
returns-in-None-clause-answer g c = λ clean is_open rests w tell.
    let none : None ≡ c.in_ok-status_of.field-0 = search rules in
    no_status _ w tell c.args.unit (ap (option_map whole) none ∙ c.in_ok-status_of.ensures.row clean tell.holds.known)

pub returns-in-Some-status_of_code-clause-answer : goal.returns-in-Some-status_of_code-clause-answer
returns-in-Some-status_of_code-clause-answer g c = λ clean is_open rests w tell.
    let found : Some c.in-Some.number ≡ c.in_ok-status_of.field-0 = search rules in
    let told : Some c.in-Some-status_of_code.status ≡ status_of_code c.in-Some.number = search rules in
    status_is _ w tell c.args.unit c.in-Some.number c.in-Some-status_of_code.status (ap (option_map whole) found ∙ c.in_ok-status_of.ensures.row clean tell.holds.known) told
