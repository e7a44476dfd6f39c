use Rattle.std.proofs.Common.{◌≡◌, Some, None, option_map, ap, ◌∙◌, rules}
use Rattle.table_meaning.specs.declared.rows.StoredInstance.{StoredInstance}
use Rattle.table_meaning.specs.declared.rows.StoredRow.TheVariants as stored
use Rattle.table_meaning.specs.Rows.{columns_of}
use Rattle.table_desk.proofs.Found.{no_instance, instance_found}
use Rattle.table_desk.proofs.workunits.instance_at.Goals as goal

pub returns-in-None-clause-answer : goal.returns-in-None-clause-answer
returns-in-None-clause-answer g c = λ clean is_open rests w tell.
    let none : None ≡ c.in_ok-instance_of.field-0 = search rules in
    no_instance _ w tell c.args.unit c.args.number (ap (option_map (λ (x : StoredInstance). columns_of (stored.Instance x))) none ∙ c.in_ok-instance_of.ensures.row clean tell.holds.known)

pub returns-in_ok-instance-in-Some-clause-answer : goal.returns-in_ok-instance-in-Some-clause-answer
returns-in_ok-instance-in-Some-clause-answer g c = λ clean is_open rests w tell.
    let found : Some c.in-Some.row ≡ c.in_ok-instance_of.field-0 = search rules in
    instance_found _ w tell c.args.unit c.args.number c.in-Some.row c.in_ok-instance-in-Some.field-0
    (ap (option_map (λ (x : StoredInstance). columns_of (stored.Instance x))) found ∙ c.in_ok-instance_of.ensures.row clean tell.holds.known) c.in_ok-instance-in-Some.ensures.read
