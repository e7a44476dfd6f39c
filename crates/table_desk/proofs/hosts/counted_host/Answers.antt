use Rattle.std.proofs.Common.{◌≡◌, Some, None, option_map, ap, ◌∙◌, rules}
use Rattle.table_meaning.specs.declared.rows.StoredHost.{StoredHost}
use Rattle.table_meaning.specs.declared.rows.StoredRow.TheVariants as stored
use Rattle.table_meaning.specs.Rows.{columns_of}
use Rattle.table_desk.proofs.Found.{no_host, host_counted}
use Rattle.table_desk.proofs.hosts.counted_host.Goals as goal

pub returns-in-None-clause-answer : goal.returns-in-None-clause-answer
returns-in-None-clause-answer g c = λ clean is_open rests w tell.
    let none : None ≡ c.in_ok-host_of.field-0 = search rules in
    no_host _ w tell c.args.number (ap (option_map (λ (h : StoredHost). columns_of (stored.Host h))) none ∙ c.in_ok-host_of.ensures.row clean tell.holds.known)

pub returns-in_ok-counted-in-Some-clause-answer : goal.returns-in_ok-counted-in-Some-clause-answer
returns-in_ok-counted-in-Some-clause-answer g c = λ clean is_open rests w tell.
    let found : Some c.in-Some.row ≡ c.in_ok-host_of.field-0 = search rules in
    host_counted _ w tell c.args.number c.in-Some.row c.in_ok-counted-in-Some.field-0
    (ap (option_map (λ (h : StoredHost). columns_of (stored.Host h))) found ∙ c.in_ok-host_of.ensures.row clean tell.holds.known) c.in_ok-counted-in-Some.ensures.read
