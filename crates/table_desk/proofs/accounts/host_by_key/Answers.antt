use Rattle.table_desk.proofs.Found.{host_is_known}
use Rattle.table_desk.proofs.accounts.host_by_key.Goals as goal

pub returns-clause-answer : goal.returns-clause-answer
returns-clause-answer g c = λ clean is_open rests w tell. host_is_known _ w tell c.args.account c.args.cpid.now c.in_ok-host_known.field-0 (c.in_ok-host_known.ensures.first clean tell.holds.known)
