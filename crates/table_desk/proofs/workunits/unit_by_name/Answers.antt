use Rattle.table_desk.proofs.Found.{unit_is_named}
use Rattle.table_desk.proofs.workunits.unit_by_name.Goals as goal

pub returns-clause-answer : goal.returns-clause-answer
returns-clause-answer g c = λ clean is_open rests w tell. unit_is_named _ w tell c.args.name.now c.in_ok-unit_named.field-0 (c.in_ok-unit_named.ensures.first clean tell.holds.known)
