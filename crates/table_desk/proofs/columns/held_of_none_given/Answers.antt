use Rattle.table_desk.proofs.PlacesNone.{none_held}
use Rattle.table_desk.proofs.columns.held_of_none_given.Goals as goal

pub returns-clause-answer : goal.returns-clause-answer
returns-clause-answer g c = λ clean is_open rests w tell. none_held w c.args.host (c.in_ok-test_none_given.ensures.answer clean is_open rests w tell)
