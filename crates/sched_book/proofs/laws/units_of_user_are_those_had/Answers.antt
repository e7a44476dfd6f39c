use Rattle.sched_book.proofs.UnitsHad.{units_of_user_are_those_had}
use Rattle.sched_book.proofs.laws.units_of_user_are_those_had.Goals as goal

pub returns : goal.returns
returns c = units_of_user_are_those_had
