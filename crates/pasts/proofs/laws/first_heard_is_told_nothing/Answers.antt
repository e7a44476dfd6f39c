use Rattle.pasts.proofs.Carried.{first_heard_is_told_nothing}
use Rattle.pasts.proofs.laws.first_heard_is_told_nothing.Goals as goal

pub returns : goal.returns
returns c = first_heard_is_told_nothing
