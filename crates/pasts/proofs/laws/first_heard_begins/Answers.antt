use Rattle.pasts.proofs.Beginnings.{first_heard_begins}
use Rattle.pasts.proofs.laws.first_heard_begins.Goals as goal

pub returns : goal.returns
returns c = first_heard_begins
