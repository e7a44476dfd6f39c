use Rattle.past_laws.proofs.Holds.{statuses_stay}
use Rattle.past_laws.proofs.laws.statuses_stay.Goals as goal

pub returns : goal.returns
returns c = statuses_stay
