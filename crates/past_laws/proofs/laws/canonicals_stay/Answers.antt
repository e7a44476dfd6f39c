use Rattle.past_laws.proofs.Holds.{canonicals_stay}
use Rattle.past_laws.proofs.laws.canonicals_stay.Goals as goal

pub returns : goal.returns
returns c = canonicals_stay
