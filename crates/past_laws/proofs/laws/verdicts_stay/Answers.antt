use Rattle.past_laws.proofs.Holds.{verdicts_stay}
use Rattle.past_laws.proofs.laws.verdicts_stay.Goals as goal

pub returns : goal.returns
returns c = verdicts_stay
