use Rattle.past_laws.proofs.Holds.{units_stay}
use Rattle.past_laws.proofs.laws.units_stay.Goals as goal

pub returns : goal.returns
returns c = units_stay
