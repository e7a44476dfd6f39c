use Rattle.past_laws.proofs.Holds.{owners_stay}
use Rattle.past_laws.proofs.laws.owners_stay.Goals as goal

pub returns : goal.returns
returns c = owners_stay
