use Rattle.past_laws.proofs.Holds.{classes_stay}
use Rattle.past_laws.proofs.laws.classes_stay.Goals as goal

pub returns : goal.returns
returns c = classes_stay
