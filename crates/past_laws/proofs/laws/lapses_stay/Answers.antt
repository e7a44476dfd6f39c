use Rattle.past_laws.proofs.Holds.{lapses_stay}
use Rattle.past_laws.proofs.laws.lapses_stay.Goals as goal

pub returns : goal.returns
returns c = lapses_stay
