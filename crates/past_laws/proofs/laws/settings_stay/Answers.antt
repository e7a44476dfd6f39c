use Rattle.past_laws.proofs.Holds.{settings_stay}
use Rattle.past_laws.proofs.laws.settings_stay.Goals as goal

pub returns : goal.returns
returns c = settings_stay
