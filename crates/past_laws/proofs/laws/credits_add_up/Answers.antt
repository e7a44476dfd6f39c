use Rattle.past_laws.proofs.Holds.{credits_add_up}
use Rattle.past_laws.proofs.laws.credits_add_up.Goals as goal

pub returns : goal.returns
returns c = credits_add_up
