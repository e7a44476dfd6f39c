use Rattle.past_laws.proofs.Holds.{credits_never_fall}
use Rattle.past_laws.proofs.laws.credits_never_fall.Goals as goal

pub returns : goal.returns
returns c = credits_never_fall
