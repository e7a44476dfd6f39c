use Rattle.past_laws.proofs.Holds.{one_for_each_user}
use Rattle.past_laws.proofs.laws.one_for_each_user.Goals as goal

pub returns : goal.returns
returns c = one_for_each_user
