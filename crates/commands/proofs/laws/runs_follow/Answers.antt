use Rattle.commands.proofs.Runs.{runs_follow}
use Rattle.commands.proofs.laws.runs_follow.Goals as goal

pub returns : goal.returns
returns c = runs_follow
