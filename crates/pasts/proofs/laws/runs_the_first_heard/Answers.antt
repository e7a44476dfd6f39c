use Rattle.pasts.proofs.Carried.{runs_the_first_heard}
use Rattle.pasts.proofs.laws.runs_the_first_heard.Goals as goal

pub returns : goal.returns
returns c = runs_the_first_heard
