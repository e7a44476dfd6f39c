use Rattle.pasts.proofs.StepLeaves.{step_leaves}
use Rattle.pasts.proofs.laws.a_step_leaves_the_rest.Goals as goal

pub returns : goal.returns
returns c = step_leaves
