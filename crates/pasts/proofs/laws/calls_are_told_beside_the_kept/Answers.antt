use Rattle.pasts.proofs.Repeats.{calls_are_told_beside_the_kept}
use Rattle.pasts.proofs.laws.calls_are_told_beside_the_kept.Goals as goal

pub returns : goal.returns
returns c = calls_are_told_beside_the_kept
