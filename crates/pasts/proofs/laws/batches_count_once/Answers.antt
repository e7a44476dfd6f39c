use Rattle.pasts.proofs.Repeats.{batches_count_once}
use Rattle.pasts.proofs.laws.batches_count_once.Goals as goal

pub returns : goal.returns
returns c = batches_count_once
