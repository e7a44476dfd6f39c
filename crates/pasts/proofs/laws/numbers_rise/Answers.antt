use Rattle.pasts.proofs.Rising.{numbers_rise}
use Rattle.pasts.proofs.laws.numbers_rise.Goals as goal

pub returns : goal.returns
returns c = numbers_rise
