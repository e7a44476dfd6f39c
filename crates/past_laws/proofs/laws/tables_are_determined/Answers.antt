use Rattle.past_laws.proofs.Determined.{tables_are_determined}
use Rattle.past_laws.proofs.laws.tables_are_determined.Goals as goal

pub returns : goal.returns
returns c = tables_are_determined
