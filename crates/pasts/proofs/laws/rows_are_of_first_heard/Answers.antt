use Rattle.pasts.proofs.Carried.{rows_are_of_first_heard}
use Rattle.pasts.proofs.laws.rows_are_of_first_heard.Goals as goal

pub returns : goal.returns
returns c = rows_are_of_first_heard
