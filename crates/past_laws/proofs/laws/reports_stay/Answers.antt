use Rattle.past_laws.proofs.Holds.{reports_stay}
use Rattle.past_laws.proofs.laws.reports_stay.Goals as goal

pub returns : goal.returns
returns c = reports_stay
