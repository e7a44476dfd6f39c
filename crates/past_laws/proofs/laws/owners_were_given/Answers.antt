use Rattle.past_laws.proofs.Owners.{owners_were_given}
use Rattle.past_laws.proofs.laws.owners_were_given.Goals as goal

pub returns : goal.returns
returns c = owners_were_given
