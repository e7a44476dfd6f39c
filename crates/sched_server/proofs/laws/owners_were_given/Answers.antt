use Rattle.sched_server.proofs.Owners.{owners_were_given}
use Rattle.sched_server.proofs.laws.owners_were_given.Goals as goal

pub returns : goal.returns
returns c = owners_were_given
