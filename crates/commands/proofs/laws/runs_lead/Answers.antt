use Rattle.commands.proofs.Runs.{runs_lead}
use Rattle.commands.proofs.laws.runs_lead.Goals as goal

pub returns : goal.returns
returns g c = runs_lead g.F.Files g.C.Connections g.C.Reader.Source g.C.Writer.Sink
