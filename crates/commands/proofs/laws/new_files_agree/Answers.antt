use Rattle.commands.proofs.Runs.{new_files_agree}
use Rattle.commands.proofs.laws.new_files_agree.Goals as goal

pub returns : goal.returns
returns g c = new_files_agree
