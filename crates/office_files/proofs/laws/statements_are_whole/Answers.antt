use Rattle.office_files.proofs.WholeStatements.{statements_are_whole}
use Rattle.office_files.proofs.laws.statements_are_whole.Goals as goal

pub returns : goal.returns
returns c = statements_are_whole
