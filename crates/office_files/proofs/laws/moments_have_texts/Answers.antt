use Rattle.office_files.proofs.LineMoments.{moments_have_texts}
use Rattle.office_files.proofs.laws.moments_have_texts.Goals as goal

pub returns : goal.returns
returns c = moments_have_texts
