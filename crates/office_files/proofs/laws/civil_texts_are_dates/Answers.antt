use Rattle.office_files.proofs.CivilTexts.{text_is}
use Rattle.office_files.proofs.laws.civil_texts_are_dates.Goals as goal

pub returns : goal.returns
returns c = text_is
