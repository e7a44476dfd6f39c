use Rattle.office_files.proofs.OneSettings.{texts_tell_one_settings}
use Rattle.office_files.proofs.laws.a_text_tells_one_settings.Goals as goal

pub returns : goal.returns
returns c = texts_tell_one_settings
