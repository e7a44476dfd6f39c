use Rattle.office_files.proofs.TextRecords.{text_has_one_list}
use Rattle.office_files.proofs.laws.a_text_has_one_list_of_records.Goals as goal

pub returns : goal.returns
returns c = text_has_one_list
