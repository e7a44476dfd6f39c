use Rattle.office_files.proofs.InOrder.{imports_read_in_order}
use Rattle.office_files.proofs.laws.the_first_faulty_row_is_told.Goals as goal

pub returns : goal.returns
returns c = imports_read_in_order
