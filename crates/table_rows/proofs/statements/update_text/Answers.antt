use Rattle.std.proofs.Common.{sym, ap}
use Rattle.table_meaning.specs.Texts.{update_first}
use Rattle.table_meaning.specs.Rows.{table_at, row_key_of}
use Rattle.table_rows.proofs.statements.update_text.Goals as goal

pub returns-in-Unit : goal.returns-in-Unit
returns-in-Unit c = sym (ap (λ r. update_first (table_at (row_key_of r))) c.in-Unit.is)
