use Rattle.std.proofs.Common.{sym, ap}
use Rattle.table_meaning.specs.Texts.{put_text as sql_put}
use Rattle.table_meaning.specs.Rows.{table_at, row_key_of}
use Rattle.table_rows.proofs.statements.put_text.Goals as goal

pub returns-in-Host : goal.returns-in-Host
returns-in-Host c = sym (ap (λ r. sql_put (table_at (row_key_of r))) c.in-Host.is)

pub returns-in-Kept : goal.returns-in-Kept
returns-in-Kept c = sym (ap (λ r. sql_put (table_at (row_key_of r))) c.in-Kept.is)

pub returns-in-UnitMark : goal.returns-in-UnitMark
returns-in-UnitMark c = sym (ap (λ r. sql_put (table_at (row_key_of r))) c.in-UnitMark.is)
