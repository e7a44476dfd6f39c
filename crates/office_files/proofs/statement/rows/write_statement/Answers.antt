-- The header, the lines and the total, one after the other.
use Rattle.std.proofs.Common.{[], ◌++◌, subst}
use Rattle.std.specs.Prelude.{OnOk}
use Rattle.std.specs.List.{flat_map}
use Rattle.csv.specs.Writing.{default_writer, row_text}
use Rattle.office_files.specs.Rows.{HasWritten}
use Rattle.office_files.specs.Statements.{header, line_text, total_fields}
use Rattle.office_files.proofs.statement.rows.write_statement.Goals as goal

pub returns : goal.returns
returns g c = λ start.
    let headed = c.in_ok-write_header.ensures [] start in
    let lined = c.in_ok-write_lines.ensures (row_text default_writer header) headed in
    subst (λ credit. OnOk c.write_total.result (HasWritten g.W.Write.contents c.write_total.new.writer (row_text default_writer header ++ flat_map line_text c.args.lines.now ++ row_text default_writer (total_fields credit))))
    c.in-Some.ensures.1
    (c.write_total.ensures (row_text default_writer header ++ flat_map line_text c.args.lines.now) lined)
