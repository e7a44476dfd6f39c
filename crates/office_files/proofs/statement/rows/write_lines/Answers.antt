-- Row by row.
use Rattle.std.proofs.Common.{◌++◌, subst, take, arith}
use Rattle.std.specs.List.{flat_map}
use Rattle.std.proofs.lemmas.List.{take_all}
use Rattle.office_files.specs.Rows.{HasWritten}
use Rattle.office_files.specs.Statements.{line_text}
use Rattle.office_files.proofs.StatementTexts.{row_more}
use Rattle.office_files.proofs.statement.rows.write_lines.Goals as goal

pub loop-line-preserved : goal.loop-line-preserved
loop-line-preserved g c = λ before has.
    let lines = c.args.lines.now in
    let i = c.loop-line.line-index in
    subst (HasWritten g.W.Write.contents c.write_line.new.writer) (row_more before lines i c.line-item.result (omega arith) c.line-item.is)
    (c.in_ok-write_line.ensures (before ++ flat_map line_text (take i lines)) (c.loop-line.invariant before has))

pub returns : goal.returns
returns g c = λ before has.
    subst (λ lines. HasWritten g.W.Write.contents c.loop-line.writer (before ++ flat_map line_text lines)) (take_all c.loop-line.line-index c.args.lines.now (omega arith))
    (c.loop-line.invariant before has)
