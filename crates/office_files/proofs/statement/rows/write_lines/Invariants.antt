use Rattle.std.proofs.Common.{ℕ, List, ◌++◌, take}
use Rattle.std.specs.List.{flat_map}
use Rattle.office_files.specs.Rows.{HasWritten}
use Rattle.office_files.specs.Statements.{line_text}
use Rattle.office_files.proofs.statement.rows.write_lines.Given as goal

-- the lines so far are written
abbrev pub invariant-loop-line : goal.invariant-loop-line
invariant-loop-line g l = (before : List ℕ) → HasWritten g.W.Write.contents l.fn.writer before
    → HasWritten g.W.Write.contents l.writer (before ++ flat_map line_text (take l.line-index l.lines))
