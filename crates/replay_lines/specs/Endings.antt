-- Words. How a program ends. (This profile.)
use Rattle.std.specs.Prelude.{ℕ}
use Rattle.replay_lines.specs.declared.Ended.{Ended}
use Rattle.replay_lines.specs.declared.Ended.TheVariants.{Good, Line, File, Unavailable}

-- 1 means a fault of the input or output, 2 that there was no memory
abbrev pub exit_status : Ended → ℕ
exit_status Good = 0
exit_status (Line number) = 1
exit_status File = 1
exit_status Unavailable = 2
