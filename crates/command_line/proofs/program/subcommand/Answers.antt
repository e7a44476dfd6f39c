use Rattle.std.proofs.Common.{arith}
use Rattle.command_line.proofs.Options.{one_option}
use Rattle.command_line.proofs.program.subcommand.Goals as goal

pub loop-option-preserved : goal.loop-option-preserved
loop-option-preserved c =
    one_option _ _ _ _ _ _ _ (omega arith) c.in_ok-command.ensures c.wanted.ensures.rule c.wanted.ensures.local c.loop-option.invariant
