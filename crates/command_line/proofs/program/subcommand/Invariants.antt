use Rattle.std.proofs.Common.{map, take}
use Rattle.command_line.specs.Program.{IsSubcommand, command, wanted}
use Rattle.command_line.proofs.program.subcommand.Given as goal

-- the command with the options so far
abbrev pub invariant-loop-option : goal.invariant-loop-option
invariant-loop-option l =
    IsSubcommand (command l.fn.name (map (λ option. wanted option.0.now) (take l.option-index l.options))) l.command
