-- The program is one of the commands for which `clap`'s contracts say what it finds, and why it refuses words.
use Rattle.std.proofs.Common.{◌≡◌, true, refl}
use Rattle.clap.specs.Words.{is_simple, is_simple_and_free}
use Rattle.clap.proofs.OnLiterals.{clap_on_literals}
use Rattle.command_line.specs.Program.{the_program}

pub is_simple_program : is_simple the_program ≡ true
unfolding clap_on_literals the_program
is_simple_program = refl

pub is_free_program : is_simple_and_free the_program ≡ true
unfolding clap_on_literals the_program
is_free_program = refl
