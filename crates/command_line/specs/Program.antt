-- Rule. The words that the program takes, as a command of `clap`. (This profile.)
use Rattle.std.specs.Prelude.{◌≡◌, List, [], ◌∷◌, codes, Some, true, false}
use Rattle.clap.specs.Words.{App, Rule, Text, app_of, new_app, new_rule}
use Rattle.clap.specs.Simple.{new_shape}
use Rattle.clap.specs.declared.builder.command.Command.{Command}
use Rattle.clap.specs.declared.builder.command.Command.TheViews.{out-Command}

-- an option `--NAME VALUE`
abbrev pub optional : Text → Rule
optional name = record (new_rule name) { long = Some name; value_names = 1 }

-- an option that must be given
abbrev pub wanted : Text → Rule
wanted name = record (optional name) { required = true }

-- a command with these options, and no subcommands
abbrev pub command : Text → List Rule → App
command name options = record (new_app name) { top = record (new_shape name) { rules = options } }

-- it is this command, and its options do not hold for its subcommands
pub record IsSubcommand (app : App) (c : Command) : Type 0 where
  pub is : app_of c ≡ app
  pub local : (out-Command c).has_globals ≡ false

abbrev pub create_command : App
create_command = command (codes "create") (wanted (codes "settings") ∷ wanted (codes "tables") ∷ [])

abbrev pub serve_command : App
serve_command = command (codes "serve") (wanted (codes "tables") ∷ wanted (codes "port") ∷ wanted (codes "count") ∷ [])

abbrev pub import_command : App
import_command =
    command (codes "import") (wanted (codes "tables") ∷ wanted (codes "kind") ∷ wanted (codes "batch") ∷ wanted (codes "file") ∷ [])

abbrev pub tick_command : App
tick_command = command (codes "tick") (wanted (codes "tables") ∷ wanted (codes "at") ∷ [])

abbrev pub statement_command : App
statement_command = command (codes "statement") (wanted (codes "tables") ∷ wanted (codes "host") ∷ [])

abbrev pub upgrade_command : App
upgrade_command = command (codes "upgrade") (wanted (codes "tables") ∷ [])

abbrev pub replay_command : App
replay_command = command (codes "replay") (optional (codes "settings") ∷ [])

-- the program with its subcommands
unfoldable pub the_program : App
the_program = record {
  top = record (new_shape (codes "bsched")) { is_leaf = false };
  subs = create_command.top ∷ serve_command.top ∷ import_command.top ∷ tick_command.top ∷ statement_command.top
      ∷ upgrade_command.top ∷ replay_command.top ∷ [];
}
