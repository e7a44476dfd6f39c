-- A command with one more option.
use Rattle.std.proofs.Common.{◌≡◌, ◌∙◌, Bor, ℕ, ◌+◌, ◌<◌, List, [], ◌∷◌, length, get_or, take, map, false, sym, ap, ap₂}
use Rattle.std.specs.Prelude.{◌||◌}
use Rattle.std.proofs.lemmas.List.{map-append, take_more}
use Rattle.clap.specs.Words.{AddsArg, Text, rule_of, with_rule}
use Rattle.clap.specs.declared.builder.arg.Arg.{Arg}
use Rattle.clap.specs.declared.builder.command.Command.{Command}
use Rattle.command_line.specs.Program.{IsSubcommand, command, wanted}

-- the name of an option, that of its value, and its help
abbrev OptionWords : Type 0
OptionWords = Bor (List ℕ) × Bor (List ℕ) × Bor (List ℕ)

pub one_option : (old new : Command) (a : Arg) (name : Text) (options : List OptionWords) (i : ℕ) (none : OptionWords) → i < length options
    → AddsArg old a new → rule_of a ≡ wanted (get_or options i none).0.now → a.global ≡ false
    → IsSubcommand (command name (map (λ (o : OptionWords). wanted o.0.now) (take i options))) old
    → IsSubcommand (command name (map (λ (o : OptionWords). wanted o.0.now) (take (i + 1) options))) new
one_option old new a name options i none within added rule local so_far =
    let rules = λ (o : OptionWords). wanted o.0.now in
    record {
      is =
          added.shape local
          ∙ ap₂ with_rule so_far.is rule
          ∙ ap (command name) (sym (ap (map rules) (take_more options i none within) ∙ map-append rules (take i options) (get_or options i none ∷ [])));
      local = added.globals ∙ ap₂ ◌||◌ so_far.local local;
    }
