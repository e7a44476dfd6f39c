-- Rule. What the words of a command line order. (This profile.)
use Rattle.std.specs.Prelude.{◌≡◌, ◌≢◌, ⊤, ℕ, List, [], ◌∷◌, codes, Option, Some, None, option_and_then, Result, Ok, Err, if◌then◌else◌}
use Rattle.std.specs.Str.{bytes_eq}
use Rattle.clap.specs.Words.{IsAmong, Kinds, Row, Text, fault_of, first_of, subcommand_of}
use Rattle.clap.specs.declared.error.kind.ErrorKind.{ErrorKind}
use Rattle.clap.specs.declared.error.kind.ErrorKind.TheVariants as kind
use Rattle.texts.specs.Words.{word_of}
use Rattle.instants.specs.Instants.{moment_in}
use Rattle.command_line.specs.Numbers.{number_up_to, last_port, most_connections, last_host}
use Rattle.command_line.specs.Program.{the_program}
use Rattle.command_line.specs.declared.order.Order.{Order}
use Rattle.command_line.specs.declared.order.Order.TheVariants.{Create, Serve, Import, Tick, Statement, Upgrade, Replay}
use Rattle.command_line.specs.declared.order.OrderFault.{OrderFault}
use Rattle.command_line.specs.declared.order.OrderFault.TheVariants.{Refused, Help, Memory}

-- if something was said, the next step gets it
infixl 10 ◌>>=◌
abbrev pub ◌>>=◌ : {A B : Type 0} → Option A → (A → Option B) → Option B
said >>= next = option_and_then next said

-- the value of an option, read in one of three ways
abbrev pub number_at : Text → ℕ → List Row → Option ℕ
number_at name most values = first_of name values >>= number_up_to most

abbrev pub word_at : Text → List Row → Option Text
word_at name values = first_of name values >>= word_of

abbrev pub moment_at : Text → List Row → Option ℕ
moment_at name values = first_of name values >>= moment_in

-- what each subcommand orders, from the values of its options
abbrev pub create_order : List Row → Option Order
create_order values =
    first_of (codes "settings") values >>= λ settings.
    first_of (codes "tables") values >>= λ tables.
    Some (Create settings tables)

abbrev pub serve_order : List Row → Option Order
serve_order values =
    first_of (codes "tables") values >>= λ tables.
    number_at (codes "port") last_port values >>= λ port.
    number_at (codes "count") most_connections values >>= λ count.
    Some (Serve tables port count)

abbrev pub import_order : List Row → Option Order
import_order values =
    first_of (codes "tables") values >>= λ tables.
    word_at (codes "kind") values >>= λ kind.
    word_at (codes "batch") values >>= λ batch.
    first_of (codes "file") values >>= λ file.
    Some (Import tables kind batch file)

abbrev pub tick_order : List Row → Option Order
tick_order values =
    first_of (codes "tables") values >>= λ tables.
    moment_at (codes "at") values >>= λ at.
    Some (Tick tables at)

abbrev pub statement_order : List Row → Option Order
statement_order values =
    first_of (codes "tables") values >>= λ tables.
    number_at (codes "host") last_host values >>= λ host.
    Some (Statement tables host)

abbrev pub upgrade_order : List Row → Option Order
upgrade_order values =
    first_of (codes "tables") values >>= λ tables.
    Some (Upgrade tables)

abbrev pub replay_order : List Row → Option Order
replay_order values = Some (Replay (first_of (codes "settings") values))

-- what the subcommand of this name orders
abbrev pub order_named : Text → List Row → Option Order
order_named name values =
    if bytes_eq name (codes "create") then create_order values
    else (if bytes_eq name (codes "serve") then serve_order values
    else (if bytes_eq name (codes "import") then import_order values
    else (if bytes_eq name (codes "tick") then tick_order values
    else (if bytes_eq name (codes "statement") then statement_order values
    else (if bytes_eq name (codes "upgrade") then upgrade_order values
    else (if bytes_eq name (codes "replay") then replay_order values
    else None))))))

-- a command line without a subcommand orders a replay with the default settings
abbrev pub order_by : Option (Text × List Row) → Option Order
order_by None = Some (Replay None)
order_by (Some entered) = order_named entered.0 entered.1

-- words that `clap` refuses order nothing
abbrev pub unless_refused : Kinds → Option Order → Option Order
unless_refused [] order = order
unless_refused (fault ∷ faults) order = None

-- what the words of a command line order, if the first is the program's name; `clap` finds the subcommand and the options in them
abbrev pub order_of_words : List Text → Option Order
order_of_words words = unless_refused (fault_of the_program words) (order_by (subcommand_of the_program words))

-- A result gives the order that there is, or says that there is none, or that there was no memory.
abbrev pub GivesOrder : Option Order → Result Order OrderFault → Type 0
GivesOrder order (Ok given) = order ≡ Some given
GivesOrder order (Err Refused) = order ≡ None
GivesOrder order (Err (Help text)) = ⊥
GivesOrder order (Err Memory) = ⊤

-- a fault says which kind of error `clap` gave; without memory it says nothing
abbrev pub FaultSays : ErrorKind → OrderFault → Type 0
FaultSays given Refused = given ≢ kind.OutOfMemory
FaultSays given (Help text) = given ≡ kind.DisplayHelp
FaultSays given Memory = ⊤

-- A result says what the words order, or that they order nothing, or that they ask for help; without memory it says nothing.
abbrev pub OrderSays : List Text → Result Order OrderFault → Type 0
OrderSays words (Ok order) = order_of_words words ≡ Some order
OrderSays words (Err Refused) = order_of_words words ≡ None
OrderSays words (Err (Help text)) = IsAmong kind.DisplayHelp (fault_of the_program words)
OrderSays words (Err Memory) = ⊤
