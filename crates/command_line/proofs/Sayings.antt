-- What the words of a command line order, from what `clap` finds in them and from its faults.
use Rattle.std.proofs.Common.{◌≡◌, ◌⊎◌, ◌∙◌, ap, sym, subst, refl, inl, inr, List, [], ◌∷◌, Option, None, Result, Ok, Err}
use Rattle.clap.specs.Words.{IsAmong, Kinds, Row, Text, fault_of, subcommand_of}
use Rattle.clap.specs.declared.error.kind.ErrorKind.{ErrorKind}
use Rattle.clap.specs.declared.error.kind.ErrorKind.TheVariants as kind
use Rattle.command_line.specs.Orders.{FaultSays, GivesOrder, OrderSays, order_by, unless_refused}
use Rattle.command_line.specs.Program.{the_program}
use Rattle.command_line.specs.declared.order.Order.{Order}
use Rattle.command_line.specs.declared.order.OrderFault.{OrderFault}
use Rattle.command_line.specs.declared.order.OrderFault.TheVariants.{Refused, Help, Memory}

no_order : (given : ErrorKind) (kinds : Kinds) (order : Option Order) → IsAmong given kinds → unless_refused kinds order ≡ None
no_order given [] order among = absurd among
no_order given (k ∷ ks) order among = refl

its_order : (kinds : Kinds) (order : Option Order) → kinds ≡ [] → unless_refused kinds order ≡ order
its_order [] order none = refl
its_order (k ∷ ks) order none = cc

-- without a fault the words order what their subcommand orders
pub says_order : (words : List Text) (entered : Option (Text × List Row)) (answer : Result Order OrderFault)
    → entered ≡ subcommand_of the_program words → fault_of the_program words ≡ [] → GivesOrder (order_by entered) answer
    → OrderSays words answer
says_order words entered (Ok order) found none given = its_order _ _ none ∙ (ap order_by (sym found) ∙ given)
says_order words entered (Err Refused) found none given = its_order _ _ none ∙ (ap order_by (sym found) ∙ given)
says_order words entered (Err (Help text)) found none given = absurd given
says_order words entered (Err Memory) found none given = tt

-- with a fault of this kind they order nothing
pub says_fault : (words : List Text) (given : ErrorKind) (fault : OrderFault)
    → (given ≡ kind.OutOfMemory) ⊎ IsAmong given (fault_of the_program words) → FaultSays given fault → OrderSays words (Err fault)
says_fault words given Refused among said = elim among [
  | inl memory ↦ absurd (said memory)
  | inr found ↦ no_order given _ _ found
]
says_fault words given (Help text) among said = elim among [
  | inl memory ↦ absurd (other (sym said ∙ memory))
  | inr found ↦ subst (λ (k : ErrorKind). IsAmong k (fault_of the_program words)) said found
]
  where
    other : kind.DisplayHelp ≡ kind.OutOfMemory → ⊥
    other e = cc
says_fault words given Memory among said = tt
