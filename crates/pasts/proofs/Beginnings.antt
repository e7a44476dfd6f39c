-- The first-heard messages of a past begin with those of each shorter one.
use Rattle.std.proofs.Common.{◌≡◌, List, [], ◌∷◌, ◌++◌, Bool, true, false, refl, ap}
use Rattle.std.specs.Prelude.{if◌then◌else◌}
use Rattle.pasts.specs.Laws.{FirstHeardBegins}
use Rattle.pasts.specs.Messages.{Message}

abbrev BeginsWith : List Message → List Message → Type 0
BeginsWith all older = (later : List Message) × (all ≡ later ++ older)

one_more : (first : Bool) (m : Message) (all older : List Message) → BeginsWith all older → BeginsWith (if first then m ∷ all else all) older
one_more true m all older begins = (m ∷ begins.0, ap (λ messages. m ∷ messages) begins.1)
one_more false m all older begins = begins

pub first_heard_begins : FirstHeardBegins
first_heard_begins s [] older = ([], refl)
first_heard_begins s (m ∷ newer) older = one_more _ m _ _ (first_heard_begins s newer older)
