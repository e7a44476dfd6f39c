-- What the fields of a name say: those so far, and the others.
use Rattle.std.proofs.Common.{List, ℕ, [], ◌∷◌}
use Rattle.http_messages.specs.Fields.{Told, absent, once, often, field_with}

abbrev pub told_after : Told → List (List ℕ) → Told
told_after absent values = field_with values
told_after (once value) [] = once value
told_after (once value) (other ∷ values) = often
told_after often values = often
