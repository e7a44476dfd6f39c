-- Rule. Readings. Each returns a value or the first fault.
use Rattle.std.specs.Prelude.{◌≡◌, ◌≢◌, Result, Ok, Err}

-- A reading continues with what was read, and ends at the first fault.
unfoldable pub and_then : {A B E : Type 0} → Result A E → (A → Result B E) → Result B E
and_then (Ok x) f = f x
and_then (Err e) f = Err e

infixl 10 ◌>>=◌
abbrev pub ◌>>=◌ : {A B E : Type 0} → Result A E → (A → Result B E) → Result B E
◌>>=◌ = and_then

-- The result of a call is what a reading says, unless the call met this fault, such as a lack of memory.
abbrev pub GivesUnless : {A E : Type 0} → E → Result A E → Result A E → Type 0
GivesUnless fault (Ok x) reading = reading ≡ Ok x
GivesUnless fault (Err e) reading = e ≢ fault → reading ≡ Err e
