-- Words. The greatest number of a list.
use Rattle.std.specs.Prelude.{ℕ, List, fold, nat_le, if◌then◌else◌, Option, Some, None}

-- the greater of the best so far and one more number
abbrev pub greater : Option ℕ → ℕ → Option ℕ
greater None n = Some n
greater (Some best) n = if nat_le n best then Some best else Some n

abbrev pub greatest : List ℕ → Option ℕ
greatest numbers = fold greater None numbers
