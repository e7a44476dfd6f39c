-- Rule. The kinds of values that a column may have.
use Rattle.std.specs.Prelude.{◌≡◌, ◌<◌, ◌^◌, ◌⊎◌, ℕ, ℤ, pos, List, IsUtf8}
use Rattle.sqlite_value.specs.declared.value.Value.{Value}
use Rattle.sqlite_value.specs.declared.value.Value.TheVariants.{Null, Int, Text, Blob}

pub data Kind : Type 0 where
  -- a number below 2^32
  number : Kind
  -- any integer
  integer : Kind
  -- a text in UTF-8
  words : Kind
  -- 0 or 1
  flag : Kind
  octets : Kind
  -- NULL, or a value of the other kind
  optional : Kind → Kind
  -- a value of one kind or of the other
  either : Kind → Kind → Kind

abbrev pub IsOf : Kind → Value → Type 0
IsOf number v = (n : ℕ) × (v ≡ Int (pos n)) × (n < 2 ^ 32)
IsOf integer v = (n : ℤ) × (v ≡ Int n)
IsOf words v = (t : List ℕ) × (v ≡ Text t) × IsUtf8 t
IsOf flag v = (v ≡ Int (pos 0)) ⊎ (v ≡ Int (pos 1))
IsOf octets v = (b : List ℕ) × (v ≡ Blob b)
IsOf (optional kind) v = (v ≡ Null) ⊎ IsOf kind v
IsOf (either first other) v = IsOf first v ⊎ IsOf other v
