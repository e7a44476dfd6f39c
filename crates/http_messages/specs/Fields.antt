-- Promise. What the fields of a head say. Their names are compared without regard to ASCII case (RFC 9110, section 5.1).
use Rattle.std.specs.Prelude.{ℕ, Bool, true, false, List, [], ◌∷◌, map, if◌then◌else◌}
use Rattle.std.specs.Char.{to_ascii_lowercase}
use Rattle.std.specs.Str.{bytes_eq}
use Rattle.http_messages.specs.declared.fields.Found.{Found}
use Rattle.http_messages.specs.declared.fields.Found.TheVariants as found

-- no field has a name, one has it, or several have
pub data Told : Type 0 where
  absent : Told
  once : (value : List ℕ) → Told
  often : Told

abbrev pub is_same_name : List ℕ → List ℕ → Bool
is_same_name a b = bytes_eq (map to_ascii_lowercase a) (map to_ascii_lowercase b)

-- the values of the fields of a name, in their order
abbrev pub values_of : List ℕ → List (List ℕ × List ℕ) → List (List ℕ)
values_of name [] = []
values_of name (field ∷ fields) =
    if is_same_name field.0 name then field.1 ∷ values_of name fields else values_of name fields

abbrev pub field_with : List (List ℕ) → Told
field_with [] = absent
field_with (value ∷ []) = once value
field_with (value ∷ other ∷ more) = often

-- what the fields of a name say
abbrev pub field_named : List ℕ → List (List ℕ × List ℕ) → Told
field_named name fields = field_with (values_of name fields)

-- some field has the name
abbrev pub is_told : Told → Bool
is_told absent = false
is_told (once value) = true
is_told often = true

-- one more field of the name
abbrev pub told_again : Told → List ℕ → Told
told_again absent value = once value
told_again (once other) value = often
told_again often value = often

-- what was found for a name
abbrev pub found_told : Found → Told
found_told found.Absent = absent
found_told (found.Once value) = once value.now
found_told found.Often = often
