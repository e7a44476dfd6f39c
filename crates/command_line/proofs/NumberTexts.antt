-- The text of a number is digits, and std reads it as their value if it fits.
use Rattle.std.proofs.Common.{◌≡◌, ℕ, ◌<◌, ◌^◌, true, List, [], ◌∷◌, Option, Some, None, Err, length, arith}
use Rattle.std.proofs.lemmas.Bool.{and_parts}
use Rattle.std.specs.Prelude.{nat_lt, nat_le, if◌then◌else◌}
use Rattle.std.specs.Char.{is_ascii_digit}
use Rattle.std.specs.List.{list_all}
use Rattle.std.specs.Str.Parse.{digits_value, ParsesUnsigned}
use Rattle.command_line.specs.Numbers.{is_number_text}
use Rattle.texts.proofs.Digits.{digits_read}

-- such a text is digits, and not empty
pub are_digits : (text : List ℕ) → is_number_text text ≡ true → list_all is_ascii_digit text ≡ true
are_digits [] h = cc
are_digits (c ∷ cs) h = (and_parts (nat_le 49 c) (list_all is_ascii_digit (c ∷ cs)) h).1

is_some_text : (text : List ℕ) → is_number_text text ≡ true → 0 < length text
is_some_text [] h = cc
is_some_text (c ∷ cs) h = omega arith

-- what std does not read is too large
pub unread_value : {E : Type 0} (text : List ℕ) (e : E) → ParsesUnsigned 32 10 text (Err e) → is_number_text text ≡ true
    → ◌≡◌ {A = Option ℕ} None (if nat_lt (digits_value 10 text) (2 ^ 32) then Some (digits_value 10 text) else None)
unread_value text e h number = digits_read 32 text (Err e) h (is_some_text text number) (are_digits text number)
