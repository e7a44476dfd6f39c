-- Texts of digits are UTF-8, and std reads them as their value if it fits.
use Rattle.std.proofs.Common.{◌≡◌, ℕ, ◌<◌, ◌^◌, true, List, Option, Some, None, Result, Ok, Err, length, arith, rules}
use Rattle.std.proofs.lemmas.Bool.Decides.{nat_tests}
use Rattle.std.proofs.lemmas.Str.{is_utf8-from_IsUtf8}
use Rattle.std.proofs.lemmas.Str.Parse.{numerals_by_value, parse_digits, IsNumeralModel}
use Rattle.std.specs.Prelude.{nat_lt, if◌then◌else◌}
use Rattle.std.specs.Char.{is_ascii_digit}
use Rattle.std.specs.List.{list_all}
use Rattle.std.specs.Result.{result_ok}
use Rattle.std.specs.Str.{is_utf8}
use Rattle.std.specs.Str.Parse.{digits_value, ParsesUnsigned}
use Rattle.texts.proofs.Words.{IsUtf8-list_all}

digit_below : (b : ℕ) → is_ascii_digit b ≡ true → b < 128
digit_below b h = grind (arith, nat_tests)

is_utf8-digits : (text : List ℕ) → list_all is_ascii_digit text ≡ true → is_utf8 text ≡ true
is_utf8-digits text digits = is_utf8-from_IsUtf8 text (IsUtf8-list_all is_ascii_digit digit_below text digits)

-- bytes that are digits are read as text
pub same_text : (field text : List ℕ) → Some text ≡ (if is_utf8 field then Some field else None) → list_all is_ascii_digit field ≡ true → text ≡ field
same_text field text h digits = let g = rw (is_utf8-digits field digits) at h in cc

pub some_text : (field : List ℕ) → ◌≡◌ {A = Option (List ℕ)} None (if is_utf8 field then Some field else None) → list_all is_ascii_digit field ≡ true → ⊥
some_text field h digits = let g = rw (is_utf8-digits field digits) at h in cc

fitting : (n v limit : ℕ) → n ≡ v → v < limit → Some n ≡ (if nat_lt v limit then Some v else None)
fitting n v limit e h = grind (arith, nat_tests)

too_large : (v limit : ℕ) → (v < limit → ⊥) → ◌≡◌ {A = Option ℕ} None (if nat_lt v limit then Some v else None)
too_large v limit h = grind (arith, nat_tests)

pub digits_model : IsNumeralModel (λ ds. list_all is_ascii_digit ds ≡ true) (digits_value 10)
digits_model = numerals_by_value (λ ds. list_all is_ascii_digit ds ≡ true) (search rules)

-- what std reads from digits, as a number of so many bits
pub digits_read : {E : Type 0} (bits : ℕ) (text : List ℕ) (r : Result ℕ E) → ParsesUnsigned bits 10 text r → 0 < length text
    → list_all is_ascii_digit text ≡ true → result_ok r ≡ (if nat_lt (digits_value 10 text) (2 ^ bits) then Some (digits_value 10 text) else None)
digits_read {E = E} bits text (Ok n) h some digits =
    let p = parse_digits digits_model {E = E} bits text (Ok n) h digits in
    fitting n (digits_value 10 text) (2 ^ bits) p.1 p.0.1
digits_read {E = E} bits text (Err e) h some digits =
    let p = parse_digits digits_model {E = E} bits text (Err e) h digits in
    too_large (digits_value 10 text) (2 ^ bits) (λ small. p (some, small))
