-- Digits in a request's head, and the numbers that they say.
use Rattle.std.proofs.Common.{◌≡◌, ℕ, ◌<◌, ◌≤◌, ◌^◌, Bool, true, false, List, [], ◌∷◌, Result, refl, length, arith}
use Rattle.std.proofs.lemmas.Bool.{and_parts}
use Rattle.std.proofs.lemmas.Bool.Decides.{nat_tests}
use Rattle.std.proofs.lemmas.Str.Parse.{digits_value_short}
use Rattle.std.specs.Prelude.{nat_lt, nat_le}
use Rattle.std.specs.Char.{is_ascii_digit}
use Rattle.std.specs.List.{list_all}
use Rattle.std.specs.Result.{result_ok}
use Rattle.std.specs.Str.Parse.{digits_value, ParsesUnsigned}
use Rattle.texts.proofs.Digits as digits
use Rattle.http_messages.specs.Numbers.{are_digits, u64_in, length_in}

pub all_digits : (text : List ℕ) → are_digits text ≡ true → list_all is_ascii_digit text ≡ true
all_digits text h = (and_parts (nat_lt 0 (length text)) (list_all is_ascii_digit text) h).1

some_digits : (text : List ℕ) → are_digits text ≡ true → 0 < length text
some_digits [] h = cc
some_digits (c ∷ cs) h = omega arith

-- what std reads from digits
pub digits_read : {E : Type 0} (text : List ℕ) (r : Result ℕ E) → ParsesUnsigned 64 10 text r → are_digits text ≡ true → result_ok r ≡ u64_in text
digits_read text r h are = rw are (digits.digits_read 64 text r h (some_digits text are) (all_digits text are))

-- a number of so few digits always fits
pub short_number : (text : List ℕ) → length text ≤ 10 → u64_in text ≡ length_in text
short_number text short = by (are_digits text) refl
  where
    by : (v : Bool) → are_digits text ≡ v → u64_in text ≡ length_in text
    by false e = rw e refl
    by true e =
        let below = digits_value_short digits.digits_model text 10 (all_digits text e) short in
        let fits : nat_lt (digits_value 10 text) (2 ^ 64) ≡ true = grind (arith, nat_tests, below) in
        let few : nat_le (length text) 10 ≡ true = grind (arith, nat_tests) in
        rw (e, fits, few) refl
