-- Promise. Numbers in a request's head, written in decimal digits.
use Rattle.std.specs.Prelude.{ℕ, Bool, false, ◌&&◌, nat_le, nat_lt, ◌^◌, if◌then◌else◌, List, [], ◌∷◌, length, Option, Some, None}
use Rattle.std.specs.Char.{is_ascii_digit}
use Rattle.std.specs.List.{list_all}
use Rattle.std.specs.Str.Parse.{digits_value}

-- at least one byte, and each is a digit
abbrev pub are_digits : List ℕ → Bool
are_digits text = nat_lt 0 (length text) && list_all is_ascii_digit text

-- the number that digits say, if it is below 2^64
abbrev pub u64_in : List ℕ → Option ℕ
u64_in text = if are_digits text && nat_lt (digits_value 10 text) (2 ^ 64) then Some (digits_value 10 text) else None

-- the length that 1 to 10 digits say (RFC 9110, section 8.6)
abbrev pub length_in : List ℕ → Option ℕ
length_in text = if are_digits text && nat_le (length text) 10 then Some (digits_value 10 text) else None

-- the text does not begin with a zero
abbrev pub begins_above_zero : List ℕ → Bool
begins_above_zero [] = false
begins_above_zero (digit ∷ digits) = nat_lt 48 digit

-- the greatest number of a host
abbrev pub most_host : ℕ
most_host = 2147483647

-- the number of a host: digits with no zero in front, up to the greatest
abbrev pub host_in : List ℕ → Option ℕ
host_in text =
    if begins_above_zero text && are_digits text && nat_le (digits_value 10 text) most_host
    then Some (digits_value 10 text) else None
