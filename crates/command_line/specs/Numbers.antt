-- Rule. The numbers of a command line. (This profile.)
use Rattle.std.specs.Prelude.{ℕ, Bool, false, ◌&&◌, nat_le, if◌then◌else◌, List, [], ◌∷◌, Option, Some, None}
use Rattle.std.specs.Char.{is_ascii_digit}
use Rattle.std.specs.List.{list_all}
use Rattle.std.specs.Str.Parse.{digits_value}

-- the text of a number from 1 on: a digit 1 to 9 followed by digits
abbrev pub is_number_text : List ℕ → Bool
is_number_text [] = false
is_number_text (c ∷ cs) = nat_le 49 c && list_all is_ascii_digit (c ∷ cs)

-- the number that such a text says, if it is at most this
abbrev pub number_up_to : ℕ → List ℕ → Option ℕ
number_up_to most text =
    if is_number_text text && nat_le (digits_value 10 text) most then Some (digits_value 10 text) else None

-- the last port of TCP (RFC 9293 section 3.1: 16 bits)
abbrev pub last_port : ℕ
last_port = 65535

-- the most connections that one run serves
abbrev pub most_connections : ℕ
most_connections = 1000000

-- the greatest number that a host may have
abbrev pub last_host : ℕ
last_host = 2147483647
