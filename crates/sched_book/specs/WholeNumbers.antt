-- Rule. Texts of whole numbers, by which an application may compare its outputs. The form is this profile's.
use Rattle.std.specs.Prelude.{ℕ, ◌+◌, ◌*◌, ◌-◌, Bool, false, ◌&&◌, ◌==◌, nat_le, if◌then◌else◌, List, [], ◌∷◌, length, fold, Option, Some, None, option_map, ℤ, pos, neg_ℤ, ◌-ℤ◌, nat_abs}
use Rattle.std.specs.Char.{is_ascii_digit}
use Rattle.std.specs.Str.{bytes_eq}
use Rattle.std.specs.List.{list_all}

-- the number that digits denote
abbrev pub decimal_value : List ℕ → ℕ
decimal_value digits = fold (λ n c. 10 * n + (c - 48)) 0 digits

-- a digit from 1 to 9 and at most 17 more
abbrev pub magnitude : List ℕ → Option ℕ
magnitude [] = None
magnitude (c ∷ cs) =
    if nat_le 49 c && is_ascii_digit c && nat_le (length cs) 17 && list_all is_ascii_digit cs
    then Some (decimal_value (c ∷ cs))
    else None

-- a whole number: `0`, or a magnitude with or without a minus sign
abbrev pub whole_number : List ℕ → Option ℤ
whole_number [] = None
whole_number (c ∷ cs) =
    if bytes_eq (c ∷ cs) (48 ∷ []) then Some (pos 0)
    else (if c == 45 then option_map (λ n. neg_ℤ (pos n)) (magnitude cs)
    else option_map pos (magnitude (c ∷ cs)))

-- both are whole numbers, and at most n apart
abbrev pub are_within : ℕ → Option ℤ → Option ℤ → Bool
are_within n (Some x) (Some y) = nat_le (nat_abs (x -ℤ y)) n
are_within n (Some x) None = false
are_within n None y = false
