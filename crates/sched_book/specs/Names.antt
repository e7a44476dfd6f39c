-- Rule. The names of instances, as BOINC makes them: the workunit's name, an underscore and the instance's number.
use Rattle.std.specs.Prelude.{ℕ, ◌-◌, ◌&&◌, ◌==◌, nat_le, if◌then◌else◌, List, [], ◌∷◌, ◌++◌, Option, Some, None, option_map, decimal}
use Rattle.std.specs.Char.{is_ascii_digit}
use Rattle.std.specs.List.{before_last, after_last, list_any}
use Rattle.sched_book.specs.WholeNumbers.{decimal_value}

abbrev pub instance_name : List ℕ → ℕ → List ℕ
instance_name unit number = unit ++ 95 ∷ decimal number

-- a number from 0 to 99, with no leading zero
abbrev pub small_number : List ℕ → Option ℕ
small_number [] = None
small_number (c ∷ []) = if is_ascii_digit c then Some (c - 48) else None
small_number (c ∷ d ∷ []) =
    if nat_le 49 c && is_ascii_digit c && is_ascii_digit d then Some (decimal_value (c ∷ d ∷ [])) else None
small_number (c ∷ d ∷ e ∷ more) = None

-- the parts of a name, split at its last underscore
abbrev pub name_parts : List ℕ → Option (List ℕ × ℕ)
name_parts name =
    if list_any (λ c. c == 95) name
    then option_map (λ number. (before_last (λ c. c == 95) name, number)) (small_number (after_last (λ c. c == 95) name))
    else None
