-- Rule. What one field of an import says, if it is of the wanted form. The forms are this profile's.
use Rattle.std.specs.Prelude.{ℕ, Bool, false, ◌&&◌, ◌||◌, nat_eq, nat_le, if◌then◌else◌, List, [], ◌∷◌, drop, codes, Option, Some, None, option_and_then, option_map}
use Rattle.std.specs.Char.{is_ascii_digit}
use Rattle.std.specs.List.{list_all, starts_with}
use Rattle.std.specs.Str.{bytes_eq, is_utf8}
use Rattle.std.specs.Str.Parse.{digits_value}
use Rattle.sched_book.specs.Limits.{most_distance, is_user_name}
use Rattle.sched_book.specs.declared.rows.Agreement.{Agreement}
use Rattle.sched_book.specs.declared.rows.Agreement.TheVariants.{Exact, Within}
use Rattle.sched_book.specs.declared.rows.ClassRule.{ClassRule}
use Rattle.sched_book.specs.declared.rows.ClassRule.TheVariants.{Any, OfFirst}

-- a volunteer's name, in UTF-8
abbrev pub name_in : List ℕ → Option (List ℕ)
name_in field = if is_user_name field && is_utf8 field then Some field else None

-- `0`, or a digit 1 to 9 followed by digits
abbrev pub is_count_text : List ℕ → Bool
is_count_text [] = false
is_count_text (c ∷ cs) = bytes_eq (c ∷ cs) (48 ∷ []) || (nat_le 49 c && list_all is_ascii_digit (c ∷ cs))

-- the number that a count text says
abbrev pub count_in : List ℕ → Option ℕ
count_in field = if is_count_text field then Some (digits_value 10 field) else None

abbrev pub within : ℕ → ℕ → ℕ → Option ℕ
within least most n = if nat_le least n && nat_le n most then Some n else None

-- the same, if it is in a range
abbrev pub count_within : ℕ → ℕ → List ℕ → Option ℕ
count_within least most field = option_and_then (within least most) (count_in field)

-- `exact`, or `within:` and a count text up to 1,000,000,000
abbrev pub agreement_in : List ℕ → Option Agreement
agreement_in field =
    if bytes_eq field (codes "exact") then Some Exact
    else (if starts_with nat_eq field (codes "within:") then option_map Within (count_within 0 most_distance (drop 7 field)) else None)

-- the mark of a workunit: `0` for one that versions of any class may do, `1` for one that keeps to the class of its first
abbrev pub rule_in : List ℕ → Option ClassRule
rule_in field = if bytes_eq field (codes "0") then Some Any else (if bytes_eq field (codes "1") then Some OfFirst else None)
