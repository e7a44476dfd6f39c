-- The phrases of status codes are short.
use Rattle.std.proofs.Common.{ℕ, ◌≤◌, Bool, true, false, cond, List, [], length, rules}
use Rattle.std.specs.Prelude.{Option, Some, None, unwrap_or}
use Rattle.http.specs.StatusCode.{reason_phrase}
use Rattle.http_responses.specs.Responses.{phrase_of}

record IsShort (phrase : Option (List ℕ)) : Type 0 where
  within : length (unwrap_or phrase []) ≤ 40

one_or_other : (is_it : Bool) (text : List ℕ) (other : Option (List ℕ)) → length text ≤ 40 → IsShort other → IsShort (cond is_it (Some text) other)
one_or_other true text other short rest = record { within = short }
one_or_other false text other short rest = rest

none_short : IsShort None
none_short = record { within = search rules }

each_short : (status : ℕ) → IsShort (reason_phrase status)
each_short status = search (rules, one_or_other, none_short) depth 200

pub length-phrase_of : (status : ℕ) → length (phrase_of status) ≤ 40
unfolding phrase_of
length-phrase_of status = (each_short status).within
