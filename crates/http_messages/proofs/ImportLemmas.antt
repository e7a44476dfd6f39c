-- An import that bytes ask for has a word as the name of its batch, and a text that is not too long.
use Rattle.std.proofs.Common.{◌≡◌, ℕ, zero, suc, ◌+◌, ◌≤◌, Bool, true, false, ◌&&◌, cond, List, [], ◌∷◌, length, map, take, drop, codes, Option, Some, None, Result, Ok, Err, refl, sym, subst, arith, inl, inr, IsTrue}
use Rattle.std.specs.Prelude.{nat_le, nat_lt, nat_eq, not, position}
use Rattle.std.specs.List.{starts_with}
use Rattle.std.specs.Str.{bytes_eq}
use Rattle.std.proofs.lemmas.Bool.Decides.{nat_tests}
use Rattle.httparse.specs.Spans.{name_and_value}
use Rattle.rpc_records.specs.declared.fault.Fault.{Fault}
use Rattle.rpc_records.specs.declared.fault.Fault.TheVariants.{TooLarge}
use Rattle.stores.specs.Kinds.{kind_of}
use Rattle.stores.specs.declared.kind.Kind.{Kind}
use Rattle.texts.specs.Words.{is_word}
use Rattle.http_messages.specs.Bodies.{body_length, length_from_field, length_within}
use Rattle.http_messages.specs.Deciding.{Asked, Decision, call, import, tick, statement, wrong_method, refused, decided_for, decided_length, is_operator, asked_on, asked_with, statement_of}
use Rattle.http_messages.specs.Fields.{Told, absent, once, often, field_named, is_told}
use Rattle.http_messages.specs.Meaning.{Means}
use Rattle.http_messages.specs.Numbers.{length_in, host_in}
use Rattle.http_messages.specs.RouteKinds.{method_text, method_of, needs_key}
use Rattle.http_messages.specs.Routing as routing
use Rattle.http_messages.specs.Routing.{Route, kind_of_route, path_of, is_slash, is_part, import_with, import_at, route_of}
use Rattle.http_messages.specs.declared.route_kind.RouteKind.TheVariants as at

-- an import with a word as its name, and at most 1,048,576 bytes
abbrev Fits : Asked → Type 0
Fits (import kind batch text) = IsTrue (is_word batch) × (length text ≤ 1048576)
Fits (call body) = Unit {0}
Fits tick = Unit {0}
Fits (statement host) = Unit {0}
Fits (wrong_method allowed) = Unit {0}
Fits (refused fault) = Unit {0}

-- a route with a word as the name of its batch
abbrev HasWord : Option Route → Type 0
HasWord None = Unit {0}
HasWord (Some (routing.import kind batch)) = IsTrue (is_word batch)
HasWord (Some routing.scheduler) = Unit {0}
HasWord (Some routing.tick) = Unit {0}
HasWord (Some (routing.hosts id)) = Unit {0}

either : {X : Type 0} (P : X → Type 0) (b : Bool) (x y : X) → P x → P y → P (cond b x y)
either P true x y first second = first
either P false x y first second = second

-- ---- the route

word_with : (o : Option Kind) (batch : List ℕ) → HasWord (import_with o batch)
word_with None batch = tt
word_with (Some kind) batch = cases (is_word batch) refl
  where
    cases : (b : Bool) → is_word batch ≡ b → HasWord (cond b (Some (routing.import kind batch)) None)
    cases true word = word
    cases false other = tt

word_at : (text : List ℕ) (slash : Option ℕ) → HasWord (import_at text slash)
word_at text None = tt
word_at text (Some slash) = word_with (kind_of (take slash text)) (drop (slash + 1) text)

has_word : (path : List ℕ) → HasWord (route_of path)
has_word path =
    either HasWord (bytes_eq path (codes "/scheduler")) _ _ tt
    (either HasWord (bytes_eq path (codes "/tick")) _ _ tt
    (either HasWord (starts_with nat_eq path (codes "/hosts/")) _ _ (either HasWord (is_part (drop 7 path)) _ _ tt tt)
    (either HasWord (starts_with nat_eq path (codes "/import/")) _ _ (word_at (drop 8 path) (position is_slash (drop 8 path))) tt)))

-- ---- the length

-- the length of a body is within the most
abbrev IsWithin : Result ℕ Fault → Type 0
IsWithin (Ok bytes) = bytes ≤ 1048576
IsWithin (Err fault) = Unit {0}

within : (o : Option ℕ) → IsWithin (length_within 1048576 o)
within None = tt
within (Some bytes) = cases (nat_le bytes 1048576) refl
  where
    cases : (b : Bool) → nat_le bytes 1048576 ≡ b → IsWithin (cond b (Ok bytes) (Err TooLarge))
    cases true most = grind (arith, nat_tests, most)
    cases false more = tt

told_within : (t : Told) → IsWithin (length_from_field at.Import t)
told_within absent = tt
told_within (once value) = within (length_in value)
told_within often = tt

import_within : (fields : List (List ℕ × List ℕ)) → IsWithin (body_length at.Import fields)
import_within fields = either IsWithin (is_told (field_named (codes "transfer-encoding") fields)) _ _ tt (told_within (field_named (codes "content-length") fields))

-- ---- what is asked

body_fits : (route : Route) → HasWord (Some route) → (r : Result ℕ Fault) → ((kind : Kind) (batch : List ℕ) → route ≡ routing.import kind batch → IsWithin r) → (rest : List ℕ)
    → Fits (asked_with (decided_length route r) rest)
body_fits route word (Err fault) short rest = tt
body_fits route word (Ok bytes) short rest = either Fits (nat_lt (length rest) bytes) _ _ tt (on route word short)
  where
    hosts_fit : (o : Option ℕ) → Fits (statement_of o)
    hosts_fit None = tt
    hosts_fit (Some host) = tt

    taken : (n : ℕ) (xs : List ℕ) → length (take n xs) ≤ n
    taken zero xs = omega arith
    taken (suc n) [] = omega arith
    taken (suc n) (x ∷ xs) = let few = taken n xs in omega (arith, few)

    on : (route : Route) → HasWord (Some route) → ((kind : Kind) (batch : List ℕ) → route ≡ routing.import kind batch → bytes ≤ 1048576) → Fits (asked_on route (take bytes rest))
    on routing.scheduler word short = tt
    on (routing.import kind batch) word short = let few = taken bytes rest in let most = short kind batch refl in (word, omega (arith, few, most))
    on routing.tick word short = tt
    on (routing.hosts id) word short = hosts_fit (host_in id)

length_fits : (route : Route) (fields : List (List ℕ × List ℕ)) (kind : Kind) (batch : List ℕ) → route ≡ routing.import kind batch → IsWithin (body_length (kind_of_route route) fields)
length_fits route fields kind batch is = subst (λ (r : Route). IsWithin (body_length (kind_of_route r) fields)) (sym is) (import_within fields)

route_fits : (key method : List ℕ) (fields : List (List ℕ × List ℕ)) (o : Option Route) → HasWord o → (rest : List ℕ) → Fits (asked_with (decided_for key method fields o) rest)
route_fits key method fields None word rest = tt
route_fits key method fields (Some route) word rest =
    let P : Decision → Type 0 = λ d. Fits (asked_with d rest) in
    either P (not (bytes_eq method (method_text (method_of (kind_of_route route))))) _ _ tt
    (either P (needs_key (kind_of_route route) && not (is_operator key fields)) _ _ tt
    (body_fits route word (body_length (kind_of_route route) fields) (length_fits route fields) rest))

-- What bytes ask to import has a word as its name, and is not too long.
pub import_fits : (key bytes : List ℕ) (kind : Kind) (batch text : List ℕ) → Means key bytes (import kind batch text) → IsTrue (is_word batch) × (length text ≤ 1048576)
import_fits key bytes kind batch text (inl (h, rest, head, is)) =
    subst Fits (sym is) (route_fits key h.method (map name_and_value h.fields) (route_of (path_of h.target)) (has_word (path_of h.target)) rest)
import_fits key bytes kind batch text (inr (none, is)) = absurd cc
