-- What bytes mean once a head was read: that they mean one thing, and when no further bytes can change it.
use Rattle.std.proofs.Common.{◌≡◌, ℕ, ◌≤◌, ◌<◌, true, false, List, [], ◌++◌, length, map, refl, sym, ap, ◌∙◌, subst, arith, inl, inr, append-nil, length-append, rules, Option, Some, None}
use Rattle.std.proofs.lemmas.Bool.Decides.{nat_tests}
use Rattle.std.proofs.lemmas.List.{take-append-le}
use Rattle.std.proofs.lemmas.Str.{is_utf8-from_IsUtf8}
use Rattle.std.specs.Prelude.{nat_lt, if◌then◌else◌}
use Rattle.std.specs.Str.{IsUtf8, is_utf8}
use Rattle.httparse.specs.Grammar.{RequestHead}
use Rattle.httparse.specs.Spans.{name_and_value}
use Rattle.http_messages.specs.Deciding.{Asked, Decision, at_once, with_body, head_decision, decided_for, asked_with, is_cut, missing}
use Rattle.http_messages.specs.Heads.{IsHead}
use Rattle.http_messages.specs.Meaning.{Means, IsDetermined, Misses, MissesNoMore, MessagesHaveOneMeaning}
use Rattle.http_messages.specs.Routing.{Route, path_of, route_of}
use Rattle.http_messages.proofs.HeadLemmas.{head_more, head_unique}

-- a whole body stays whole, and the same
pub stays : (decision : Decision) (rest more : List ℕ) → is_cut decision rest ≡ false → asked_with decision rest ≡ asked_with decision (rest ++ more)
stays (at_once asked) rest more whole = refl
stays (with_body route bytes) rest more whole =
    let enough : bytes ≤ length rest = grind (arith, nat_tests, whole) in
    let still : nat_lt (length (rest ++ more)) bytes ≡ false = let e = length-append rest more in grind (arith, nat_tests, e, enough) in
    rw (whole, still, take-append-le bytes rest more enough) refl

pub means_head : (key bytes : List ℕ) (h : RequestHead) (rest : List ℕ) (decision : Decision) (asked : Asked) → IsHead bytes h rest
    → decision ≡ head_decision key h → asked ≡ asked_with decision rest → Means key bytes asked
means_head key bytes h rest decision asked head same e = inl (h, rest, head, e ∙ ap (λ (d : Decision). asked_with d rest) same)

pub settled_head : (key bytes : List ℕ) (h : RequestHead) (rest : List ℕ) (decision : Decision) (asked : Asked) → IsHead bytes h rest
    → decision ≡ head_decision key h → asked ≡ asked_with decision rest → is_cut decision rest ≡ false → IsDetermined key bytes asked
settled_head key bytes h rest decision asked head same e whole more =
    means_head key (bytes ++ more) h (rest ++ more) decision asked (head_more bytes h rest more head) same (e ∙ stays decision rest more whole)

-- a body with no byte missing is whole
whole_body : (decision : Decision) (rest more : List ℕ) → missing decision rest ≤ length more → is_cut decision (rest ++ more) ≡ false
whole_body (at_once asked) rest more enough = refl
whole_body (with_body route bytes) rest more enough = let e = length-append rest more in grind (arith, nat_tests, e, enough)

-- with fewer bytes than are missing it is still cut
cut_body : (decision : Decision) (rest more : List ℕ) → length more < missing decision rest → is_cut decision (rest ++ more) ≡ true
cut_body (at_once asked) rest more few = absurd (omega (arith, few))
cut_body (with_body route bytes) rest more few = let e = length-append rest more in grind (arith, nat_tests, e, few)

-- so a whole head whose body is cut awaits more until the last byte of the body has come
pub misses_body : (key bytes : List ℕ) (h : RequestHead) (rest : List ℕ) (decision : Decision) (count : ℕ) → IsHead bytes h rest
    → decision ≡ head_decision key h → count ≡ missing decision rest → Misses key bytes count
misses_body key bytes h rest decision count head same told more few =
    let cut = cut_body decision rest more (subst (λ (n : ℕ). length more < n) told few) in
    let is : is_cut (head_decision key h) (rest ++ more) ≡ true = ap (λ (d : Decision). is_cut d (rest ++ more)) (sym same) ∙ cut in
    inr (h, rest ++ more, head_more bytes h rest more head, search (rules, is))

-- with that byte it awaits no more
pub misses_no_more : (key bytes : List ℕ) (h : RequestHead) (rest : List ℕ) (decision : Decision) (count : ℕ) → IsHead bytes h rest
    → decision ≡ head_decision key h → count ≡ missing decision rest → MissesNoMore key bytes count
misses_no_more key bytes h rest decision count head same told k other more head_too enough =
    let whole = whole_body decision rest more (subst (λ (n : ℕ). n ≤ length more) told enough) in (
      asked_with decision (rest ++ more),
      settled_head key (bytes ++ more) h (rest ++ more) decision (asked_with decision (rest ++ more)) (head_more bytes h rest more head) same refl whole,
    )

-- if no byte is missing, the body is whole
pub none_missing : (decision : Decision) (rest : List ℕ) (count : ℕ) → count ≡ missing decision rest → count ≡ 0 → is_cut decision rest ≡ false
none_missing decision rest count told none =
    subst (λ (xs : List ℕ). is_cut decision xs ≡ false) (append-nil rest)
    (whole_body decision rest [] (omega (arith, told, none)))

-- bytes of UTF-8 are read as text
pub text_is : (bytes text : List ℕ) → Some text ≡ (if is_utf8 bytes then Some bytes else None) → IsUtf8 bytes → text ≡ bytes
text_is bytes text read is = let told = rw (is_utf8-from_IsUtf8 bytes is) at read in cc

pub text_is_some : (bytes : List ℕ) → ◌≡◌ {A = Option (List ℕ)} None (if is_utf8 bytes then Some bytes else None) → IsUtf8 bytes → ⊥
text_is_some bytes read is = let told = rw (is_utf8-from_IsUtf8 bytes is) at read in cc

-- what the parts of a head decide is what the head decides
pub decided_at : (key method : List ℕ) (fields : List (List ℕ × List ℕ)) (path : List ℕ) (route : Option Route) (decision : Decision) (h : RequestHead)
    → decision ≡ decided_for key method fields route → method ≡ h.method → fields ≡ map name_and_value h.fields
    → route ≡ route_of path → path ≡ path_of h.target → decision ≡ head_decision key h
decided_at key method fields path route decision h made methods told routed paths =
    made ∙ ap (λ (m : List ℕ). decided_for key m fields route) methods ∙ ap (λ (fs : List (List ℕ × List ℕ)). decided_for key h.method fs route) told
    ∙ ap (decided_for key h.method (map name_and_value h.fields)) (routed ∙ ap route_of paths)

pub one_meaning : MessagesHaveOneMeaning
one_meaning key bytes a b means and = elim means [
  | inl x ↦ elim and [
    | inl y ↦
        let same = head_unique bytes x.0 y.0 x.1 y.1 x.2 y.2 in
        x.3 ∙ ap (λ (h : RequestHead). asked_with (head_decision key h) x.1) same.0 ∙ ap (asked_with (head_decision key y.0)) same.1 ∙ sym y.3
    | inr y ↦ absurd (y.0 x.0 x.1 x.2)
  ]
  | inr x ↦ elim and [ inl y ↦ absurd (x.0 y.0 y.1 y.2) | inr y ↦ x.1 ∙ sym y.1 ]
]
