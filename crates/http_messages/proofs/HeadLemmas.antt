-- Heads within the limits, from what `httparse` says of the bytes in which they must fit.
use Rattle.std.proofs.Common.{◌≡◌, ℕ, ◌+◌, ◌-◌, ◌<◌, ◌≤◌, List, ◌++◌, length, take, drop, sym, ap, ◌∙◌, subst, arith, length-take-le, append_assoc}
use Rattle.std.proofs.lemmas.List.{take-append-drop, take-append-le, drop-append-le, take_all, length-take, length-map}
use Rattle.std.proofs.Math.Seq.{take-append-add}
use Rattle.httparse.specs.Grammar.{RequestHead, print_request, ReadsRequest, HasNoRequest, MayBecomeRequest}
use Rattle.httparse.specs.Spans.{IsRequestWithin, IsRequestOf, RequestOverflows, name_and_value, header_bytes}
use Rattle.httparse.specs.declared.spans.HeaderSpan.{HeaderSpan}
use Rattle.httparse.specs.declared.spans.RequestSpans.{RequestSpans}
use Rattle.httparse.proofs.GrammarLemmas.{ReadsRequest-append, request_unique}
use Rattle.http_messages.specs.Heads.{head_limit, field_limit, head_room, IsHead, HasNoHead, NeverHasHead, AwaitsHead, IsHeadAt}

take_past : (xs ys : List ℕ) (n : ℕ) → length xs ≤ n → take n (xs ++ ys) ≡ xs ++ take (n - length xs) ys
take_past xs ys n fits =
    let split : n ≡ length xs + (n - length xs) = omega (arith, fits) in
    ap (λ k. take k (xs ++ ys)) split ∙ take-append-add xs ys (n - length xs)

-- a head fits in its room
pub in_room : (bytes : List ℕ) (h : RequestHead) (rest : List ℕ) → IsHead bytes h rest
    → ReadsRequest (head_room bytes) h (take (head_limit - length (print_request h)) rest)
in_room bytes h rest at =
    (at.reads.0, ap (take head_limit) at.reads.1 ∙ take_past (print_request h) rest head_limit at.is_short)

pub no_head : (bytes : List ℕ) → HasNoRequest (head_room bytes) → HasNoHead bytes
no_head bytes none h rest at = none h _ (in_room bytes h rest at)

-- if the room is full, further bytes change nothing
pub never_in_room : (bytes : List ℕ) → head_limit ≤ length bytes → HasNoRequest (head_room bytes) → NeverHasHead bytes
never_in_room bytes full none more h rest at =
    let same = take-append-le head_limit bytes more full in
    none h _ (subst (λ (front : List ℕ). ReadsRequest front h (take (head_limit - length (print_request h)) rest)) same (in_room (bytes ++ more) h rest at))

-- too many fields stay too many
pub never_with_fields : (bytes : List ℕ) → RequestOverflows field_limit (head_room bytes) → NeverHasHead bytes
never_with_fields bytes over more h rest at =
    let behind = drop head_limit bytes in
    let split : bytes ++ more ≡ head_room bytes ++ (behind ++ more) =
    ap (λ (front : List ℕ). front ++ more) (sym (take-append-drop head_limit bytes)) ∙ append_assoc (head_room bytes) behind more in
    let many = over (behind ++ more) h rest (subst (λ (front : List ℕ). ReadsRequest front h rest) split at.reads) in
    let few = at.has_room in
    absurd (omega (arith, many, few))

-- if no head was found, there is room, and one may come, then the bytes await a head
pub awaits : (bytes : List ℕ) → length bytes < head_limit → HasNoRequest (head_room bytes) → MayBecomeRequest (head_room bytes) → AwaitsHead bytes
awaits bytes room none may =
    let same : head_room bytes ≡ bytes = take_all head_limit bytes (omega (arith, room)) in
    record { none = no_head bytes none; room = room; begins = subst MayBecomeRequest same may }

pub whole : (bytes : List ℕ) (fields : List HeaderSpan) (spans : RequestSpans) → length fields ≡ field_limit
    → IsRequestWithin (head_room bytes) fields spans → IsRequestOf (head_room bytes) fields spans → IsHeadAt bytes fields spans
whole bytes fields spans room within found =
    let h = found.0 in
    let at = found.1 in
    let front = head_room bytes in
    let behind = drop head_limit bytes in
    let fits = within.section.len_fits in
    let all = take-append-drop head_limit bytes in
    let rest : drop spans.len bytes ≡ drop spans.len front ++ behind =
    ap (drop spans.len) (sym all) ∙ drop-append-le spans.len front behind fits in
    let reads = ReadsRequest-append front h (drop spans.len front) behind at.reads in
    let len = at.len in
    let count = length-take-le spans.headers fields within.section.count_fits in
    let room_len : length front ≤ head_limit = let e = length-take head_limit bytes in omega (arith, e) in
    let fits_fields = within.section.count_fits in
    let spans_len = length-map (take spans.headers fields) (header_bytes front) in
    let fields_len = length-map h.fields name_and_value in
    let same = ap length at.fields in (
      h,
      record {
        reads = subst (λ (xs : List ℕ). ReadsRequest xs h (drop spans.len bytes)) all (subst (λ (xs : List ℕ). ReadsRequest (front ++ behind) h xs) (sym rest) reads);
        is_short = omega (arith, len, fits, room_len);
        has_room = omega (arith, count, same, room, fits_fields, spans_len, fields_len);
      },
      at,
    )

-- a head stays one with any further bytes
pub head_more : (bytes : List ℕ) (h : RequestHead) (rest more : List ℕ) → IsHead bytes h rest → IsHead (bytes ++ more) h (rest ++ more)
head_more bytes h rest more at =
    record { reads = ReadsRequest-append bytes h rest more at.reads; is_short = at.is_short; has_room = at.has_room }

-- bytes begin with at most one head
pub head_unique : (bytes : List ℕ) (h k : RequestHead) (rest other : List ℕ) → IsHead bytes h rest → IsHead bytes k other → (h ≡ k) × (rest ≡ other)
head_unique bytes h k rest other at and = request_unique bytes h k rest other at.reads and.reads
