-- Rule. Heads of requests: HTTP/1.0 and HTTP/1.1 as `httparse` reads them (RFC 9112, sections 2 to 5), within this profile's limits.
use Rattle.std.specs.Prelude.{ℕ, ◌<◌, ◌≤◌, List, ◌++◌, length, take, drop}
use Rattle.httparse.specs.Grammar.{RequestHead, print_request, ReadsRequest, MayBecomeRequest}
use Rattle.httparse.specs.Spans.{IsRequestWithin, IsRequestAt}
use Rattle.httparse.specs.declared.spans.HeaderSpan.{HeaderSpan}
use Rattle.httparse.specs.declared.spans.RequestSpans.{RequestSpans}
use Rattle.http_messages.specs.declared.heads.HeadRead.{HeadRead}
use Rattle.http_messages.specs.declared.heads.HeadRead.TheVariants.{Whole, Partial, Refused}

-- the most bytes of a head, with the empty lines before it
abbrev pub head_limit : ℕ
head_limit = 8192

-- the maximum number of fields of a head
abbrev pub field_limit : ℕ
field_limit = 64

-- the bytes in which a head must fit
abbrev pub head_room : List ℕ → List ℕ
head_room bytes = take head_limit bytes

-- the bytes begin with a head within the limits, and this is the rest
pub record IsHead (bytes : List ℕ) (h : RequestHead) (rest : List ℕ) : Type 0 where
  pub reads : ReadsRequest bytes h rest
  pub is_short : length (print_request h) ≤ head_limit
  pub has_room : length h.fields ≤ field_limit

-- the bytes begin with no head
abbrev pub HasNoHead : List ℕ → Type 0
HasNoHead bytes = (h : RequestHead) (rest : List ℕ) → ¬ (IsHead bytes h rest)

-- the bytes begin with no head, and no further bytes can change that
abbrev pub NeverHasHead : List ℕ → Type 0
NeverHasHead bytes = (more : List ℕ) → HasNoHead (bytes ++ more)

-- the bytes begin with no head yet, are fewer than a head may have, and are the beginning of some request
pub record AwaitsHead (bytes : List ℕ) : Type 0 where
  pub none : HasNoHead bytes
  pub room : length bytes < head_limit
  pub begins : MayBecomeRequest bytes

-- the spans in the room for a head are those of a head
abbrev pub IsHeadAt : List ℕ → List HeaderSpan → RequestSpans → Type 0
IsHeadAt bytes fields spans =
    (h : RequestHead) × IsHead bytes h (drop spans.len bytes) × IsRequestAt (head_room bytes) fields spans h

-- what was read of a head
abbrev pub HeadReadSays : List ℕ → List HeaderSpan → HeadRead → Type 0
HeadReadSays bytes fields (Whole spans) = IsRequestWithin (head_room bytes) fields spans × IsHeadAt bytes fields spans
HeadReadSays bytes fields Partial = AwaitsHead bytes
HeadReadSays bytes fields Refused = NeverHasHead bytes
