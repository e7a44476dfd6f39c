-- Bytes that are written in several writes.
use Rattle.std.proofs.Common.{◌≡◌, ℕ, ◌+◌, List, [], ◌++◌, take, drop, sym, ap, ap₂, ◌∙◌, subst, append-nil, append_assoc, take-append-drop}
use Rattle.std.proofs.KnownBytes.{Appends-trans, Appends-kept}
use Rattle.std.proofs.Math.Seq.{take-add}
use Rattle.std.specs.Io.KnownBytes.{Appends, Keeps}
use Rattle.std.specs.Prelude.{Option}
use Rattle.http_responses.specs.Answers.{answer_bytes, response_of}
use Rattle.http_responses.specs.Responses.{head_of, response_text}
use Rattle.http_responses.specs.declared.answer.Answer.{Answer}
use Rattle.http_serving.specs.Streams.{IsWritten}

-- one more write
pub Appends-more : (a b c : Option (List ℕ)) (bytes : List ℕ) (n m : ℕ)
    → Appends a b (take n bytes) → Appends b c (take m (drop n bytes)) → Appends a c (take (n + m) bytes)
Appends-more a b c bytes n m first next =
    subst (Appends a c) (sym (take-add n m bytes)) (Appends-trans a b c (take n bytes) (take m (drop n bytes)) first next)

-- a write that took nothing
pub IsWritten-front : (a b c : Option (List ℕ)) (bytes : List ℕ) (n : ℕ) → Appends a b (take n bytes) → Appends b c [] → IsWritten a c bytes
IsWritten-front a b c bytes n first none =
    (take n bytes, drop n bytes, sym (take-append-drop n bytes), subst (Appends a c) (append-nil (take n bytes)) (Appends-trans a b c (take n bytes) [] first none))

-- a write that failed
pub IsWritten-kept : (a b c : Option (List ℕ)) (bytes : List ℕ) (n : ℕ) → Appends a b (take n bytes) → Keeps b c → IsWritten a c bytes
IsWritten-kept a b c bytes n first kept =
    (take n bytes, drop n bytes, sym (take-append-drop n bytes), Appends-kept a b c (take n bytes) first kept)

-- an answer is a head and a body
pub answer-parts : (answer : Answer) (head body : List ℕ) → head ≡ head_of (response_of answer) → body ≡ (response_of answer).body
    → answer_bytes answer ≡ head ++ body
unfolding response_text
answer-parts answer head body is_head is_body = ap₂ (λ (x y : List ℕ). x ++ y) (sym is_head) (sym is_body)

-- the head was written, and a front of the body
pub IsWritten-behind : (a b c : Option (List ℕ)) (head body all : List ℕ) → all ≡ head ++ body → Appends a b head → IsWritten b c body → IsWritten a c all
IsWritten-behind a b c head body all is first next =
    (head ++ next.0, next.1, is ∙ ap (λ (t : List ℕ). head ++ t) next.2 ∙ sym (append_assoc head next.0 next.1), Appends-trans a b c head next.0 first next.3)

-- a front of the head was written
pub IsWritten-within : (a b : Option (List ℕ)) (head body all : List ℕ) → all ≡ head ++ body → IsWritten a b head → IsWritten a b all
IsWritten-within a b head body all is first =
    (first.0, first.1 ++ body, is ∙ ap (λ (t : List ℕ). t ++ body) first.2 ∙ append_assoc first.0 first.1 body, first.3)

pub ruleset answer_steps = (answer-parts)
