-- A text has exactly one list of records. It has no second, since what comes next is a function of what is left. It has one, since each
-- record takes some bytes.
use Rattle.std.proofs.Common.{◌≡◌, ℕ, zero, suc, ◌≤◌, Bool, true, false, cond, List, [], ◌∷◌, ◌++◌, length, Option, Some, None, sym, refl, ap, subst, ◌∙◌, arith}
use Rattle.std.specs.Prelude.{◌==◌}
use Rattle.csv.specs.Machine.{Read, next_record, step, in_field, start_field, start_record, is_end, ends_at_end, ends_with, after_end, fields_after, field_after}
use Rattle.csv.specs.Reading.{AreRecords, Reached, default_config, strip_bom}
use Rattle.csv.specs.declared.parser.Action.{Action}
use Rattle.csv.specs.declared.parser.Action.TheVariants as act
use Rattle.csv.specs.declared.parser.State.{State}
use Rattle.csv.specs.declared.parser.State.TheVariants as st
use Rattle.csv.specs.declared.parser.Terminator.TheVariants as term
use Rattle.office_files.specs.Records.{Record, AreRecordsOf}

same_read : (p q : Read) → Some p ≡ Some q → p ≡ q
same_read p q e = cc

pub one_list : (s : State) (xs : List ℕ) (a b : List Record) → AreRecords default_config s xs a → AreRecords default_config s xs b → a ≡ b
unfolding Reached
one_list s xs [] [] h k = refl
one_list s xs [] (q ∷ qs) h k =
    let e = h.3 in let start = h.2.0 in let rest = h.2.1 in let some = k.2.1 in
    let none : next_record default_config s [] [] xs ≡ None = rw (start, rest) e in
    cc
one_list s xs (r ∷ rs) [] h k =
    let e = k.3 in let start = k.2.0 in let rest = k.2.1 in let some = h.2.1 in
    let none : next_record default_config s [] [] xs ≡ None = rw (start, rest) e in
    cc
one_list s xs (r ∷ rs) (q ∷ qs) h k =
    let same : h.2.0 ≡ k.2.0 = same_read h.2.0 k.2.0 (sym h.2.1 ∙ k.2.1) in
    let more = rw same at h.2.3 in
    let first : r ≡ q = h.2.2 ∙ ap (λ (p : Read). p.0) same ∙ sym k.2.2 in
    let rest : rs ≡ qs = one_list k.2.0.1 k.2.0.2 rs qs (h.0, h.1, more, h.3) (k.0, k.1, k.2.3, k.3) in
    cc

-- if an action ends a record, the text may end in the state that it leaves
abbrev IsSettled : State × Action → Type 0
IsSettled p = is_end p.1 ≡ true → ends_at_end p.0 ≡ false

either : (b : Bool) (p q : State × Action) → IsSettled p → IsSettled q → IsSettled (cond b p q)
either true p q h k = h
either false p q h k = k

after_settled : (b : Bool) → ends_at_end (cond b st.AfterCr st.StartRecord) ≡ false
after_settled true = refl
after_settled false = refl

field_settled : (c : ℕ) → IsSettled (in_field default_config c)
field_settled c =
    either (c == 44) (st.StartField, act.EndField) _ (λ e. cc)
    (either (ends_with term.CRLF c) (after_end term.CRLF c, act.EndRecord) (st.InField, act.Copy) (λ e. after_settled (c == 13)) (λ e. cc))

start_settled : (c : ℕ) → IsSettled (start_field default_config c)
start_settled c = either (c == 34) (st.InQuoted, act.Skip) (in_field default_config c) (λ e. cc) (field_settled c)

record_settled : (c : ℕ) → IsSettled (start_record default_config c)
record_settled c = either (ends_with term.CRLF c) (st.StartRecord, act.Skip) (start_field default_config c) (λ e. cc) (start_settled c)

settled : (s : State) (c : ℕ) → IsSettled (step default_config s c)
settled st.StartRecord c = record_settled c
settled st.StartField c = start_settled c
settled st.InField c = field_settled c
settled st.InQuoted c = either (c == 34) (st.AfterQuote, act.Skip) (st.InQuoted, act.Copy) (λ e. cc) (λ e. cc)
settled st.InEscape c = λ e. cc
settled st.AfterQuote c = either (c == 34) (st.InQuoted, act.Copy) (in_field default_config c) (λ e. cc) (field_settled c)
settled st.InComment c = either (c == 10) (st.StartRecord, act.Skip) (st.InComment, act.Skip) (λ e. cc) (λ e. cc)
settled st.AfterCr c = either (c == 10) (st.StartRecord, act.Skip) (start_record default_config c) (λ e. cc) (record_settled c)

-- what is left after a record was read: the text may end there, and there are no more bytes than before
abbrev Leaves : ℕ → Read → Type 0
Leaves size p = (ends_at_end p.1 ≡ false) × (length p.2 ≤ size)

at_end : (b : Bool) (fields : Record) (p : Read) → cond b (Some (fields, st.StartRecord, [])) None ≡ Some p → Leaves 0 p
at_end true fields p e =
    let same : (fields, st.StartRecord, []) ≡ p = same_read (fields, st.StartRecord, []) p e in
    subst (Leaves 0) same (refl, omega arith)
at_end false fields p e = cc

at_byte : (b : Bool) (now : Read) (size : ℕ) (later : Option Read) (p : Read) → cond b (Some now) later ≡ Some p
    → (b ≡ true → Leaves size now) → (later ≡ Some p → Leaves size p) → Leaves size p
at_byte true now size later p e h k = subst (Leaves size) (same_read now p e) (h refl)
at_byte false now size later p e h k = k e

leaves : (s : State) (fields : Record) (field xs : List ℕ) (p : Read) → next_record default_config s fields field xs ≡ Some p → Leaves (length xs) p
unfolding next_record
leaves s fields field [] p e = at_end (ends_at_end s) (fields ++ (field ∷ [])) p e
leaves s fields field (c ∷ rest) p e =
    let next = step default_config s c in
    let less =
    at_byte (is_end next.1) (fields_after next.1 fields field, next.0, rest) (length rest) (next_record default_config next.0 (fields_after next.1 fields field) (field_after next.1 c field) rest) p e
    (λ is. (settled s c is, omega arith))
    (λ is. leaves next.0 (fields_after next.1 fields field) (field_after next.1 c field) rest p is) in
    (less.0, omega arith)

-- a record that begins with a byte takes it
takes : (s : State) (c : ℕ) (rest : List ℕ) (p : Read) → next_record default_config s [] [] (c ∷ rest) ≡ Some p → Leaves (length rest) p
unfolding next_record
takes s c rest p e =
    let next = step default_config s c in
    at_byte (is_end next.1) (fields_after next.1 [] [], next.0, rest) (length rest) (next_record default_config next.0 (fields_after next.1 [] []) (field_after next.1 c []) rest) p e
    (λ is. (settled s c is, omega arith))
    (λ is. leaves next.0 (fields_after next.1 [] []) (field_after next.1 c []) rest p is)

go_on : (s : State) (xs : List ℕ) (o : Option Read) → next_record default_config s [] [] xs ≡ o
    → ((p : Read) → next_record default_config s [] [] xs ≡ Some p → (records : List Record) × AreRecords default_config p.1 p.2 records)
    → (records : List Record) × AreRecords default_config s xs records
unfolding Reached
go_on s xs None e more = ([], (s, xs, (refl, refl), e))
go_on s xs (Some p) e more = let m = more p e in (p.0 ∷ m.0, (m.1.0, m.1.1, (p, e, refl, m.1.2), m.1.3))

no_bytes : (s : State) → ends_at_end s ≡ false → (records : List Record) × AreRecords default_config s [] records
unfolding Reached next_record
no_bytes s e = ([], (s, [], (refl, refl), rw e refl))

some_list : (n : ℕ) (s : State) (xs : List ℕ) → ends_at_end s ≡ false → length xs ≤ n → (records : List Record) × AreRecords default_config s xs records
some_list n s [] e few = no_bytes s e
some_list zero s (c ∷ rest) e few = absurd (omega arith)
some_list (suc n) s (c ∷ rest) e few =
    go_on s (c ∷ rest) (next_record default_config s [] [] (c ∷ rest)) refl
    (λ p is. let left = takes s c rest p is in some_list n p.1 p.2 left.0 (omega arith))

pub text_has_one_list : (text : List ℕ) → (records : List Record) × AreRecordsOf text records × ((others : List Record) → AreRecordsOf text others → others ≡ records)
text_has_one_list text =
    let some = some_list (length (strip_bom text)) st.StartRecord (strip_bom text) refl (omega arith) in
    (some.0, some.1, λ others are. one_list st.StartRecord (strip_bom text) others some.0 are some.1)
