-- The canonical text of a request in range is read back as its value, so two requests with one text are equal.
use Rattle.std.proofs.Common.{◌≡◌, ◌≤◌, ◌<◌, ◌^◌, ◌≤ℤ◌, ℕ, suc, ℤ, pos, negsuc, List, [], ◌∷◌, map, Option, Some, None, Ok, refl, sym, ap, ◌∙◌, arith, append-nil}
use borrow.Author.Differences.{ints}
use Rattle.std.proofs.lemmas.List.Elements.{recursion_from_All}
use Rattle.std.proofs.lemmas.Str.{is_utf8-from_IsUtf8}
use Rattle.std.specs.List.{AllByRecursion}
use Rattle.std.specs.Option.{option_and_then, option_map}
use Rattle.std.specs.Prelude.{⊤, IsUtf8}
use Rattle.json.specs.Json as json
use Rattle.json.specs.Lex.{tokens}
use Rattle.json.specs.Tree as tree
use Rattle.json.proofs.Printed.Decimals.{IsNumber-decimal, IsNumber-signed_decimal}
use Rattle.json.proofs.Printed.Tokens.{tokens-print}
use Rattle.json.proofs.Printed.Trees.{ArePrintable-json_tokens, value-json_tokens}
use Rattle.serde_json.proofs.Numbers.{number_of-decimal, number_of-negative}
use Rattle.serde_json.proofs.Texts.{print-outline}
use Rattle.serde_json.specs.Data.{Data, string, number}
use Rattle.serde_json.specs.Find.{of_integer}
use Rattle.serde_json.specs.Read.{read, of_json, of_items, max_depth}
use Rattle.serde_json.specs.View.{items_of}
use Rattle.serde_json.specs.Written.{outline, items_outline, compact_text}
use Rattle.rpc_records.proofs.Again.{value_meaning-request_json}
use Rattle.rpc_records.specs.Ranges.{IsHostInfo, IsReport, IsInRange}
use Rattle.rpc_records.specs.Reading.{json_of, value_meaning, meaning}
use Rattle.texts.specs.Reading.{and_then}
use Rattle.rpc_records.specs.Spelling.{whole_json, list_json, alternatives, host_json, report_json, request_json, canonical_text}
use Rattle.rpc_records.specs.declared.request.HostInfo.{HostInfo as Host}
use Rattle.rpc_records.specs.declared.request.Report.{Report}
use Rattle.rpc_records.specs.declared.request.Request.{Request}

-- A value that is read back from its text: its numbers are written as numbers, it is not nested too deep, and it stays itself.
record IsReadable (most : ℕ) (d : Data) : Type 0 where
  numbers : tree.HasNumbers (outline d)
  nested : tree.depth (outline d) ≤ most
  same : of_json (outline d) ≡ Some d

read_again : (d : Data) → IsReadable 127 d → read (compact_text d) ≡ Some d
read_again d h =
    let ts = tree.json_tokens (outline d) in
    let lexed : tokens (compact_text d) ≡ ts = ap tokens (sym (print-outline d)) ∙ tokens-print ts (ArePrintable-json_tokens (outline d) h.numbers) in
    let parsed : json.value max_depth ts ≡ Some (outline d, []) = ap (json.value max_depth) (sym (append-nil ts)) ∙ value-json_tokens (outline d) max_depth [] h.nested in
    ap (λ us. option_and_then of_json (option_and_then (λ p. json.if_last p.0 p.1) (json.value max_depth us))) lexed
    ∙ ap (λ o. option_and_then of_json (option_and_then (λ p. json.if_last p.0 p.1) o)) parsed ∙ h.same

string_readable : (s : List ℕ) → IsReadable 0 (string s)
string_readable s = record { numbers = tt; nested = omega arith; same = refl }

whole_readable : (n : ℕ) → n < 2 ^ 64 → IsReadable 0 (whole_json n)
whole_readable n fits = record { numbers = IsNumber-decimal n fits; nested = omega arith; same = ap (option_map number) (number_of-decimal n fits) }

integer_readable : (z : ℤ) → negsuc 2147483647 ≤ℤ z → z ≤ℤ pos 2147483647 → IsReadable 0 (number (of_integer z))
integer_readable (pos n) low high = let fits : n < 2 ^ 64 = omega (arith, ints) in whole_readable n fits
integer_readable (negsuc n) low high =
    let fits : n < 2 ^ 63 = omega (arith, ints) in
    record { numbers = IsNumber-signed_decimal (negsuc n) (omega arith); nested = omega arith; same = ap (option_map number) (number_of-negative n fits) }

-- ---- lists

record AreReadable (most : ℕ) (ds : List Data) : Type 0 where
  numbers : tree.ItemsHaveNumbers (items_outline (items_of ds))
  nested : tree.items_depth (items_outline (items_of ds)) ≤ most
  same : of_items (items_outline (items_of ds)) ≡ Some (items_of ds)

items_readable : {A : Type 0} (most : ℕ) (json : A → Data) (P : A → Type 0) → ((x : A) → P x → IsReadable most (json x)) → (xs : List A) → AllByRecursion P xs → AreReadable most (map json xs)
items_readable most json P each [] h = record { numbers = tt; nested = omega arith; same = refl }
items_readable most json P each (x ∷ xs) h =
    let first = each x h.0 in
    let rest = items_readable most json P each xs h.1 in
    record { numbers = (first.numbers, rest.numbers); nested = omega (arith, first.nested, rest.nested); same = rw (first.same, rest.same) }

list_readable : {A : Type 0} (most : ℕ) (json : A → Data) (xs : List A) → AreReadable most (map json xs) → IsReadable (suc most) (list_json json xs)
list_readable most json xs h = record { numbers = h.numbers; nested = omega (arith, h.nested); same = rw h.same }

all_hold : {A : Type 0} (xs : List A) → AllByRecursion (λ _. ⊤) xs
all_hold [] = tt
all_hold (x ∷ xs) = (tt, all_hold xs)

texts_readable : (texts : List (List ℕ)) → IsReadable 1 (list_json string texts)
texts_readable texts = list_readable 0 string texts (items_readable 0 string (λ _. ⊤) (λ s _. string_readable s) texts (all_hold texts))

-- ---- objects

host_readable : (h : Host) → IsHostInfo h → IsReadable 1 (host_json h)
host_readable h range =
    let d_free = whole_readable h.d_free (omega (arith, range.d_free)) in
    let m_nbytes = whole_readable h.m_nbytes (omega (arith, range.m_nbytes)) in
    let p_fpops = whole_readable h.p_fpops (omega (arith, range.p_fpops)) in
    record { numbers = (d_free.numbers, (tt, (m_nbytes.numbers, (p_fpops.numbers, tt)))); nested = omega arith; same = rw (d_free.same, m_nbytes.same, p_fpops.same) }

report_readable : (p : Report) → IsReport p → IsReadable 1 (report_json p)
report_readable p range =
    let status = integer_readable p.exit_status range.least_status range.most_status in
    record { numbers = (status.numbers, (tt, (tt, tt))); nested = omega (arith, status.nested); same = rw status.same }

-- by cases on the list
request_readable : (r : Request) (listed : Option (List (List ℕ))) → let with_list : Request = record r { other_results = listed } in IsInRange r → IsReadable 127 (request_json with_list)
unfolding request_json
request_readable r None range =
    let alternatives = texts_readable (alternatives r) in
    let host = host_readable r.host range.host in
    let hostid = whole_readable r.hostid (omega (arith, range.hostid)) in
    let results = list_readable 1 report_json r.results (items_readable 1 report_json IsReport report_readable r.results (recursion_from_All IsReport r.results range.results)) in
    let rpc_seqno = whole_readable r.rpc_seqno (omega (arith, range.rpc_seqno)) in
    let asked = whole_readable r.asked (omega (arith, range.asked)) in
    record {
      numbers = (alternatives.numbers, (tt, (host.numbers, (hostid.numbers, (tt, (results.numbers, (rpc_seqno.numbers, (asked.numbers, tt))))))));
      nested = omega (arith, alternatives.nested, host.nested, results.nested);
      same = rw (alternatives.same, host.same, hostid.same, results.same, rpc_seqno.same, asked.same);
    }
request_readable r (Some names) range =
    let alternatives = texts_readable (alternatives r) in
    let host = host_readable r.host range.host in
    let hostid = whole_readable r.hostid (omega (arith, range.hostid)) in
    let listed = texts_readable names in
    let results = list_readable 1 report_json r.results (items_readable 1 report_json IsReport report_readable r.results (recursion_from_All IsReport r.results range.results)) in
    let rpc_seqno = whole_readable r.rpc_seqno (omega (arith, range.rpc_seqno)) in
    let asked = whole_readable r.asked (omega (arith, range.asked)) in
    record {
      numbers = (alternatives.numbers, (tt, (host.numbers, (hostid.numbers, (listed.numbers, (tt, (results.numbers, (rpc_seqno.numbers, (asked.numbers, tt)))))))));
      nested = omega (arith, alternatives.nested, host.nested, listed.nested, results.nested);
      same = rw (alternatives.same, host.same, hostid.same, listed.same, results.same, rpc_seqno.same, asked.same);
    }

-- the canonical text is read back as the value that it was written for
pub read-canonical_text : (r : Request) → IsInRange r → read (canonical_text r) ≡ Some (request_json r)
unfolding canonical_text
read-canonical_text r range = read_again (request_json r) (request_readable r r.other_results range)

-- and so as the request, if it is UTF-8
pub meaning-canonical_text : (r : Request) → IsInRange r → IsUtf8 (canonical_text r) → meaning (canonical_text r) ≡ Ok r
unfolding meaning json_of and_then
meaning-canonical_text r range utf8 =
    let is_text = is_utf8-from_IsUtf8 (canonical_text r) utf8 in
    rw (is_text, read-canonical_text r range) (value_meaning-request_json r range)

-- one text has one value, and one value one request
pub same_request : (a b : Request) → IsInRange a → IsInRange b → canonical_text a ≡ canonical_text b → a ≡ b
same_request a b in_a in_b same =
    let values : Some (request_json a) ≡ Some (request_json b) = sym (read-canonical_text a in_a) ∙ ap read same ∙ read-canonical_text b in_b in
    let value : request_json a ≡ request_json b = cc in
    let requests = sym (value_meaning-request_json a in_a) ∙ ap value_meaning value ∙ value_meaning-request_json b in_b in cc
