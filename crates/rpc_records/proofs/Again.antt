-- The value of a request in range is read back as that request.
use Rattle.std.proofs.Common.{◌≡◌, ◌≤◌, ◌<◌, ◌^◌, ◌≤ℤ◌, ℕ, suc, ℤ, pos, negsuc, List, [], ◌∷◌, length, map, drop, Bool, true, false, Option, Some, None, Result, Ok, IfSome, refl, ap, ◌∙◌, arith}
use borrow.Author.Differences.{ints}
use Rattle.std.proofs.lemmas.Bool.{le-leb, lt-ltb}
use Rattle.std.proofs.lemmas.List.Elements.{recursion_from_All}
use Rattle.std.specs.List.{AllByRecursion}
use Rattle.std.specs.Option.{ok_or, option_and_then, option_map}
use Rattle.std.specs.Prelude.{T, slice_index_or}
use Rattle.serde_json.specs.Data.{Data, string}
use Rattle.serde_json.specs.Events.{items_len}
use Rattle.serde_json.specs.Find.{get, as_i64, of_integer}
use Rattle.serde_json.specs.View.{items_of}
use Rattle.rpc_records.specs.Members.{member_name, is_of}
use Rattle.rpc_records.specs.Ranges.{IsName, IsHostInfo, IsReport, AreListed, IsInRange}
use Rattle.rpc_records.specs.Reading.{needed, defaulted, host_info_at, platforms_at, request_at, value_meaning}
use Rattle.texts.specs.Reading.{and_then}
use Rattle.texts.specs.Words.{IsWord}
use Rattle.rpc_records.specs.Spelling.{whole_json, list_json, own_platform, alternatives, host_json, report_json, request_json}
use Rattle.rpc_records.specs.Values.{text_in, whole_in, all_in, list_in, report_in, read_or}
use Rattle.rpc_records.specs.declared.fault.Fault.{Fault}
use Rattle.rpc_records.specs.declared.fault.Fault.TheVariants.{BadMember}
use Rattle.rpc_records.specs.declared.fault.Member.{Member}
use Rattle.rpc_records.specs.declared.fault.Member.TheVariants.{Authenticator, Hostid, RpcSeqno, HostInfo, HostCpid, PFpops, MNbytes, DFree, PlatformName, AltPlatforms, WorkReqSeconds, OtherResults, Results}
use Rattle.rpc_records.specs.declared.request.HostInfo.{HostInfo as Host}
use Rattle.rpc_records.specs.declared.request.Report.{Report}
use Rattle.rpc_records.specs.declared.request.Request.{Request}
use Rattle.rpc_records.specs.declared.text_kind.TextKind.{TextKind}
use Rattle.rpc_records.specs.declared.text_kind.TextKind.TheVariants.{Word, Name}

-- ---- one value

text_again : (kind : TextKind) (text : List ℕ) → is_of kind text ≡ true → text_in kind (string text) ≡ Some text
text_again kind text h = rw h

whole_again : (least most n : ℕ) → least ≤ n → n ≤ most → whole_in least most (whole_json n) ≡ Some n
whole_again least most n low high = rw (le-leb least n low, le-leb n most high)

as_i64_again : (z : ℤ) → z ≤ℤ pos 2147483647 → as_i64 (of_integer z) ≡ Some z
as_i64_again (pos n) high = let below : n < 2 ^ 63 = omega (arith, ints) in rw (lt-ltb n (2 ^ 63) below)
as_i64_again (negsuc n) high = refl

test_of : (b : Bool) → T b → b ≡ true
test_of true t = refl
test_of false t = absurd t

-- ---- lists

all_again : {A : Type 0} (reads : Data → Option A) (json : A → Data) (P : A → Type 0) → ((x : A) → P x → reads (json x) ≡ Some x)
    → (xs : List A) → AllByRecursion P xs → all_in reads (items_of (map json xs)) ≡ Some xs
all_again reads json P each [] h = refl
all_again reads json P each (x ∷ xs) h = rw (each x h.0, all_again reads json P each xs h.1)

items_len-items_of : {A : Type 0} (json : A → Data) (xs : List A) → items_len (items_of (map json xs)) ≡ length xs
items_len-items_of json [] = refl
items_len-items_of json (x ∷ xs) = ap suc (items_len-items_of json xs)

list_again : {A : Type 0} (most : ℕ) (reads : Data → Option A) (json : A → Data) (P : A → Type 0) → ((x : A) → P x → reads (json x) ≡ Some x)
    → (xs : List A) → length xs ≤ most → AllByRecursion P xs → list_in most reads (list_json json xs) ≡ Some xs
list_again most reads json P each xs short h = rw (items_len-items_of json xs, le-leb (length xs) most short) (all_again reads json P each xs h)

report_again : (p : Report) → IsReport p → report_in (report_json p) ≡ Some p
unfolding report_in
report_again p h = rw (h.name, as_i64_again p.exit_status h.most_status, test_of _ h.least_status.le, test_of _ h.most_status.le, h.output)

-- ---- members

needed_again : {A B : Type 0} (m : Member) (reads : Data → Option A) (d e : Data) (x : A) (f : A → Result B Fault) (y : Result B Fault)
    → get (member_name m) d ≡ Some e → reads e ≡ Some x → f x ≡ y → and_then (needed m reads d) f ≡ y
unfolding and_then needed
needed_again m reads d e x f y found again next =
    ap (λ o. and_then (ok_or (option_and_then reads o) (BadMember m)) f) found ∙ ap (λ o. and_then (ok_or o (BadMember m)) f) again ∙ next

defaulted_again : {A B : Type 0} (m : Member) (default : A) (reads : Data → Option A) (d : Data) (o : Option Data) (x : A) (f : A → Result B Fault) (y : Result B Fault)
    → get (member_name m) d ≡ o → read_or default reads o ≡ Some x → f x ≡ y → and_then (defaulted m default reads d) f ≡ y
unfolding and_then defaulted
defaulted_again m default reads d o x f y found again next =
    ap (λ o. and_then (ok_or (read_or default reads o) (BadMember m)) f) found ∙ ap (λ o. and_then (ok_or o (BadMember m)) f) again ∙ next

part_again : {A B : Type 0} (r : Result A Fault) (x : A) (f : A → Result B Fault) (y : Result B Fault) → r ≡ Ok x → f x ≡ y → and_then r f ≡ y
unfolding and_then
part_again r x f y part next = ap (λ p. and_then p f) part ∙ next

-- The members of a value say the request.
record Says (d : Data) (r : Request) : Type 0 where
  alt_platforms : get (member_name AltPlatforms) d ≡ Some (list_json string (alternatives r))
  authenticator : get (member_name Authenticator) d ≡ Some (string r.authenticator)
  host_info : get (member_name HostInfo) d ≡ Some (host_json r.host)
  hostid : get (member_name Hostid) d ≡ Some (whole_json r.hostid)
  other_results : get (member_name OtherResults) d ≡ option_map (list_json string) r.other_results
  platform_name : get (member_name PlatformName) d ≡ Some (string (own_platform r))
  results : get (member_name Results) d ≡ Some (list_json report_json r.results)
  rpc_seqno : get (member_name RpcSeqno) d ≡ Some (whole_json r.rpc_seqno)
  work_req_seconds : get (member_name WorkReqSeconds) d ≡ Some (whole_json r.asked)

host_again : (d : Data) (h : Host) → get (member_name HostInfo) d ≡ Some (host_json h) → IsHostInfo h → host_info_at d ≡ Ok h
unfolding host_info_at
host_again d h found range =
    needed_again HostInfo _ d (host_json h) (host_json h) _ _ found refl
    (needed_again HostCpid _ (host_json h) (string h.host_cpid) h.host_cpid _ _ refl (text_again Word h.host_cpid range.host_cpid)
    (needed_again PFpops _ (host_json h) (whole_json h.p_fpops) h.p_fpops _ _ refl (whole_again _ _ h.p_fpops range.some_fpops range.p_fpops)
    (needed_again MNbytes _ (host_json h) (whole_json h.m_nbytes) h.m_nbytes _ _ refl (whole_again _ _ h.m_nbytes (omega arith) range.m_nbytes)
    (needed_again DFree _ (host_json h) (whole_json h.d_free) h.d_free _ _ refl (whole_again _ _ h.d_free (omega arith) range.d_free) refl))))

-- the first platform and those after it are all
platforms_are : (platforms : List (List ℕ)) → 0 < length platforms → slice_index_or platforms 0 [] ∷ drop 1 platforms ≡ platforms
platforms_are [] some = absurd (omega arith)
platforms_are (own ∷ others) some = refl

own_word : (platforms : List (List ℕ)) → 0 < length platforms → AllByRecursion IsWord platforms → IsWord (slice_index_or platforms 0 [])
own_word [] some words = absurd (omega arith)
own_word (own ∷ others) some words = words.0

other_words : (platforms : List (List ℕ)) → length platforms ≤ 8 → AllByRecursion IsWord platforms → (length (drop 1 platforms) ≤ 7) × AllByRecursion IsWord (drop 1 platforms)
other_words [] few words = (omega arith, tt)
other_words (own ∷ others) few words = (omega arith, words.1)

platforms_again : (d : Data) (r : Request) → Says d r → IsInRange r → platforms_at d ≡ Ok r.platforms
unfolding platforms_at
platforms_again d r says range =
    let words = recursion_from_All IsWord r.platforms range.platforms in
    let others = other_words r.platforms range.platform_count words in
    needed_again PlatformName _ d _ (own_platform r) _ _ says.platform_name (text_again Word _ (own_word r.platforms range.some_platform words))
    (defaulted_again AltPlatforms _ _ d _ (alternatives r) _ _ says.alt_platforms
    (list_again 7 (text_in Word) string IsWord (text_again Word) (alternatives r) others.0 others.1)
    (ap (λ platforms. Ok platforms) (platforms_are r.platforms range.some_platform)))

other_results_again : (listed : Option (List (List ℕ))) → IfSome listed AreListed
    → read_or None (λ e. option_map Some (list_in 1024 (text_in Name) e)) (option_map (list_json string) listed) ≡ Some listed
other_results_again None range = refl
other_results_again (Some names) range =
    ap (option_map Some) (list_again 1024 (text_in Name) string IsName (text_again Name) names range.count (recursion_from_All IsName names range.each))

request_again : (d : Data) (r : Request) → Says d r → IsInRange r → request_at d ≡ Ok r
unfolding request_at
request_again d r says range =
    needed_again Authenticator _ d _ r.authenticator _ _ says.authenticator (text_again Word _ range.authenticator)
    (defaulted_again Hostid _ _ d _ r.hostid _ _ says.hostid (whole_again _ _ r.hostid (omega arith) range.hostid)
    (needed_again RpcSeqno _ d _ r.rpc_seqno _ _ says.rpc_seqno (whole_again _ _ r.rpc_seqno (omega arith) range.rpc_seqno)
    (part_again _ r.host _ _ (host_again d r.host says.host_info range.host)
    (part_again _ r.platforms _ _ (platforms_again d r says range)
    (defaulted_again WorkReqSeconds _ _ d _ r.asked _ _ says.work_req_seconds (whole_again _ _ r.asked (omega arith) range.asked)
    (defaulted_again OtherResults _ _ d _ r.other_results _ _ says.other_results (other_results_again r.other_results range.other_results)
    (defaulted_again Results _ _ d _ r.results _ _ says.results
    (list_again 256 report_in report_json IsReport report_again r.results range.result_count (recursion_from_All IsReport r.results range.results)) refl)))))))

-- by cases on the list, since with it the names after it are at other places
says-request_json : (r : Request) (listed : Option (List (List ℕ))) → let with_list : Request = record r { other_results = listed } in Says (request_json with_list) with_list
unfolding request_json
says-request_json r None = record {
  alt_platforms = refl;
  authenticator = refl;
  host_info = refl;
  hostid = refl;
  other_results = refl;
  platform_name = refl;
  results = refl;
  rpc_seqno = refl;
  work_req_seconds = refl;
}
says-request_json r (Some names) = record {
  alt_platforms = refl;
  authenticator = refl;
  host_info = refl;
  hostid = refl;
  other_results = refl;
  platform_name = refl;
  results = refl;
  rpc_seqno = refl;
  work_req_seconds = refl;
}

pub value_meaning-request_json : (r : Request) → IsInRange r → value_meaning (request_json r) ≡ Ok r
unfolding value_meaning request_json
value_meaning-request_json r range = request_again (request_json r) r (says-request_json r r.other_results) range
