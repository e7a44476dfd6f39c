-- What a reading returns is within the ranges.
use Rattle.std.proofs.Common.{◌≡◌, ◌≤◌, ◌<◌, ◌^◌, ◌≤ℤ◌, ℕ, ℤ, pos, negsuc, List, [], ◌∷◌, length, Bool, true, false, ◌&&◌, Option, Some, None, Result, Ok, Err, IfOk, IfSome, suc, cond, codes, refl, sym, ap, ◌∙◌, subst, arith}
use Rattle.std.proofs.lemmas.Bool.{and_parts, leb-true}
use Rattle.std.proofs.lemmas.List.Elements.{All-from_recursion}
use Rattle.std.specs.Bool.{⊤, then_some, passes}
use Rattle.std.specs.Int.Signed.{le_z_yes}
use Rattle.std.specs.List.{AllByRecursion}
use Rattle.std.specs.Option.{ok_or, option_and_then, option_map, is_some}
use Rattle.std.specs.Prelude.{nat_le, int_le}
use Rattle.serde_json.specs.Data.{Data, Items, no_items, item}
use Rattle.serde_json.specs.Events.{items_len}
use Rattle.serde_json.specs.Find.{get, as_str, as_number, as_u64, as_i64, as_array, as_object}
use Rattle.rpc_records.specs.Members.{is_of, member_name}
use Rattle.rpc_records.specs.Ranges.{IsName, IsHostInfo, IsReport, AreListed, IsInRange}
use Rattle.rpc_records.specs.Reading.{needed, defaulted, host_info_at, platforms_at, request_at, json_of, value_meaning, meaning}
use Rattle.texts.specs.Reading.{GivesUnless, and_then}
use Rattle.texts.specs.Words.{IsWord}
use Rattle.rpc_records.specs.Values.{text_in, whole_in, status_in, items_in, all_in, list_in, report_in, read_or}
use Rattle.rpc_records.specs.declared.fault.Fault.{Fault}
use Rattle.rpc_records.specs.declared.fault.Fault.TheVariants.{BadMember, BadJson, Unavailable}
use Rattle.rpc_records.specs.declared.fault.Member.{Member}
use Rattle.rpc_records.specs.declared.request.Report.{Report}
use Rattle.rpc_records.specs.declared.request.Request.{Request}
use Rattle.rpc_records.specs.declared.text_kind.TextKind.{TextKind}
use Rattle.rpc_records.specs.declared.text_kind.TextKind.TheVariants.{Word, Name, Output}

-- ---- one value

-- if a chain of options gives something, so did each link
link : {A B P : Type 0} (o : Option A) (f : A → Option B) (y : B) → option_and_then f o ≡ Some y → ((x : A) → o ≡ Some x → f x ≡ Some y → P) → P
link None f y e next = absurd (cc)
link (Some x) f y e next = next x refl e

tested : {A : Type 0} (b : Bool) (x y : A) → then_some b x ≡ Some y → (b ≡ true) × (x ≡ y)
tested true x y e = (refl, cc)
tested false x y e = absurd (cc)

text_fact : (kind : TextKind) (d : Data) (text : List ℕ) → text_in kind d ≡ Some text → is_of kind text ≡ true
text_fact kind d text e = link (as_str d) _ text e (λ s _ kept. let t = tested (is_of kind s) s text kept in ap (is_of kind) (sym t.1) ∙ t.0)

whole_fact : (least most : ℕ) (d : Data) (n : ℕ) → whole_in least most d ≡ Some n → (least ≤ n) × (n ≤ most)
whole_fact least most d n e =
    link (as_number d) _ n e (λ number _ read. link (as_u64 number) _ n read (λ m _ kept.
    let t = tested (nat_le least m && nat_le m most) m n kept in
    let parts = and_parts (nat_le least m) _ t.0 in
    let low = leb-true least m parts.0 in let high = leb-true m most parts.1 in (omega arith, omega arith)))

inner : {A : Type 0} (o : Option A) (x : A) → option_map Some o ≡ Some (Some x) → o ≡ Some x
inner None x e = absurd (cc)
inner (Some y) x e = cc

-- ---- lists

all_fact : {A : Type 0} (P : A → Type 0) (reads : Data → Option A) → ((d : Data) (x : A) → reads d ≡ Some x → P x)
    → (items : Items) (xs : List A) → all_in reads items ≡ Some xs → (length xs ≡ items_len items) × AllByRecursion P xs
all_fact P reads each no_items [] e = (refl, tt)
all_fact P reads each no_items (x ∷ xs) e = absurd (cc)
all_fact P reads each (item d items) xs e =
    link (reads d) _ xs e (λ y first more. link (all_in reads items) _ xs more (λ ys rest whole.
    let tail = all_fact P reads each items ys rest in
    let T : List _ → Type 0 = λ zs. (length zs ≡ items_len (item d items)) × AllByRecursion P zs in
    let is : y ∷ ys ≡ xs = cc in
    subst T is (ap suc tail.0, (each d y first, tail.1))))

list_fact : {A : Type 0} (P : A → Type 0) (most : ℕ) (reads : Data → Option A) → ((d : Data) (x : A) → reads d ≡ Some x → P x)
    → (d : Data) (xs : List A) → list_in most reads d ≡ Some xs → (length xs ≤ most) × AllByRecursion P xs
list_fact P most reads each d xs e =
    link (items_in most d) _ xs e (λ items found all. let a = all_fact P reads each items xs all in (
      link (as_array d) _ items found (λ those _ kept.
          let t = tested (nat_le (items_len those) most) those items kept in
          let short = leb-true (items_len those) most t.0 in let same = ap items_len t.1 in omega arith),
      a.1,
    ))

-- ---- members

known : {A : Type 0} (P : A → Type 0) (e : Fault) (o : Option A) → ((x : A) → o ≡ Some x → P x) → IfOk (ok_or o e) P
known P e None each = tt
known P e (Some x) each = each x refl

-- a fact of what is read is a fact of what a member gives
needed_fact : {A : Type 0} (P : A → Type 0) (m : Member) (reads : Data → Option A) (d : Data) → ((e : Data) (x : A) → reads e ≡ Some x → P x) → IfOk (needed m reads d) P
unfolding needed
needed_fact P m reads d each = known P (BadMember m) _ (λ x is. link (get (member_name m) d) reads x is (λ e _ read. each e x read))

read_or_fact : {A : Type 0} (P : A → Type 0) (default : A) (reads : Data → Option A) (o : Option Data) (x : A) → P default → ((e : Data) (x : A) → reads e ≡ Some x → P x) → read_or default reads o ≡ Some x → P x
read_or_fact P default reads None x absent each is = let same : default ≡ x = cc in subst P same absent
read_or_fact P default reads (Some e) x absent each is = each e x is

defaulted_fact : {A : Type 0} (P : A → Type 0) (m : Member) (default : A) (reads : Data → Option A) (d : Data) → P default → ((e : Data) (x : A) → reads e ≡ Some x → P x)
    → IfOk (defaulted m default reads d) P
unfolding defaulted
defaulted_fact P m default reads d absent each = known P (BadMember m) _ (λ x is. read_or_fact P default reads (get (member_name m) d) x absent each is)

-- a reading continues with what is known from the step before
goes_on : {A B : Type 0} (Q : A → Type 0) (P : B → Type 0) (r : Result A Fault) (f : A → Result B Fault) → IfOk r Q → ((x : A) → Q x → IfOk (f x) P) → IfOk (and_then r f) P
unfolding and_then
goes_on Q P (Ok x) f h next = next x h
goes_on Q P (Err e) f h next = tt

-- ---- the parts of a request

word_needed : (m : Member) (d : Data) → IfOk (needed m (text_in Word) d) IsWord
word_needed m d = needed_fact IsWord m (text_in Word) d (text_fact Word)

abbrev Between : ℕ → ℕ → ℕ → Type 0
Between least most n = (least ≤ n) × (n ≤ most)

whole_needed : (least most : ℕ) (m : Member) (d : Data) → IfOk (needed m (whole_in least most) d) (Between least most)
whole_needed least most m d = needed_fact (Between least most) m (whole_in least most) d (whole_fact least most)

whole_defaulted : (most : ℕ) (m : Member) (d : Data) → IfOk (defaulted m 0 (whole_in 0 most) d) (Between 0 most)
whole_defaulted most m d = defaulted_fact (Between 0 most) m 0 (whole_in 0 most) d (omega arith, omega arith) (whole_fact 0 most)

host_in_range : (d : Data) → IfOk (host_info_at d) IsHostInfo
unfolding host_info_at
host_in_range d =
    goes_on (λ _. ⊤) _ _ _ (needed_fact _ _ _ _ (λ _ _ _. tt)) (λ info _.
    goes_on IsWord _ _ _ (word_needed _ info) (λ host_cpid cpid.
    goes_on (Between 1 (10 ^ 18)) _ _ _ (whole_needed _ _ _ info) (λ p_fpops fpops.
    goes_on (Between 0 (10 ^ 18)) _ _ _ (whole_needed _ _ _ info) (λ m_nbytes nbytes.
    goes_on (Between 0 (10 ^ 18)) _ _ _ (whole_needed _ _ _ info) (λ d_free free.
    record { host_cpid = cpid; some_fpops = fpops.0; p_fpops = fpops.1; m_nbytes = nbytes.1; d_free = free.1 })))))

abbrev ArePlatforms : List (List ℕ) → Type 0
ArePlatforms platforms = (0 < length platforms) × (length platforms ≤ 8) × AllByRecursion IsWord platforms

platforms_in_range : (d : Data) → IfOk (platforms_at d) ArePlatforms
unfolding platforms_at
platforms_in_range d =
    goes_on IsWord _ _ _ (word_needed _ d) (λ own word.
    goes_on (λ xs. (length xs ≤ 7) × AllByRecursion IsWord xs) _ _ _ (defaulted_fact _ _ _ _ d (omega arith, tt) (list_fact IsWord 7 (text_in Word) (text_fact Word))) (λ others words.
    (omega arith, omega (arith, words.0), (word, words.1))))

listed_fact : (d : Data) (names : Option (List (List ℕ))) → option_map Some (list_in 1024 (text_in Name) d) ≡ Some names → IfSome names AreListed
listed_fact d None e = tt
listed_fact d (Some names) e =
    let found : list_in 1024 (text_in Name) d ≡ Some names = inner (list_in 1024 (text_in Name) d) names e in
    let f = list_fact IsName 1024 (text_in Name) (text_fact Name) d names found in
    record { count = f.0; each = All-from_recursion IsName names f.1 }

status_fact : (d : Data) (z : ℤ) → status_in d ≡ Some z → (negsuc 2147483647 ≤ℤ z) × (z ≤ℤ pos 2147483647)
status_fact d z e =
    link (as_number d) _ z e (λ number _ read. link (as_i64 number) _ z read (λ y _ kept.
    let t = tested (int_le (negsuc 2147483647) y && int_le y (pos 2147483647)) y z kept in
    let parts = and_parts (int_le (negsuc 2147483647) y) _ t.0 in
    let P : ℤ → Type 0 = λ x. (negsuc 2147483647 ≤ℤ x) × (x ≤ℤ pos 2147483647) in
    subst P t.1 (le_z_yes (passes _ parts.0), le_z_yes (passes _ parts.1))))

report_fact : (d : Data) (report : Report) → report_in d ≡ Some report → IsReport report
unfolding report_in
report_fact d report e =
    link (get (codes "name") d) _ report e (λ found _ e1. link (text_in Name found) _ report e1 (λ name is_name e2.
    link (get (codes "exit_status") d) _ report e2 (λ told _ e3. link (status_in told) _ report e3 (λ exit_status status e4.
    link (read_or [] (text_in Output) (get (codes "output") d)) _ report e4 (λ output is_output whole.
    let same : record { name = name; exit_status = exit_status; output = output } ≡ report = cc in
    let range = status_fact told exit_status status in
    subst IsReport same (record {
      name = text_fact Name found name is_name;
      least_status = range.0;
      most_status = range.1;
      output = read_or_fact (λ s. is_of Output s ≡ true) [] (text_in Output) (get (codes "output") d) output refl (text_fact Output) is_output;
    }))))))

request_in_range : (d : Data) → IfOk (request_at d) IsInRange
unfolding request_at
request_in_range d =
    goes_on IsWord _ _ _ (word_needed _ d) (λ authenticator word.
    goes_on (Between 0 2147483647) _ _ _ (whole_defaulted _ _ d) (λ hostid number.
    goes_on (Between 0 2147483647) _ _ _ (whole_needed _ _ _ d) (λ rpc_seqno seqno.
    goes_on IsHostInfo _ _ _ (host_in_range d) (λ host info.
    goes_on ArePlatforms _ _ _ (platforms_in_range d) (λ platforms words.
    goes_on (Between 0 1000000000) _ _ _ (whole_defaulted _ _ d) (λ asked seconds.
    goes_on (λ names. IfSome names AreListed) _ _ _ (defaulted_fact _ _ _ _ d tt listed_fact) (λ other_results listed.
    goes_on (λ xs. (length xs ≤ 256) × AllByRecursion IsReport xs) _ _ _ (defaulted_fact _ _ _ _ d (omega arith, tt) (list_fact IsReport 256 report_in report_fact)) (λ results reports.
    record {
      authenticator = word;
      hostid = number.1;
      rpc_seqno = seqno.1;
      host = info;
      some_platform = words.0;
      platform_count = words.1;
      platforms = All-from_recursion IsWord platforms words.2;
      asked = seconds.1;
      other_results = listed;
      result_count = reports.0;
      results = All-from_recursion IsReport results reports.1;
    }))))))))

value_in_range : (b : Bool) (d : Data) → IfOk (cond b (request_at d) (Err BadJson)) IsInRange
value_in_range true d = request_in_range d
value_in_range false d = tt

value_meaning_in_range : (d : Data) → IfOk (value_meaning d) IsInRange
unfolding value_meaning
value_meaning_in_range d = value_in_range (is_some (as_object d)) d

pub meaning_in_range : (body : List ℕ) → IfOk (meaning body) IsInRange
unfolding meaning
meaning_in_range body =
    goes_on (λ _. ⊤) IsInRange (ok_or (json_of body) BadJson) value_meaning (known (λ _. ⊤) BadJson (json_of body) (λ _ _. tt)) (λ d _. value_meaning_in_range d)

-- so is a request that a call returns from such a reading
given : (r reading : Result Request Fault) → GivesUnless Unavailable r reading → IfOk reading IsInRange → IfOk r IsInRange
given (Ok x) reading is h = rw is at h
given (Err e) reading is h = tt

pub answer_in_range : (r : Result Request Fault) (d : Data) → GivesUnless Unavailable r (value_meaning d) → IfOk r IsInRange
answer_in_range r d is = given r (value_meaning d) is (value_meaning_in_range d)
