-- Calls kept by the number of their host are calls kept by key.
use Rattle.std.proofs.Common.{◌≡◌, ℕ, suc, ◌+◌, ◌≤◌, ◌<◌, Bool, true, false, cond, eqb, List, [], ◌∷◌, ◌++◌, map, length, take, get_or, Option, Some, None, slice_get, sym, refl, ap, ◌∙◌, subst, arith}
use Rattle.std.specs.Prelude.{◌&&◌, ◌==◌, if◌then◌else◌, option_and_then, unwrap_or}
use Rattle.std.specs.List.{position_from}
use Rattle.std.specs.Option.{option_or}
use Rattle.std.specs.Str.{bytes_eq}
use Rattle.std.proofs.lemmas.Bool.{and_parts, eqb-true, eq-eqb}
use Rattle.std.proofs.lemmas.List.{length-append, length-map}
use Rattle.std.proofs.lemmas.Option.{slice_get_within, get_or_from_slice_get}
use Rattle.std.proofs.lemmas.Slice.Eq.{bytes_eq-Decides}
use Rattle.reply_register.specs.Keys.{same_key}
use Rattle.reply_register.specs.declared.kept.Kept.{Kept}
use Rattle.reply_register.specs.declared.key.Key.{Key}
use Rattle.reply_register.proofs.Calls.{same_key-is}
use Rattle.rpc_records.specs.declared.request.Request.{Request}
use Rattle.sched_book.specs.Imports.{Shelf, shelf_of, with_rows}
use Rattle.sched_book.specs.Places.{place_where, account_place, is_host_of, known_host}
use Rattle.sched_book.specs.Sound.{Sound}
use Rattle.sched_book.specs.Step.{IsCaller, Step, host_number}
use Rattle.sched_book.specs.declared.machine.Answered.{Answered}
use Rattle.sched_book.specs.declared.machine.Answered.TheVariants as answered
use Rattle.sched_book.specs.declared.machine.Call.{Call}
use Rattle.sched_book.specs.declared.machine.Call.TheVariants as call
use Rattle.sched_book.specs.declared.machine.Caller.{Caller}
use Rattle.sched_book.specs.declared.rows.Account.{Account}
use Rattle.sched_book.specs.declared.rows.HostRow.{HostRow}
use Rattle.sched_book.specs.declared.rows.Rows.{Rows}
use Rattle.sched_book.specs.declared.rows.Rows.TheVariants as rows
use Rattle.sched_book.specs.declared.world.World.{World}
use Rattle.sched_book.proofs.PlacesOf.{place_where-is, place_where-push, found_from, FoundFrom}
use Rattle.sched_book.proofs.LeftByImports.{hosts_with_rows}
use Rattle.stores.specs.Eras.{kept_before_last}
use Rattle.stores.specs.Held.{put_at, put_call}
use Rattle.pasts.specs.Answers.{body_of, kept_call, kept_after}
use Rattle.pasts.specs.ByNumber.{kept_at, numbered_after, calls_by_number, AreOfHosts, KeptByNumber}
use Rattle.pasts.specs.FirstHeard.{account_on}
use Rattle.pasts.specs.Leaves.{host_name, Frame, host_of_key}
use Rattle.pasts.specs.Messages.{Rpc, Import, Tick, Read, Refused, key_of}
use Rattle.pasts.proofs.HostKeys.{is_name, names_after, known-place, names_entered, same_test}
use Rattle.pasts.proofs.Places.{found, place-more}
use Rattle.pasts.proofs.StepLeaves.{step_leaves}

-- ---- names in a list

-- the name that passes the test is the one that is asked for
is_name-is : (asked name : ℕ × List ℕ) → is_name asked.0 asked.1 name ≡ true → name ≡ asked
is_name-is asked name passes =
    let parts = and_parts (name.0 == asked.0) (bytes_eq name.1 asked.1) passes in
    let account : name.0 ≡ asked.0 = eqb-true name.0 asked.0 parts.0 in
    let cpid : name.1 ≡ asked.1 = (bytes_eq-Decides name.1 asked.1).0 parts.1 in
    λ i. (account i, cpid i)

is_name-self : (name : ℕ × List ℕ) → is_name name.0 name.1 name ≡ true
is_name-self name =
    let account : (name.0 == name.0) ≡ true = eq-eqb name.0 name.0 refl in
    let cpid : bytes_eq name.1 name.1 ≡ true = (bytes_eq-Decides name.1 name.1).1 refl in
    λ i. account i && cpid i

abbrev place_of : ℕ × List ℕ → List (ℕ × List ℕ) → Option ℕ
place_of name names = place_where (is_name name.0 name.1) names

-- two names at one place are equal
one_name : (names : List (ℕ × List ℕ)) (a b : ℕ × List ℕ) (n : ℕ) → place_of a names ≡ Some n → place_of b names ≡ Some n → a ≡ b
one_name names a b n first second =
    let x : FoundFrom (is_name a.0 a.1) 1 names n = found (is_name a.0 a.1) names n first in
    let y : FoundFrom (is_name b.0 b.1) 1 names n = found (is_name b.0 b.1) names n second in
    let place : x.0 ≡ y.0 = omega (arith, x.2, y.2) in
    let there : Some x.1 ≡ Some y.1 = sym x.3 ∙ ap (slice_get names) place ∙ y.3 in
    let same : x.1 ≡ y.1 = cc in
    sym (is_name-is a x.1 x.4) ∙ same ∙ is_name-is b y.1 y.4

-- a place that was found is within the list
within : (names : List (ℕ × List ℕ)) (a : ℕ × List ℕ) (n : ℕ) → place_of a names ≡ Some n → n ≤ length names
within names a n is =
    let x : FoundFrom (is_name a.0 a.1) 1 names n = found (is_name a.0 a.1) names n is in
    let less : x.0 < length names = slice_get_within names x.0 x.1 x.3 in
    omega (arith, x.2, less)

unless : (test : Bool) (x y : List Kept) → (test ≡ true → ⊥) → cond test x y ≡ y
unless true x y never = absurd (never refl)
unless false x y never = refl

-- What is put at the number of a name is kept of that name and of no other.
put_kept : (names : List (ℕ × List ℕ)) (mine asked : ℕ × List ℕ) (o : Option ℕ) (kept : ℕ → List Kept) (new : List Kept) (same : Bool)
    → place_of mine names ≡ o → is_name asked.0 asked.1 mine ≡ same
    → kept_at (put_at (unwrap_or o (length names + 1)) new kept) (place_of asked (names_after mine o names))
    ≡ (if same then new else kept_at kept (place_of asked names))
put_kept names mine asked None kept new true here same =
    let one : mine ≡ asked = is_name-is asked mine same in
    let none : place_of asked names ≡ None = ap (λ name. place_of name names) (sym one) ∙ here in
    let number : ℕ = length names + 1 in
    let found_it : place_of asked (names ++ mine ∷ []) ≡ Some number =
    place_where-push (is_name asked.0 asked.1) names mine ∙ (λ i. option_or (none i) (cond (same i) (Some number) None)) in
    ap (kept_at (put_at number new kept)) found_it ∙ ap (λ (b : Bool). cond b new (kept number)) (eq-eqb number number refl)
put_kept names mine asked None kept new false here other =
    ap (kept_at (put_at number new kept))
    (place_where-push (is_name asked.0 asked.1) names mine
    ∙ ap (λ (b : Bool). option_or (place_of asked names) (cond b (Some number) None)) other)
    ∙ cases (place_of asked names) refl
  where
    number : ℕ
    number = length names + 1

    cases : (p : Option ℕ) → place_of asked names ≡ p → kept_at (put_at (length names + 1) new kept) (option_or p None) ≡ kept_at kept p
    cases None is = refl
    cases (Some m) is =
        unless (eqb (length names + 1) m) new (kept m)
        (λ equal. let same : length names + 1 ≡ m = eqb-true (length names + 1) m equal in let most : m ≤ length names = within names asked m is in omega (arith, same, most))
put_kept names mine asked (Some n) kept new true here same =
    let one : mine ≡ asked = is_name-is asked mine same in
    let there : place_of asked names ≡ Some n = ap (λ name. place_of name names) (sym one) ∙ here in
    ap (kept_at (put_at n new kept)) there ∙ ap (λ (b : Bool). cond b new (kept n)) (eq-eqb n n refl)
put_kept names mine asked (Some n) kept new false here other = cases (place_of asked names) refl
  where
    cases : (p : Option ℕ) → place_of asked names ≡ p → kept_at (put_at n new kept) p ≡ kept_at kept p
    cases None is = refl
    cases (Some m) is =
        unless (eqb n m) new (kept m)
        (λ equal. let same : m ≡ n = sym (eqb-true n m equal) in
        let one : mine ≡ asked = one_name names mine asked n here (is ∙ ap Some same) in
        let passes : is_name asked.0 asked.1 mine ≡ true = ap (is_name asked.0 asked.1) one ∙ is_name-self asked in
        absurd cc)

-- ---- a call

-- the number of a key's host, from the frame alone
abbrev host_in : Shelf → List (ℕ × List ℕ) → Key → Option ℕ
host_in shelf names key = option_and_then (λ account. place_of (account, key.host_cpid) names) (account_on shelf key.authenticator)

host_in-frame : (w : World) (key : Key) → host_of_key w key ≡ host_in (shelf_of w) (map host_name w.hosts) key
host_in-frame w key = λ i. option_and_then (λ account. known account i) (account_place w key.authenticator)
  where
    known : (account : ℕ) → known_host w account key.host_cpid ≡ place_of (account, key.host_cpid) (map host_name w.hosts)
    known account =
        known-place w.hosts account key.host_cpid ∙ sym (place_where-is (is_name account key.host_cpid) (map host_name w.hosts))

-- what is kept at the number of a caller's host, even if the host is still to be made
pub at_number : (w : World) (host : Option ℕ) (kept : ℕ → List Kept) → AreOfHosts w kept → kept (unwrap_or host (length w.hosts + 1)) ≡ kept_at kept host
at_number w None kept of = of (length w.hosts + 1) (omega arith)
at_number w (Some n) kept of = refl

call_kept : (era : ℕ) (w after : World) (c : Caller) (r : Request) (now : ℕ) (answer : Answered) → IsCaller w c r → Step w (call.Rpc c r) now after answer
    → (body : List ℕ) (kept : ℕ → List Kept) → AreOfHosts w kept → (key : Key)
    → calls_by_number after (numbered_after era w (call.Rpc c r) body kept) key ≡ kept_after era key (Rpc r) body (calls_by_number w kept key)
call_kept era w after c r now answer caller step body kept of key =
    let put : ℕ → List Kept = put_at (host_number w c) (new (kept_at kept c.host)) kept in
    let is_put : put_call era (host_number w c) (kept_call r body) kept ≡ put =
    ap (λ older. put_at (host_number w c) (new older) kept) (at_number w c.host kept of) in
    let there : host_of_key after key ≡ host_in (shelf_of w) (names_after mine c.host names) key =
    host_in-frame after key
    ∙ ap (λ (f : Frame). host_in f.shelf f.hosts key) (step_leaves w after (call.Rpc c r) now answer step)
    ∙ ap (λ ns. host_in (shelf_of w) ns key) (names_entered w c r caller) in
    ap (λ calls. kept_at calls (host_of_key after key)) is_put
    ∙ ap (kept_at put) there ∙ cases (account_place w key.authenticator) refl
    ∙ ap (λ o. if same_key key (key_of r) then new (kept_at kept o) else kept_at kept o) (sym (host_in-frame w key))
  where
    names : List (ℕ × List ℕ)
    names = map host_name w.hosts

    mine : ℕ × List ℕ
    mine = (c.account, r.host.host_cpid)

    new : List Kept → List Kept
    new older = kept_call r body ∷ take (kept_before_last era) older

    here : place_of mine names ≡ c.host
    here = place_where-is (is_name c.account r.host.host_cpid) names ∙ sym (known-place w.hosts c.account r.host.host_cpid) ∙ caller.host

    next : unwrap_or c.host (length names + 1) ≡ host_number w c
    next = ap (λ n. unwrap_or c.host (n + 1)) (length-map w.hosts host_name)

    -- if the key is the caller's, what is kept before the call is the same by number and by key
    before : (account : ℕ) (same : Bool) → is_name account key.host_cpid mine ≡ same
        → (if same then new (kept_at kept c.host) else kept_at kept (place_of (account, key.host_cpid) names))
        ≡ (if same then new (kept_at kept (place_of (account, key.host_cpid) names)) else kept_at kept (place_of (account, key.host_cpid) names))
    before account true same =
        ap (λ o. new (kept_at kept o)) (sym here ∙ ap (λ name. place_of name names) (is_name-is (account, key.host_cpid) mine same))
    before account false other = refl

    cases : (o : Option ℕ) → account_place w key.authenticator ≡ o
        → kept_at (put_at (host_number w c) (new (kept_at kept c.host)) kept)
        (option_and_then (λ account. place_of (account, key.host_cpid) (names_after mine c.host names)) o)
        ≡ (if same_key key (key_of r)
        then new (kept_at kept (option_and_then (λ account. place_of (account, key.host_cpid) names) o))
        else kept_at kept (option_and_then (λ account. place_of (account, key.host_cpid) names) o))
    cases None none = sym (unless (same_key key (key_of r)) (new []) [] (λ same.
        let never : None ≡ Some c.account = sym none ∙ ap (λ k. account_place w k.authenticator) (same_key-is key (key_of r) same) ∙ caller.account in
        absurd cc))
    cases (Some account) stands =
        let asked : ℕ × List ℕ = (account, key.host_cpid) in
        let same : same_key key (key_of r) ≡ is_name account key.host_cpid mine =
        same_test (shelf_of w) key (key_of r) mine account stands caller.account refl in
        ap (λ n. kept_at (put_at n (new (kept_at kept c.host)) kept) (place_of asked (names_after mine c.host names))) (sym next)
        ∙ put_kept names mine asked c.host kept (new (kept_at kept c.host)) (is_name account key.host_cpid mine) here refl
        ∙ before account (is_name account key.host_cpid mine) refl
        ∙ ap (λ (b : Bool). if b then new (kept_at kept (place_of asked names)) else kept_at kept (place_of asked names)) (sym same)

-- ---- an import, and a tick

-- after items that do not pass
position_behind : {X : Type 0} (p : X → Bool) (m : ℕ) (xs ys : List X) (n : ℕ) → position_from p m xs ≡ None → position_from p m (xs ++ ys) ≡ Some n
    → m + length xs ≤ n
position_behind p m [] ys n none is = let at = found_from p m ys n is in omega (arith, at.2)
position_behind p m (x ∷ xs) ys n none is = cases (p x) none is (position_behind p (m + 1) xs ys n)
  where
    cases : (b : Bool) → cond b (Some m) (position_from p (m + 1) xs) ≡ None → cond b (Some m) (position_from p (m + 1) (xs ++ ys)) ≡ Some n
        → (position_from p (m + 1) xs ≡ None → position_from p (m + 1) (xs ++ ys) ≡ Some n → m + 1 + length xs ≤ n) → m + suc (length xs) ≤ n
    cases true none is later = absurd cc
    cases false none is later = let far : m + 1 + length xs ≤ n = later none is in omega (arith, far)

-- a host's account exists
account_stands : (w : World) (account host : ℕ) (cpid : List ℕ) → Sound w → known_host w account cpid ≡ Some host → account ≤ length w.accounts
account_stands w account host cpid sound is =
    let x : FoundFrom (is_host_of account cpid) 1 w.hosts host = found (is_host_of account cpid) w.hosts host is in
    let parts = and_parts (x.1.account == account) (bytes_eq x.1.cpid cpid) x.4 in
    let there : get_or w.hosts x.0 x.1 ≡ x.1 = get_or_from_slice_get w.hosts x.0 x.1 x.1 x.3 in
    let P : HostRow → Type 0 = λ h. h.account ≤ length w.accounts in
    let most : x.1.account ≤ length w.accounts = subst P there (sound.rows.hosts x.0 x.1 (slice_get_within w.hosts x.0 x.1 x.3)).account.1 in
    let Q : ℕ → Type 0 = λ n. n ≤ length w.accounts in
    subst Q (eqb-true x.1.account account parts.0) most

hosts_stay : (w : World) (new : Rows) (key : Key) → Sound w → host_of_key (with_rows w new) key ≡ host_of_key w key
hosts_stay w (rows.Accounts xs) key sound = cases (account_place w key.authenticator) refl (place_where says (w.accounts ++ xs)) refl
  where
    says : Account → Bool
    says a = bytes_eq a.authenticator key.authenticator

    cases : (o : Option ℕ) → place_where says w.accounts ≡ o → (p : Option ℕ) → place_where says (w.accounts ++ xs) ≡ p
        → option_and_then (λ account. known_host w account key.host_cpid) p ≡ option_and_then (λ account. known_host w account key.host_cpid) o
    cases (Some account) here p is =
        ap (option_and_then (λ account. known_host w account key.host_cpid)) (sym is ∙ place-more says w.accounts xs account here)
    cases None none None is = refl
    cases None none (Some account) is = no_host (known_host w account key.host_cpid) refl
      where
        no_host : (h : Option ℕ) → known_host w account key.host_cpid ≡ h → h ≡ None
        no_host None known = refl
        no_host (Some host) known =
            let most : account ≤ length w.accounts = account_stands w account host key.host_cpid sound known in
            let far : 1 + length w.accounts ≤ account =
            position_behind says 1 w.accounts xs account (sym (place_where-is says w.accounts) ∙ none) (sym (place_where-is says (w.accounts ++ xs)) ∙ is) in
            absurd (omega (arith, most, far))
hosts_stay w (rows.Apps xs) key sound = refl
hosts_stay w (rows.Versions xs) key sound = refl
hosts_stay w (rows.Workunits xs) key sound = refl

import_kept : (w after : World) (new : Rows) (now : ℕ) (answer : Answered) → Sound w → Step w (call.Import new) now after answer
    → (key : Key) → host_of_key after key ≡ host_of_key w key
import_kept w after new now (answered.Imported n) sound step key = ap (λ v. host_of_key v key) step.left ∙ hosts_stay w new key sound
import_kept w after new now (answered.Rpc reply) sound step key = absurd step
import_kept w after new now (answered.Lapsed n) sound step key = absurd step

tick_kept : (w after : World) (now : ℕ) (answer : Answered) → Step w call.Tick now after answer → (key : Key) → host_of_key after key ≡ host_of_key w key
tick_kept w after now answer step key =
    host_in-frame after key
    ∙ ap (λ (f : Frame). host_in f.shelf f.hosts key) (step_leaves w after call.Tick now answer step)
    ∙ sym (host_in-frame w key)

-- ---- hosts that exist

-- nothing is put at a number beyond the hosts
put_of : (m n : ℕ) (number : ℕ) (new : List Kept) (kept : ℕ → List Kept) → ((host : ℕ) → m < host → kept host ≡ []) → m ≤ n → number ≤ n
    → (host : ℕ) → n < host → put_at number new kept host ≡ []
put_of m n number new kept of more within host beyond =
    unless (eqb number host) new (kept host) (λ equal. let same : number ≡ host = eqb-true number host equal in omega (arith, same, within, beyond))
    ∙ of host (omega (arith, more, beyond))

-- a place that was found is a place
some_place : (names : List (ℕ × List ℕ)) (a : ℕ × List ℕ) (n : ℕ) → place_of a names ≡ Some n → 1 ≤ n
some_place names a n is = let x : FoundFrom (is_name a.0 a.1) 1 names n = found (is_name a.0 a.1) names n is in omega (arith, x.2)

-- a call puts at the number of a host that exists after it
names_stand : (names : List (ℕ × List ℕ)) (mine : ℕ × List ℕ) (o : Option ℕ) → place_of mine names ≡ o
    → (length names ≤ length (names_after mine o names)) × (1 ≤ unwrap_or o (length names + 1)) × (unwrap_or o (length names + 1) ≤ length (names_after mine o names))
names_stand names mine None here =
    let one_more : length (names ++ mine ∷ []) ≡ length names + 1 = length-append names (mine ∷ []) in
    (omega (arith, one_more), omega arith, omega (arith, one_more))
names_stand names mine (Some n) here = (omega arith, some_place names mine n here, within names mine n here)

-- the hosts after a call: no fewer than before, and the caller's is one of them
pub call_hosts : (w after : World) (c : Caller) (r : Request) (now : ℕ) (answer : Answered) → IsCaller w c r → Step w (call.Rpc c r) now after answer
    → (length w.hosts ≤ length after.hosts) × (1 ≤ host_number w c) × (host_number w c ≤ length after.hosts)
call_hosts w after c r now answer caller step =
    let names : List (ℕ × List ℕ) = map host_name w.hosts in
    let mine : ℕ × List ℕ = (c.account, r.host.host_cpid) in
    let here : place_of mine names ≡ c.host =
    place_where-is (is_name c.account r.host.host_cpid) names ∙ sym (known-place w.hosts c.account r.host.host_cpid) ∙ caller.host in
    let hosts : map host_name after.hosts ≡ names_after mine c.host names =
    ap (λ (f : Frame). f.hosts) (step_leaves w after (call.Rpc c r) now answer step) ∙ names_entered w c r caller in
    let count : length after.hosts ≡ length (names_after mine c.host names) = sym (length-map after.hosts host_name) ∙ ap length hosts in
    let before : length names ≡ length w.hosts = length-map w.hosts host_name in
    let stand = names_stand names mine c.host here in
    let P : ℕ → Type 0 = λ n. (1 ≤ unwrap_or c.host (n + 1)) × (unwrap_or c.host (n + 1) ≤ length (names_after mine c.host names)) in
    let number = subst P before (stand.1, stand.2) in
    (omega (arith, count, before, stand.0), number.0, omega (arith, count, number.1))

call_of_hosts : (era : ℕ) (w after : World) (c : Caller) (r : Request) (now : ℕ) (answer : Answered) → IsCaller w c r → Step w (call.Rpc c r) now after answer
    → (body : List ℕ) (kept : ℕ → List Kept) → AreOfHosts w kept → AreOfHosts after (numbered_after era w (call.Rpc c r) body kept)
call_of_hosts era w after c r now answer caller step body kept of =
    let hosts = call_hosts w after c r now answer caller step in
    put_of (length w.hosts) (length after.hosts) (host_number w c) (kept_call r body ∷ take (kept_before_last era) (kept (host_number w c))) kept of hosts.0 hosts.2

import_hosts : (w after : World) (new : Rows) (now : ℕ) (answer : Answered) → Step w (call.Import new) now after answer → length after.hosts ≡ length w.hosts
import_hosts w after new now (answered.Imported n) step = ap (λ (v : World). length v.hosts) step.left ∙ ap length (hosts_with_rows w new)
import_hosts w after new now (answered.Rpc reply) step = absurd step
import_hosts w after new now (answered.Lapsed n) step = absurd step

tick_hosts : (w after : World) (now : ℕ) (answer : Answered) → Step w call.Tick now after answer → length after.hosts ≡ length w.hosts
tick_hosts w after now answer step =
    sym (length-map after.hosts host_name)
    ∙ ap (λ (f : Frame). length f.hosts) (step_leaves w after call.Tick now answer step) ∙ length-map w.hosts host_name

as_many : (w after : World) (kept : ℕ → List Kept) → length after.hosts ≡ length w.hosts → AreOfHosts w kept → AreOfHosts after kept
as_many w after kept same of host beyond = of host (omega (arith, same, beyond))

-- ---- each message

pub caller_of : (w after : World) (c : Caller) (r : Request) (now : ℕ) (answer : Answered) → Step w (call.Rpc c r) now after answer → IsCaller w c r
caller_of w after c r now (answered.Rpc reply) step = step.caller
caller_of w after c r now (answered.Imported n) step = absurd step
caller_of w after c r now (answered.Lapsed n) step = absurd step

pub kept_by_number : KeptByNumber
kept_by_number w after (Rpc request) (call.Rpc c r) now answer sound is step era kept of =
    let P : Request → Type 0 = λ q. AreOfHosts after (numbered_after era w (call.Rpc c r) (body_of answer (Rpc q)) kept)
    × ((key : Key) → calls_by_number after (numbered_after era w (call.Rpc c r) (body_of answer (Rpc q)) kept) key
    ≡ kept_after era key (Rpc q) (body_of answer (Rpc q)) (calls_by_number w kept key)) in
    let caller : IsCaller w c r = caller_of w after c r now answer step in
    subst P is (
      call_of_hosts era w after c r now answer caller step (body_of answer (Rpc r)) kept of,
      call_kept era w after c r now answer caller step (body_of answer (Rpc r)) kept of,
    )
kept_by_number w after (Rpc request) (call.Import new) now answer sound is step era kept of = absurd is
kept_by_number w after (Rpc request) call.Tick now answer sound is step era kept of = absurd is
kept_by_number w after (Import kind batch text read) (call.Import new) now answer sound is step era kept of =
    (as_many w after kept (import_hosts w after new now answer step) of, λ key. ap (kept_at kept) (import_kept w after new now answer sound step key))
kept_by_number w after (Import kind batch text read) (call.Rpc c r) now answer sound is step era kept of = absurd is
kept_by_number w after (Import kind batch text read) call.Tick now answer sound is step era kept of = absurd is
kept_by_number w after Tick call.Tick now answer sound is step era kept of =
    (as_many w after kept (tick_hosts w after now answer step) of, λ key. ap (kept_at kept) (tick_kept w after now answer step key))
kept_by_number w after Tick (call.Rpc c r) now answer sound is step era kept of = absurd is
kept_by_number w after Tick (call.Import new) now answer sound is step era kept of = absurd is
kept_by_number w after (Read tells) c now answer sound is step era kept of = absurd is
kept_by_number w after (Refused fault) c now answer sound is step era kept of = absurd is

-- no host is removed
pub no_host_goes : (w after : World) (c : Call) (now : ℕ) (answer : Answered) → Step w c now after answer → length w.hosts ≤ length after.hosts
no_host_goes w after (call.Rpc c r) now answer step = (call_hosts w after c r now answer (caller_of w after c r now answer step) step).0
no_host_goes w after (call.Import new) now answer step = let same = import_hosts w after new now answer step in omega (arith, same)
no_host_goes w after call.Tick now answer step = let same = tick_hosts w after now answer step in omega (arith, same)
