-- The hosts of a run are those of its calls' keys: their names and the keys in one order, and the number of a key's host.
use Rattle.std.proofs.Common.{◌≡◌, ℕ, suc, ◌+◌, Bool, true, false, cond, List, [], ◌∷◌, ◌++◌, map, length, Option, Some, None, slice_get, sym, refl, ap, ◌∙◌, subst, arith}
use Rattle.std.specs.Prelude.{◌&&◌, ◌==◌, option_and_then}
use Rattle.std.specs.List.{position_from}
use Rattle.std.specs.Str.{bytes_eq}
use Rattle.std.proofs.lemmas.Bool.{and_parts, eqb-true, eq-eqb}
use Rattle.std.proofs.lemmas.List.{map-append, length-map}
use Rattle.std.proofs.lemmas.Slice.Eq.{bytes_eq-Decides}
use Rattle.std.proofs.lemmas.Cmp.{nat_list_eq_equiv}
use Rattle.reply_register.specs.Keys.{same_key}
use Rattle.reply_register.specs.declared.key.Key.{Key}
use Rattle.rpc_records.specs.declared.request.Request.{Request}
use Rattle.sched_book.specs.Imports.{Shelf, shelf_of}
use Rattle.sched_book.specs.Places.{place_where, account_place, is_host_of, known_host}
use Rattle.sched_book.specs.Step.{IsCaller, row_of_call, hosts_at_entry}
use Rattle.sched_book.specs.declared.machine.Caller.{Caller}
use Rattle.sched_book.specs.declared.rows.Account.{Account}
use Rattle.sched_book.specs.declared.rows.HostRow.{HostRow}
use Rattle.sched_book.specs.declared.world.World.{World}
use Rattle.sched_book.proofs.PlacesOf.{place_where-is, FoundFrom}
use Rattle.pasts.specs.FirstHeard.{account_on, with_key}
use Rattle.pasts.specs.Leaves.{host_name, host_of_key}
use Rattle.pasts.specs.Messages.{key_of}
use Rattle.pasts.proofs.Places.{found, map-changed_found, position-map}

-- ---- the names of hosts

abbrev pub is_name : ℕ → List ℕ → ℕ × List ℕ → Bool
is_name account cpid name = (name.0 == account) && bytes_eq name.1 cpid

-- the number of an account's host is the place of its name
pub known-place : (hosts : List HostRow) (account : ℕ) (cpid : List ℕ)
    → place_where (is_host_of account cpid) hosts ≡ position_from (is_name account cpid) 1 (map host_name hosts)
known-place hosts account cpid =
    place_where-is (is_host_of account cpid) hosts ∙ position-map host_name (is_host_of account cpid) (is_name account cpid) (λ h. refl) 1 hosts

-- the names, with this one at the end if it has no number
abbrev pub names_after : ℕ × List ℕ → Option ℕ → List (ℕ × List ℕ) → List (ℕ × List ℕ)
names_after name None names = names ++ name ∷ []
names_after name (Some number) names = names

-- a call keeps the names of all hosts, or adds one
pub names_entered : (w : World) (c : Caller) (r : Request) → IsCaller w c r
    → map host_name (hosts_at_entry w c r c.host) ≡ names_after (c.account, r.host.host_cpid) c.host (map host_name w.hosts)
names_entered w c r caller = cases c.host caller.host
  where
    is_named : (h : HostRow) → is_host_of c.account r.host.host_cpid h ≡ true → host_name (row_of_call c r h.quota) ≡ host_name h
    is_named h passes =
        let parts = and_parts (h.account == c.account) (bytes_eq h.cpid r.host.host_cpid) passes in
        let account : c.account ≡ h.account = sym (eqb-true h.account c.account parts.0) in
        let cpid : r.host.host_cpid ≡ h.cpid = sym ((bytes_eq-Decides h.cpid r.host.host_cpid).0 parts.1) in
        λ i. (account i, cpid i)

    cases : (o : Option ℕ) → known_host w c.account r.host.host_cpid ≡ o
        → map host_name (hosts_at_entry w c r o) ≡ names_after (c.account, r.host.host_cpid) o (map host_name w.hosts)
    cases None is = map-append host_name w.hosts (row_of_call c r w.settings.daily_result_quota ∷ [])
    cases (Some number) is =
        map-changed_found host_name (λ (h : HostRow). row_of_call c r h.quota) (is_host_of c.account r.host.host_cpid) is_named w.hosts number is

-- ---- names and keys in one order

-- each name's account has the word of its key, and the host's own name is the key's
abbrev pub AreKeys : Shelf → List (ℕ × List ℕ) → List Key → Type 0
AreKeys shelf [] [] = Unit {0}
AreKeys shelf [] (k ∷ keys) = ⊥
AreKeys shelf (n ∷ names) [] = ⊥
AreKeys shelf (n ∷ names) (k ∷ keys) = (account_on shelf k.authenticator ≡ Some n.0) × (n.1 ≡ k.host_cpid) × AreKeys shelf names keys

-- two words that find one account are equal
one_word : (shelf : Shelf) (u v : List ℕ) (account : ℕ) → account_on shelf u ≡ Some account → account_on shelf v ≡ Some account → u ≡ v
one_word shelf u v account first second =
    let a : FoundFrom (λ (x : Account). bytes_eq x.authenticator u) 1 shelf.accounts account = found (λ (x : Account). bytes_eq x.authenticator u) shelf.accounts account first in
    let b : FoundFrom (λ (x : Account). bytes_eq x.authenticator v) 1 shelf.accounts account = found (λ (x : Account). bytes_eq x.authenticator v) shelf.accounts account second in
    let place : a.0 ≡ b.0 = omega (arith, a.2, b.2) in
    let there : Some a.1 ≡ Some b.1 = sym a.3 ∙ ap (slice_get shelf.accounts) place ∙ b.3 in
    let same : a.1 ≡ b.1 = cc in
    sym ((bytes_eq-Decides a.1.authenticator u).0 a.4) ∙ ap (λ (x : Account). x.authenticator) same ∙ (bytes_eq-Decides b.1.authenticator v).0 b.4

-- two tests that pass together are equal
same_tests : (a b : Bool) → (a ≡ true → b ≡ true) → (b ≡ true → a ≡ true) → a ≡ b
same_tests true b so back = sym (so refl)
same_tests false true so back = back refl
same_tests false false so back = refl

-- two keys are equal exactly if their account and name are
pub same_test : (shelf : Shelf) (key k : Key) (name : ℕ × List ℕ) (account : ℕ) → account_on shelf key.authenticator ≡ Some account
    → account_on shelf k.authenticator ≡ Some name.0 → name.1 ≡ k.host_cpid → same_key key k ≡ is_name account key.host_cpid name
same_test shelf key k name account here there named =
    let words : bytes_eq key.authenticator k.authenticator ≡ (name.0 == account) =
    same_tests (bytes_eq key.authenticator k.authenticator) (name.0 == account)
    (λ same. let places : Some name.0 ≡ Some account = sym there ∙ ap (account_on shelf) (sym ((bytes_eq-Decides key.authenticator k.authenticator).0 same)) ∙ here in
    let place : name.0 ≡ account = cc in eq-eqb name.0 account place)
    (λ same. (bytes_eq-Decides key.authenticator k.authenticator).1
    (one_word shelf key.authenticator k.authenticator account here (there ∙ ap Some (eqb-true name.0 account same)))) in
    let cpids : bytes_eq key.host_cpid k.host_cpid ≡ bytes_eq name.1 key.host_cpid =
    nat_list_eq_equiv.symm key.host_cpid k.host_cpid ∙ ap (λ cpid. bytes_eq cpid key.host_cpid) (sym named) in
    λ i. words i && cpids i

same_position : (shelf : Shelf) (key : Key) (account m : ℕ) (names : List (ℕ × List ℕ)) (keys : List Key)
    → account_on shelf key.authenticator ≡ Some account → AreKeys shelf names keys
    → position_from (same_key key) m keys ≡ position_from (is_name account key.host_cpid) m names
same_position shelf key account m [] [] here are = refl
same_position shelf key account m [] (k ∷ keys) here are = absurd are
same_position shelf key account m (n ∷ names) [] here are = absurd are
same_position shelf key account m (n ∷ names) (k ∷ keys) here are =
    λ i. cond (same_test shelf key k n account here are.0 are.1 i) (Some m) (same_position shelf key account (m + 1) names keys here are.2 i)

-- no key has an unknown word
no_position : (shelf : Shelf) (key : Key) (m : ℕ) (names : List (ℕ × List ℕ)) (keys : List Key) → account_on shelf key.authenticator ≡ None
    → AreKeys shelf names keys → position_from (same_key key) m keys ≡ None
no_position shelf key m [] [] none are = refl
no_position shelf key m [] (k ∷ keys) none are = absurd are
no_position shelf key m (n ∷ names) [] none are = absurd are
no_position shelf key m (n ∷ names) (k ∷ keys) none are = cases (same_key key k) refl (no_position shelf key (m + 1) names keys none are.2)
  where
    cases : (b : Bool) → same_key key k ≡ b → position_from (same_key key) (m + 1) keys ≡ None
        → cond b (Some m) (position_from (same_key key) (m + 1) keys) ≡ None
    cases true same rest =
        let parts = and_parts (bytes_eq key.authenticator k.authenticator) (bytes_eq key.host_cpid k.host_cpid) same in
        let never : None ≡ Some n.0 = sym none ∙ ap (account_on shelf) ((bytes_eq-Decides key.authenticator k.authenticator).0 parts.0) ∙ are.0 in
        absurd cc
    cases false same rest = rest

-- the number of a key's host is the key's place
pub host_of_key-place : (w : World) (keys : List Key) (key : Key) → AreKeys (shelf_of w) (map host_name w.hosts) keys
    → host_of_key w key ≡ place_where (same_key key) keys
host_of_key-place w keys key are = cases (account_place w key.authenticator) refl
  where
    cases : (o : Option ℕ) → account_place w key.authenticator ≡ o
        → option_and_then (λ account. known_host w account key.host_cpid) o ≡ place_where (same_key key) keys
    cases None none = sym (place_where-is (same_key key) keys ∙ no_position (shelf_of w) key 1 (map host_name w.hosts) keys none are)
    cases (Some account) here =
        known-place w.hosts account key.host_cpid
        ∙ sym (place_where-is (same_key key) keys ∙ same_position (shelf_of w) key account 1 (map host_name w.hosts) keys here are)

-- there are as many names as keys
same_length : (shelf : Shelf) (names : List (ℕ × List ℕ)) (keys : List Key) → AreKeys shelf names keys → length names ≡ length keys
same_length shelf [] [] are = refl
same_length shelf [] (k ∷ keys) are = absurd are
same_length shelf (n ∷ names) [] are = absurd are
same_length shelf (n ∷ names) (k ∷ keys) are = ap suc (same_length shelf names keys are.2)

pub host_count : (w : World) (keys : List Key) → AreKeys (shelf_of w) (map host_name w.hosts) keys → length w.hosts ≡ length keys
host_count w keys are = sym (length-map w.hosts host_name) ∙ same_length (shelf_of w) (map host_name w.hosts) keys are

-- ---- one call more

-- the keys, with this one at the end if it has no place
abbrev pub keys_after : Key → Option ℕ → List Key → List Key
keys_after key None keys = keys ++ key ∷ []
keys_after key (Some place) keys = keys

pub with_key-is : (key : Key) (m : ℕ) (keys : List Key) → with_key key keys ≡ keys_after key (position_from (same_key key) m keys) keys
with_key-is key m [] = refl
with_key-is key m (k ∷ keys) = cases (same_key key k) (position_from (same_key key) (m + 1) keys) (with_key-is key (m + 1) keys)
  where
    cases : (b : Bool) (o : Option ℕ) → with_key key keys ≡ keys_after key o keys
        → cond b (k ∷ keys) (k ∷ with_key key keys) ≡ keys_after key (cond b (Some m) o) (k ∷ keys)
    cases true o rest = refl
    cases false None rest = ap (λ ks. k ∷ ks) rest
    cases false (Some place) rest = ap (λ ks. k ∷ ks) rest

keys_push : (shelf : Shelf) (key : Key) (account : ℕ) (names : List (ℕ × List ℕ)) (keys : List Key) → account_on shelf key.authenticator ≡ Some account
    → AreKeys shelf names keys → AreKeys shelf (names ++ (account, key.host_cpid) ∷ []) (keys ++ key ∷ [])
keys_push shelf key account [] [] here are = (here, refl, tt)
keys_push shelf key account [] (k ∷ keys) here are = absurd are
keys_push shelf key account (n ∷ names) [] here are = absurd are
keys_push shelf key account (n ∷ names) (k ∷ keys) here are = (are.0, are.1, keys_push shelf key account names keys here are.2)

pub keys_entered : (w : World) (c : Caller) (r : Request) (keys : List Key) → IsCaller w c r → AreKeys (shelf_of w) (map host_name w.hosts) keys
    → AreKeys (shelf_of w) (map host_name (hosts_at_entry w c r c.host)) (with_key (key_of r) keys)
keys_entered w c r keys caller are =
    let P : List (ℕ × List ℕ) × List Key → Type 0 = λ p. AreKeys (shelf_of w) p.0 p.1 in
    let number : position_from (same_key (key_of r)) 1 keys ≡ c.host =
    same_position (shelf_of w) (key_of r) c.account 1 (map host_name w.hosts) keys caller.account are
    ∙ sym (known-place w.hosts c.account r.host.host_cpid) ∙ caller.host in
    let entered : with_key (key_of r) keys ≡ keys_after (key_of r) c.host keys =
    with_key-is (key_of r) 1 keys ∙ ap (λ o. keys_after (key_of r) o keys) number in
    let both : ◌≡◌ {A = List (ℕ × List ℕ) × List Key} (names_after (c.account, r.host.host_cpid) c.host (map host_name w.hosts), keys_after (key_of r) c.host keys)
    (map host_name (hosts_at_entry w c r c.host), with_key (key_of r) keys) =
    λ i. (sym (names_entered w c r caller) i, sym entered i) in
    subst P both (cases c.host)
  where
    cases : (o : Option ℕ) → AreKeys (shelf_of w) (names_after (c.account, r.host.host_cpid) o (map host_name w.hosts)) (keys_after (key_of r) o keys)
    cases None = keys_push (shelf_of w) (key_of r) c.account (map host_name w.hosts) keys caller.account are
    cases (Some number) = are
