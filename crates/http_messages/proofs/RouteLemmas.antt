-- What `matchit` finds among the routes is the route of the path.
use Rattle.std.proofs.Common.{◌≡◌, ℕ, zero, suc, ◌+◌, List, [], ◌∷◌, ◌++◌, length, drop, take, Option, Some, None, Bool, true, false, cond, refl, sym, ap, ◌∙◌, subst, arith, inl, inr, nat_eq, ◌==◌, option_map}
use Rattle.std.proofs.lemmas.Bool.Decides.{nat_tests}
use Rattle.std.specs.Prelude.{nat_lt, nat_le, ◌&&◌, ◌||◌, codes, if◌then◌else◌, option_and_then, ◌⊎◌}
use Rattle.std.specs.List.{list_all, list_any, position_or_len, starts_with}
use Rattle.std.specs.Str.{bytes_eq}
use Rattle.matchit.specs.Router.{rename, map_key}
use Rattle.matchit.specs.Rows.{Rows, param_token, catch_all_token}
use Rattle.matchit.specs.Seek.{seek, step, first, has_slash}
use Rattle.matchit.proofs.OnLiterals.{matchit_on_literals}
use Rattle.matchit.proofs.RenameLemmas.{first-rename}
use Rattle.matchit.proofs.SeekLemmas.{first-prefix, seek-empty}
use Rattle.stores.specs.Kinds.{kind_of}
use Rattle.stores.specs.declared.kind.Kind.{Kind}
use Rattle.texts.specs.Words.{is_word, is_word_byte}
use Rattle.http_messages.specs.Routing.{Route, scheduler, tick, hosts, is_slash, is_part, import_of, import_with, hosts_of, route_of}
use Rattle.http_messages.specs.Routers.{the_routes, found_route_kind, found_route, route_at}
use Rattle.http_messages.specs.declared.route_kind.RouteKind.{RouteKind}
use Rattle.http_messages.specs.declared.route_kind.RouteKind.TheVariants.{Scheduler, Import, Tick, Hosts}
use Rattle.http_messages.proofs.RowLemmas.{is_text, seek-byte, seek-literal, seek-part, seek-two, one_value}

-- the patterns of the routes, by number
abbrev numbered : Rows
numbered =
    (codes "/hosts/" ++ param_token ∷ [], 0) ∷ (codes "/import/" ++ param_token ∷ 47 ∷ param_token ∷ [], 1)
    ∷ (codes "/scheduler", 2) ∷ (codes "/tick", 3) ∷ []

abbrev route_kind_at : ℕ → RouteKind
route_kind_at zero = Hosts
route_kind_at (suc zero) = Import
route_kind_at (suc (suc zero)) = Scheduler
route_kind_at (suc (suc (suc n))) = Tick

-- the same patterns after the first slash
abbrev behind_slash : Rows
behind_slash =
    (codes "hosts/" ++ param_token ∷ [], 0) ∷ (codes "import/" ++ param_token ∷ 47 ∷ param_token ∷ [], 1)
    ∷ (codes "scheduler", 2) ∷ (codes "tick", 3) ∷ []

by_number : rename route_kind_at numbered ≡ rename (λ route. route.value) the_routes
unfolding matchit_on_literals
by_number = refl

as_option : {A B : Type 0} (f : A → B) (o : Option A) → option_map f o ≡ map_key f o
as_option f None = refl
as_option f (Some a) = refl

found_number : (path : List ℕ) → found_route_kind path ≡ map_key route_kind_at (first numbered path)
found_number path =
    as_option (λ route. route.value) (first the_routes path) ∙ sym (first-rename (λ route. route.value) the_routes path)
    ∙ ap (λ rows. first rows path) (sym by_number) ∙ first-rename route_kind_at numbered path

-- the route of the number that was found
abbrev route_by : Option ℕ → List ℕ → Option Route
route_by number path = option_and_then (λ route_kind. route_at route_kind path) (map_key route_kind_at number)

is_same : (b c : ℕ) → (b == c) ≡ true → b ≡ c
is_same b c e = grind (arith, nat_tests)

no_word_slash : is_word_byte 47 ≡ false
no_word_slash = refl

-- words have no slash
plain_byte : (b : ℕ) → is_word_byte b ≡ true → (b == 47) ≡ false
plain_byte b word = by (b == 47) refl
  where
    clash : {A : Type 0} → false ≡ true → A
    clash h = absurd (cc)

    by : (v : Bool) → (b == 47) ≡ v → (b == 47) ≡ false
    by false e = e
    by true e = clash (sym no_word_slash ∙ subst (λ c. is_word_byte c ≡ true) (is_same b 47 e) word)

plain_bytes : (text : List ℕ) → list_all is_word_byte text ≡ true → list_any is_slash text ≡ false
plain_bytes [] h = refl
plain_bytes (b ∷ text) h = by (is_word_byte b) refl (plain_bytes text) h
  where
    by : (v : Bool) → is_word_byte b ≡ v → (list_all is_word_byte text ≡ true → list_any is_slash text ≡ false)
        → (v && list_all is_word_byte text) ≡ true → (is_slash b || list_any is_slash text) ≡ false
    by true e ih h = rw (plain_byte b e) (ih h)
    by false e ih h = cc

word_part : (text : List ℕ) → is_word text ≡ true → is_part text ≡ true
word_part [] h = cc
word_part (b ∷ text) h =
    let none = plain_bytes (b ∷ text) (last (nat_le 1 (suc (length text)) && nat_le (suc (length text)) 64) (list_all is_word_byte (b ∷ text)) h) in
    let some : nat_lt 0 (suc (length text)) ≡ true = grind (arith, nat_tests) in
    rw (some, none) refl
  where
    last : (x y : Bool) → (x && y) ≡ true → y ≡ true
    last true y h = h
    last false y h = cc

-- a text around its first slash
record Around (text : List ℕ) : Type 0 where
  front : List ℕ
  behind : List ℕ
  whole : text ≡ front ++ 47 ∷ behind
  first_is : has_slash front ≡ false
  front_is : take (position_or_len is_slash text) text ≡ front
  behind_is : drop (position_or_len is_slash text + 1) text ≡ behind

around : (text : List ℕ) → nat_lt (position_or_len is_slash text) (length text) ≡ true → Around text
around [] h = cc
around (b ∷ text) h = by (b == 47) refl (around text)
  where
    next : 1 + position_or_len is_slash text ≡ suc (position_or_len is_slash text)
    next = omega arith

    beyond : suc (position_or_len is_slash text) + 1 ≡ suc (position_or_len is_slash text + 1)
    beyond = omega arith

    by : (v : Bool) → (b == 47) ≡ v → (nat_lt (position_or_len is_slash text) (length text) ≡ true → Around text) → Around (b ∷ text)
    by true e later = record {
      front = [];
      behind = text;
      whole = ap (λ c. c ∷ text) (is_same b 47 e);
      first_is = refl;
      front_is = rw e refl;
      behind_is = rw e refl;
    }
    by false e later =
        let there : nat_lt (suc (position_or_len is_slash text)) (suc (length text)) ≡ true = rw (e, next) at h in
        let rest = later (grind (arith, nat_tests, there)) in record {
          front = b ∷ rest.front;
          behind = rest.behind;
          whole = ap (λ xs. b ∷ xs) rest.whole;
          first_is = rw e rest.first_is;
          front_is = rw (e, next) (ap (λ xs. b ∷ xs) rest.front_is);
          behind_is = rw (e, next, beyond) rest.behind_is;
        }

no_word : (kind : Option Kind) (batch : List ℕ) → is_word batch ≡ false → import_with kind batch ≡ None
no_word None batch e = refl
no_word (Some kind) batch e = rw e refl

abbrev two_parts : Rows
two_parts = (param_token ∷ 47 ∷ param_token ∷ [], 1) ∷ []

import_around : (text front behind : List ℕ) → text ≡ front ++ 47 ∷ behind → has_slash front ≡ false
    → import_of text ≡ import_with (kind_of front) behind → (import_of text ≡ None) ⊎ (first two_parts text ≡ Some 1)
import_around text [] behind whole none e = inl e
import_around text (b ∷ w) behind whole none e = by (is_word behind) refl
  where
    by : (v : Bool) → is_word behind ≡ v → (import_of text ≡ None) ⊎ (first two_parts text ≡ Some 1)
    by true f = inr (ap (first two_parts) whole ∙ seek-two 1 b w behind none (word_part behind f))
    by false f = inl (e ∙ no_word (kind_of (b ∷ w)) behind f)

-- if an import is named, its row is found
import_found : (text : List ℕ) → (import_of text ≡ None) ⊎ (first two_parts text ≡ Some 1)
import_found text = by (nat_lt (position_or_len is_slash text) (length text)) refl
  where
    by : (v : Bool) → nat_lt (position_or_len is_slash text) (length text) ≡ v → (import_of text ≡ None) ⊎ (first two_parts text ≡ Some 1)
    by true e =
        let a = around text e in
        import_around text a.front a.behind a.whole a.first_is (rw (e, a.front_is, a.behind_is) refl)
    by false e = inl (rw e refl)

import_by : (text path : List ℕ) → route_at Import path ≡ import_of text → route_by (first two_parts text) path ≡ import_of text
import_by text path at =
    elim (import_found text) [
      | inl none ↦ nothing (first two_parts text) (one_value (param_token ∷ 47 ∷ param_token ∷ []) 1 text) none
      | inr some ↦ ap (λ number. route_by number path) some ∙ at
    ]
  where
    nothing : (number : Option ℕ) → number ≡ map_key (λ _. 1) number → import_of text ≡ None → route_by number path ≡ import_of text
    nothing None only none = sym none
    nothing (Some number) only none = ap (λ found. route_by found path) only ∙ at

-- the paths that continue with each letter
at_hosts : (text : List ℕ) → route_by (first ((codes "osts/" ++ param_token ∷ [], 0) ∷ []) text) (47 ∷ 104 ∷ text) ≡ route_of (47 ∷ 104 ∷ text)
at_hosts text = rw (first-prefix (codes "osts/") ((param_token ∷ [], 0) ∷ []) text (is_text (codes "osts/") refl)) (by (starts_with nat_eq text (codes "osts/")) refl)
  where
    route : route_of (47 ∷ 104 ∷ text) ≡ (if starts_with nat_eq text (codes "osts/") then hosts_of (drop 5 text) else None)
    route = refl

    here : route_at Hosts (47 ∷ 104 ∷ text) ≡ (if starts_with nat_eq text (codes "osts/") then Some (hosts (drop 5 text)) else None)
    here = refl

    inner : (v : Bool) → route_at Hosts (47 ∷ 104 ∷ text) ≡ Some (hosts (drop 5 text))
        → route_by (if v then Some 0 else None) (47 ∷ 104 ∷ text) ≡ (if v then Some (hosts (drop 5 text)) else None)
    inner true e = e
    inner false e = refl

    by : (v : Bool) → starts_with nat_eq text (codes "osts/") ≡ v
        → route_by (cond v (first ((param_token ∷ [], 0) ∷ []) (drop 5 text)) None) (47 ∷ 104 ∷ text) ≡ route_of (47 ∷ 104 ∷ text)
    by true e = rw (route, e, seek-part 0 (drop 5 text)) (inner (is_part (drop 5 text)) (rw (here, e) refl))
    by false e = rw (route, e) refl

at_import : (text : List ℕ) → route_by (first ((codes "mport/" ++ param_token ∷ 47 ∷ param_token ∷ [], 1) ∷ []) text) (47 ∷ 105 ∷ text) ≡ route_of (47 ∷ 105 ∷ text)
at_import text = rw (first-prefix (codes "mport/") two_parts text (is_text (codes "mport/") refl)) (by (starts_with nat_eq text (codes "mport/")) refl)
  where
    route : route_of (47 ∷ 105 ∷ text) ≡ (if starts_with nat_eq text (codes "mport/") then import_of (drop 6 text) else None)
    route = refl

    here : route_at Import (47 ∷ 105 ∷ text) ≡ (if starts_with nat_eq text (codes "mport/") then import_of (drop 6 text) else None)
    here = refl

    by : (v : Bool) → starts_with nat_eq text (codes "mport/") ≡ v
        → route_by (cond v (first two_parts (drop 6 text)) None) (47 ∷ 105 ∷ text) ≡ route_of (47 ∷ 105 ∷ text)
    by true e = rw (route, e) (import_by (drop 6 text) (47 ∷ 105 ∷ text) (rw (here, e) refl))
    by false e = rw (route, e) refl

at_scheduler : (text : List ℕ) → route_by (first ((codes "cheduler", 2) ∷ []) text) (47 ∷ 115 ∷ text) ≡ route_of (47 ∷ 115 ∷ text)
at_scheduler text = rw (seek-literal (codes "cheduler") 2 text (is_text (codes "cheduler") refl), route) (by (bytes_eq text (codes "cheduler")))
  where
    route : route_of (47 ∷ 115 ∷ text) ≡ (if bytes_eq text (codes "cheduler") then Some scheduler else None)
    route = refl

    by : (v : Bool) → route_by (if v then Some 2 else None) (47 ∷ 115 ∷ text) ≡ (if v then Some scheduler else None)
    by true = refl
    by false = refl

at_tick : (text : List ℕ) → route_by (first ((codes "ick", 3) ∷ []) text) (47 ∷ 116 ∷ text) ≡ route_of (47 ∷ 116 ∷ text)
at_tick text = rw (seek-literal (codes "ick") 3 text (is_text (codes "ick") refl), route) (by (bytes_eq text (codes "ick")))
  where
    route : route_of (47 ∷ 116 ∷ text) ≡ (if bytes_eq text (codes "ick") then Some tick else None)
    route = refl

    by : (v : Bool) → route_by (if v then Some 3 else None) (47 ∷ 116 ∷ text) ≡ (if v then Some tick else None)
    by true = refl
    by false = refl

abbrev Agrees : Rows → List ℕ → List ℕ → Type 0
Agrees rows text path = route_by (first rows text) path ≡ route_of path

on_byte : (rows : Rows) (b : ℕ) (text path : List ℕ) → step param_token rows ≡ [] → step catch_all_token rows ≡ []
    → Agrees (step b rows) text path → Agrees rows (b ∷ text) path
on_byte rows b text path no_param no_rest agrees = ap (λ number. route_by number path) (seek-byte rows b text no_param no_rest) ∙ agrees

other_letter : (b : ℕ) (text : List ℕ) → (b == 104) ≡ false → (b == 105) ≡ false → (b == 115) ≡ false → (b == 116) ≡ false
    → Agrees behind_slash (b ∷ text) (47 ∷ b ∷ text)
other_letter b text h i s t =
    let h2 : (104 == b) ≡ false = grind (arith, nat_tests, h) in
    let i2 : (105 == b) ≡ false = grind (arith, nat_tests, i) in
    let s2 : (115 == b) ≡ false = grind (arith, nat_tests, s) in
    let t2 : (116 == b) ≡ false = grind (arith, nat_tests, t) in
    let none : step b behind_slash ≡ [] = rw (h2, i2, s2, t2) refl in
    let route : route_of (47 ∷ b ∷ text) ≡ None = rw (s, t, h2, i2) refl in
    on_byte behind_slash b text (47 ∷ b ∷ text) refl refl (rw (none, seek-empty 0 text, route) refl)

second : (text : List ℕ) → Agrees behind_slash text (47 ∷ text)
unfolding seek
second [] = refl
second (b ∷ text) = by (b == 104) refl (b == 105) refl (b == 115) refl (b == 116) refl
  where
    to : (c : ℕ) → (b == c) ≡ true → Agrees behind_slash (c ∷ text) (47 ∷ c ∷ text) → Agrees behind_slash (b ∷ text) (47 ∷ b ∷ text)
    to c e agrees = subst (λ d. Agrees behind_slash (d ∷ text) (47 ∷ d ∷ text)) (sym (is_same b c e)) agrees

    by : (h : Bool) → (b == 104) ≡ h → (i : Bool) → (b == 105) ≡ i → (s : Bool) → (b == 115) ≡ s → (t : Bool) → (b == 116) ≡ t
        → Agrees behind_slash (b ∷ text) (47 ∷ b ∷ text)
    by true h i hi s hs t ht = to 104 h (on_byte behind_slash 104 text (47 ∷ 104 ∷ text) refl refl (at_hosts text))
    by false h true hi s hs t ht = to 105 hi (on_byte behind_slash 105 text (47 ∷ 105 ∷ text) refl refl (at_import text))
    by false h false hi true hs t ht = to 115 hs (on_byte behind_slash 115 text (47 ∷ 115 ∷ text) refl refl (at_scheduler text))
    by false h false hi false hs true ht = to 116 ht (on_byte behind_slash 116 text (47 ∷ 116 ∷ text) refl refl (at_tick text))
    by false h false hi false hs false ht = other_letter b text h hi hs ht

agrees : (path : List ℕ) → Agrees numbered path path
unfolding seek
agrees [] = refl
agrees (b ∷ path) = by (b == 47) refl (second path)
  where
    by : (v : Bool) → (b == 47) ≡ v → Agrees behind_slash path (47 ∷ path) → Agrees numbered (b ∷ path) (b ∷ path)
    by true e later =
        subst (λ c. Agrees numbered (c ∷ path) (c ∷ path)) (sym (is_same b 47 e)) (on_byte numbered 47 path (47 ∷ path) refl refl later)
    by false e later =
        let f : (47 == b) ≡ false = grind (arith, nat_tests, e) in
        let none : step b numbered ≡ [] = rw f refl in
        let route : route_of (b ∷ path) ≡ None = rw (e, f) refl in
        on_byte numbered b path (b ∷ path) refl refl (rw (none, seek-empty 0 path, route) refl)

-- what the router finds for a path is the route that the path names
pub found_is_route : (path : List ℕ) → found_route path ≡ route_of path
found_is_route path = ap (λ route_kind. option_and_then (λ p. route_at p path) route_kind) (found_number path) ∙ agrees path
