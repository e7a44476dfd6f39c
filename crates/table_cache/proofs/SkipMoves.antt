-- The skips of users move with what waits, with the jobs and with the hosts.
use Rattle.std.proofs.Common.{◌≡◌, ◌≢◌, ◌<◌, ◌+◌, ℕ, Bool, true, false, true≢false, cond, eqb, not, List, [], ◌∷◌, ◌++◌, length, get_or, set, length-set, get_or-set_other, Option, Some, None, refl, sym, subst, ap, ◌∙◌, inl, inr, arith}
use Rattle.std.specs.Prelude.{◌==◌, ◌⊎◌, All, find, nat_lt, position, slice_get, IfSome}
use Rattle.std.specs.List.{list_any, AllWithin}
use Rattle.std.proofs.lemmas.Bool.{and_from, and_parts, eq-eqb, eqb-true, not-true, or_parts}
use Rattle.std.proofs.lemmas.Bool.Decides.{nat_tests}
use Rattle.std.proofs.lemmas.List.Elements.{All-push, All-weaker, AllWithin-more_set}
use Rattle.std.proofs.lemmas.List.Folds.{list_any-append}
use Rattle.std.proofs.lemmas.List.Quantifiers.{position-Some}
use Rattle.std.proofs.lemmas.List.Sums.{fold-append}
use Rattle.std.proofs.lemmas.Option.{get_or_from_slice_get, same_Some}
use Rattle.sqlite.specs.Values.{or_null}
use Rattle.sqlite_keyed.proofs.SliceLemmas.{All-find}
use Rattle.sqlite_rules.proofs.ListLemmas.{has_found}
use Rattle.sched_book.specs.Places.{is_before, is_same}
use Rattle.sched_book.specs.declared.instance.Instance.{Instance}
use Rattle.sched_book.specs.declared.instance.Owner.{Owner}
use Rattle.sched_book.specs.declared.instance.Place.{Place}
use Rattle.table_desk.specs.Skips.{SkipPlaces, most_came, no_skip, covers, raised, with_came}
use Rattle.table_desk.specs.declared.hosts.CountedHost.{CountedHost}
use Rattle.sched_book.proofs.Recording.{is_same-true}
use Rattle.table_meaning.specs.Rows.{columns_of, whole}
use Rattle.table_meaning.specs.declared.rows.StoredHost.{StoredHost}
use Rattle.table_meaning.specs.declared.rows.StoredInstance.{StoredInstance}
use Rattle.table_meaning.specs.declared.rows.StoredRow.{StoredRow}
use Rattle.table_meaning.specs.declared.rows.StoredRow.TheVariants as stored
use Rattle.table_worlds.specs.ReadBack.{number_at, number_or_none, owner_in}
use Rattle.table_cache.specs.Carrying.{counted_of, job_of, with_host, with_hosts, with_job, with_jobs}
use Rattle.table_cache.specs.Covering.{with_wait, with_waits, AreSkipsFor, IsSkipFor, IsHadBefore, IsUserSkip, KeepsAccount, KeepsHost, WasGiven}
use Rattle.table_desk.specs.WaitingWindow.{with_wait_at}
use Rattle.table_cache.specs.declared.skips.Skips.{Skips}
use Rattle.table_cache.specs.declared.skips.UserSkip.{UserSkip}

-- ---- lists of which one element is changed, or that have one more

pub one_changed : {X : Type 0} (P Q : X → Type 0) (xs : List X) (i : ℕ) (old new : X) → i < length xs → (P (get_or xs i old) → Q new) → AllWithin Q xs 0 i → AllWithin P xs i (length xs)
    → AllWithin Q (set xs i new) 0 (i + 1) × AllWithin P (set xs i new) (i + 1) (length (set xs i new))
one_changed P Q xs i old new within moves before after = (
  AllWithin-more_set xs i new within Q before (moves (after i old (omega arith) within)),
  λ k d low high.
      let other : k ≢ i = omega arith in
      let inside : k < length xs = omega (arith, length-set xs i new) in
      subst P (sym (get_or-set_other xs i k new d other)) (after k d (omega arith) inside),
)

pub maybe_pushed : {X : Type 0} (P : X → Type 0) (xs ys : List X) (x : X) (b : Bool) → ys ≡ cond b (xs ++ x ∷ []) xs → All P xs → P x → All P ys
maybe_pushed P xs ys x true is all one = subst (All P) (sym is) (All-push P xs x all one)
maybe_pushed P xs ys x false is all one = subst (All P) (sym is) all

-- ---- what waits

module _ (waiting : ℕ → ℕ → Option Bool) (place : Place) where
  -- at another place, what waits is what waited
  other_waits : (b : Bool) (unit number : ℕ) → is_same (record { unit = unit; number = number }) place ≡ false → with_wait_at waiting place.unit place.number b unit number ≡ Some true → waiting unit number ≡ Some true
  other_waits b unit number apart = go (eqb place.unit unit) refl (eqb place.number number) refl
    where
      go : (c : Bool) → eqb place.unit unit ≡ c → (d : Bool) → eqb place.number number ≡ d → cond c (cond d (Some b) (waiting unit number)) (waiting unit number) ≡ Some true → waiting unit number ≡ Some true
      go true one true same is =
          let units : eqb unit place.unit ≡ true = eq-eqb unit place.unit (sym (eqb-true place.unit unit one)) in
          let numbers : eqb number place.number ≡ true = eq-eqb number place.number (sym (eqb-true place.number number same)) in
          absurd (true≢false (sym (and_from (eqb unit place.unit) (eqb number place.number) units numbers) ∙ apart))
      go true one false other is = is
      go false other d any is = is

  -- if nothing waits at the place, what waits is what waited
  still_waits : (unit number : ℕ) → with_wait_at waiting place.unit place.number false unit number ≡ Some true → waiting unit number ≡ Some true
  still_waits unit number = go (eqb place.unit unit) (eqb place.number number)
    where
      go : (c d : Bool) → cond c (cond d (Some false) (waiting unit number)) (waiting unit number) ≡ Some true → waiting unit number ≡ Some true
      go true true is = absurd cc
      go true false is = is
      go false d is = is

-- ---- one skip

not_least : (unit number : ℕ) → covers no_skip (record { unit = unit; number = number }) ≡ false
not_least unit number = grind (arith, nat_tests)

module _ (jobs : ℕ → ℕ → Option Instance) (hosts : ℕ → Option CountedHost) where
  -- a skip that covers nothing is anybody's
  pub none_covered : (waiting : ℕ → ℕ → Option Bool) (account : Option ℕ) (skip : SkipPlaces) → skip ≡ no_skip → IsSkipFor waiting jobs hosts account skip
  none_covered waiting None skip is = is
  none_covered waiting (Some account) skip is = λ unit number waits covered.
      absurd (true≢false (sym covered ∙ ap (λ (f : SkipPlaces). covers f (record { unit = unit; number = number })) is ∙ not_least unit number))

  module _ (waiting : ℕ → ℕ → Option Bool) (account : ℕ) where
    pub skip_raised : (place : Place) (skip : SkipPlaces) → IsHadBefore waiting jobs hosts account place → IsSkipFor waiting jobs hosts (Some account) skip → IsSkipFor waiting jobs hosts (Some account) (raised skip place)
    skip_raised place skip had is = one (is_before place skip.place)
      where
        one : (b : Bool) → IsSkipFor waiting jobs hosts (Some account) (cond b skip (record { place = place; came = [] }))
        one true = is
        one false = λ unit number waits covered. had unit number waits (and_parts _ _ covered).0

    module _ (place : Place) (skip : SkipPlaces) (is : IsSkipFor waiting jobs hosts (Some account) skip) where
      abbrev then : ℕ → ℕ → Option Bool
      then = with_wait_at waiting place.unit place.number true

      -- it lists the place
      listed : IsSkipFor then jobs hosts (Some account) (record { place = skip.place; came = skip.came ++ place ∷ [] })
      listed = λ unit number waits covered.
          let p : Place = record { unit = unit; number = number } in
          let parts = and_parts (is_before p skip.place) (not (list_any (is_same p) (skip.came ++ place ∷ []))) covered in
          let apart = or_parts (list_any (is_same p) skip.came) (list_any (is_same p) (place ∷ [])) (sym (list_any-append (is_same p) skip.came (place ∷ [])) ∙ not-true (list_any (is_same p) (skip.came ++ place ∷ [])) parts.1) in
          let other = (or_parts (is_same p place) false apart.1).0 in
          is unit number (other_waits waiting place true unit number other waits) (and_from (is_before p skip.place) (not (list_any (is_same p) skip.came)) parts.0 (ap not apart.0))

      -- it does not cover the place
      uncovered : covers skip place ≡ false → IsSkipFor then jobs hosts (Some account) skip
      uncovered free = λ unit number waits covered. is unit number (other_waits waiting place true unit number (apart unit number covered (is_same (record { unit = unit; number = number }) place) refl) waits) covered
        where
          apart : (unit number : ℕ) → covers skip (record { unit = unit; number = number }) ≡ true → (b : Bool) → is_same (record { unit = unit; number = number }) place ≡ b → is_same (record { unit = unit; number = number }) place ≡ false
          apart unit number covered false other = other
          apart unit number covered true same = absurd (true≢false (sym covered ∙ ap (covers skip) (is_same-true (record { unit = unit; number = number }) place same) ∙ free))

      came : IsSkipFor then jobs hosts (Some account) (with_came skip place)
      came = one (covers skip place) refl (nat_lt (length skip.came) most_came)
        where
          one : (b : Bool) → covers skip place ≡ b → (few : Bool) → IsSkipFor then jobs hosts (Some account) (cond b (cond few (record { place = skip.place; came = skip.came ++ place ∷ [] }) no_skip) skip)
          one true covered true = listed
          one true covered false = none_covered then (Some account) no_skip refl
          one false free few = uncovered free

      pub skip_came : (new : SkipPlaces) → (new ≡ with_came skip place) ⊎ (new ≡ no_skip) → IsSkipFor then jobs hosts (Some account) new
      skip_came new (inl listed) = subst (IsSkipFor then jobs hosts (Some account)) (sym listed) came
      skip_came new (inr none) = none_covered then (Some account) new none

-- ---- jobs that were given

-- the owner by the row of an instance
owner_put : (row : StoredInstance) (host : ℕ) → row.host_id ≡ Some host → (o : Owner) × ((job_of (stored.Instance row)).owner ≡ Some o) × (o.host ≡ host)
owner_put row host is = go row.host_id is
  where
    sent : ℕ
    sent = number_at (columns_of (stored.Instance row)) 3

    deadline : ℕ
    deadline = number_at (columns_of (stored.Instance row)) 4

    go : (h : Option ℕ) → h ≡ Some host → (o : Owner) × (owner_in (number_or_none (or_null whole h)) sent deadline ≡ Some o) × (o.host ≡ host)
    go None is = absurd cc
    go (Some h) is = (record { host = h; sent = sent; deadline = deadline }, refl, same_Some h host is)

module _ (jobs : ℕ → ℕ → Option Instance) (hosts : ℕ → Option CountedHost) (account unit : ℕ) (given : WasGiven jobs hosts account unit) where
  module _ (row : StoredInstance) (keeps : KeepsHost jobs row) where
    abbrev put : Instance
    put = job_of (stored.Instance row)

    given_still : WasGiven (with_job jobs (stored.Instance row)) hosts account unit
    given_still = go (eqb row.unit_id unit) refl (eqb row.num given.number) refl
      where
        then : (b c : Bool) → eqb row.unit_id unit ≡ b → eqb row.num given.number ≡ c
            → with_job jobs (stored.Instance row) unit given.number ≡ cond b (cond c (Some put) (jobs unit given.number)) (jobs unit given.number)
        then b c units numbers = λ i. cond (units i) (cond (numbers i) (Some put) (jobs unit given.number)) (jobs unit given.number)

        stays : with_job jobs (stored.Instance row) unit given.number ≡ jobs unit given.number → WasGiven (with_job jobs (stored.Instance row)) hosts account unit
        stays same = record {
          number = given.number;
          job = given.job;
          owner = given.owner;
          host = given.host;
          is_job = same ∙ given.is_job;
          is_owner = given.is_owner;
          is_host = given.is_host;
          is_account = given.is_account;
        }

        go : (b : Bool) → eqb row.unit_id unit ≡ b → (c : Bool) → eqb row.num given.number ≡ c → WasGiven (with_job jobs (stored.Instance row)) hosts account unit
        go true units true numbers =
            let there : jobs row.unit_id row.num ≡ Some given.job = (λ i. jobs (eqb-true row.unit_id unit units i) (eqb-true row.num given.number numbers i)) ∙ given.is_job in
            let owner = owner_put row given.owner.host (keeps given.job given.owner there given.is_owner) in
            record {
              number = given.number;
              job = put;
              owner = owner.0;
              host = given.host;
              is_job = then true true units numbers;
              is_owner = owner.1;
              is_host = ap hosts owner.2 ∙ given.is_host;
              is_account = given.is_account;
            }
        go true units false numbers = stays (then true false units numbers)
        go false units c numbers = stays (then false c units numbers)

  module _ (row : StoredHost) (keeps : KeepsAccount hosts row) where
    abbrev read : CountedHost
    read = counted_of (stored.Host row)

    given_to_same : WasGiven jobs (with_host hosts (stored.Host row)) account unit
    given_to_same = go (eqb row.id given.owner.host) refl
      where
        then : (b : Bool) → eqb row.id given.owner.host ≡ b → with_host hosts (stored.Host row) given.owner.host ≡ cond b (Some read) (hosts given.owner.host)
        then b is = λ i. cond (is i) (Some read) (hosts given.owner.host)

        go : (b : Bool) → eqb row.id given.owner.host ≡ b → WasGiven jobs (with_host hosts (stored.Host row)) account unit
        go true is = record {
          number = given.number;
          job = given.job;
          owner = given.owner;
          host = read;
          is_job = given.is_job;
          is_owner = given.is_owner;
          is_host = then true is;
          is_account = sym (keeps given.host (ap hosts (eqb-true row.id given.owner.host is) ∙ given.is_host)) ∙ given.is_account;
        }
        go false is = record {
          number = given.number;
          job = given.job;
          owner = given.owner;
          host = given.host;
          is_job = given.is_job;
          is_owner = given.is_owner;
          is_host = then false is ∙ given.is_host;
          is_account = given.is_account;
        }

-- ---- all skips

module _ (waiting : ℕ → ℕ → Option Bool) (jobs : ℕ → ℕ → Option Instance) (hosts : ℕ → Option CountedHost) where
  -- the one that is found is a skip of its user
  pub skip_of_user : (users : List UserSkip) (account : ℕ) (u : UserSkip) → find (λ (u : UserSkip). u.account == account) users ≡ Some u → All (IsUserSkip waiting jobs hosts) users → IsSkipFor waiting jobs hosts (Some account) u.skip
  skip_of_user users account u found all =
      let is = All-find (IsUserSkip waiting jobs hosts) (λ (u : UserSkip). u.account == account) users u all found in
      let passes = (has_found (λ (u : UserSkip). u.account == account) users u found).1 in
      subst (λ a. IsSkipFor waiting jobs hosts (Some a) u.skip) (eqb-true u.account account passes) is

  pub had_at : (users : List UserSkip) (account at : ℕ) (place : Place) → position (λ (u : UserSkip). u.account == account) users ≡ Some at → IsHadBefore waiting jobs hosts account place
      → IfSome (slice_get users at) (λ u. IsHadBefore waiting jobs hosts u.account place)
  had_at users account at place is had = go (slice_get users at) refl
    where
      go : (o : Option UserSkip) → slice_get users at ≡ o → IfSome o (λ u. IsHadBefore waiting jobs hosts u.account place)
      go None none = tt
      go (Some u) stands =
          let passes = (position-Some (λ (u : UserSkip). u.account == account) users at u is).1 in
          let one : eqb u.account account ≡ true = ap (λ (v : UserSkip). eqb v.account account) (sym (get_or_from_slice_get users at u u stands)) ∙ passes in
          subst (λ a. IsHadBefore waiting jobs hosts a place) (sym (eqb-true u.account account one)) had

  module _ (skips : Skips) (are : AreSkipsFor waiting jobs hosts skips) where
    -- with the job of a row
    pub jobs_followed : (row : StoredInstance) → KeepsHost jobs row → AreSkipsFor waiting (with_job jobs (stored.Instance row)) hosts skips
    jobs_followed row keeps = record {
      users = All-weaker (IsUserSkip waiting jobs hosts) (IsUserSkip waiting (with_job jobs (stored.Instance row)) hosts)
          (λ u is unit number waits covered. given_still jobs hosts u.account unit (is unit number waits covered) row keeps) skips.users.items are.users;
      nowhere = are.nowhere;
    }

    -- with the host of a row
    pub hosts_followed : (row : StoredHost) → KeepsAccount hosts row → AreSkipsFor waiting jobs (with_host hosts (stored.Host row)) skips
    hosts_followed row keeps = record {
      users = All-weaker (IsUserSkip waiting jobs hosts) (IsUserSkip waiting jobs (with_host hosts (stored.Host row)))
          (λ u is unit number waits covered. given_to_same jobs hosts u.account unit (is unit number waits covered) row keeps) skips.users.items are.users;
      nowhere = are.nowhere;
    }

    -- with a place at which nothing waits
    pub none_waits : (unit number : ℕ) → AreSkipsFor (with_wait_at waiting unit number false) jobs hosts skips
    none_waits unit number = record {
      users = All-weaker (IsUserSkip waiting jobs hosts) (IsUserSkip (with_wait_at waiting unit number false) jobs hosts)
          (λ u is other at waits covered. is other at (still_waits waiting (record { unit = unit; number = number }) other at waits) covered) skips.users.items are.users;
      nowhere = are.nowhere;
    }

  -- with one row more, after others
  pub skips_after : (rows : List StoredRow) (row : StoredRow) (skips : Skips) → AreSkipsFor (with_wait (with_waits waiting rows) row) (with_job (with_jobs jobs rows) row) (with_host (with_hosts hosts rows) row) skips
      → AreSkipsFor (with_waits waiting (rows ++ row ∷ [])) (with_jobs jobs (rows ++ row ∷ [])) (with_hosts hosts (rows ++ row ∷ [])) skips
  skips_after rows row skips are =
      subst (λ (ws : ℕ → ℕ → Option Bool). AreSkipsFor ws (with_jobs jobs (rows ++ row ∷ [])) (with_hosts hosts (rows ++ row ∷ [])) skips) (sym (fold-append with_wait waiting rows (row ∷ [])))
      (subst (λ (js : ℕ → ℕ → Option Instance). AreSkipsFor (with_wait (with_waits waiting rows) row) js (with_hosts hosts (rows ++ row ∷ [])) skips) (sym (fold-append with_job jobs rows (row ∷ [])))
      (subst (λ (hs : ℕ → Option CountedHost). AreSkipsFor (with_wait (with_waits waiting rows) row) (with_job (with_jobs jobs rows) row) hs skips) (sym (fold-append with_host hosts rows (row ∷ []))) are))
