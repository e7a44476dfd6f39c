-- What is still remembered after rows were put is what the world then has.
use Rattle.std.proofs.Common.{◌≡◌, ℕ, suc, ◌+◌, Bool, true, false, true≢false, cond, eqb, arith, option_map, length, List, [], ◌∷◌, ◌++◌, Option, Some, None, refl, sym, subst, ◌∙◌, inl, inr, ap}
use Rattle.std.specs.Prelude.{◌⊎◌, All, IfSome, fold, get_or, option_and_then, slice_get}
use Rattle.std.specs.Cmp.Lexicographic.{slice_cmp}
use Rattle.std.specs.Ordering.{nat_cmp}
use Rattle.std.specs.declared.cmp.Ordering.{Ordering}
use Rattle.std.proofs.lemmas.Bool.{eqb-true, eq-eqb}
use Rattle.std.proofs.lemmas.List.{append-nil, append_assoc}
use Rattle.std.proofs.lemmas.List.Elements.{All-nil}
use Rattle.std.proofs.lemmas.Option.{none-some}
use Rattle.sched_book.specs.Desk.{placed_where, workunit_at, instances_at}
use Rattle.sched_book.specs.Fits.{version_among, version_at}
use Rattle.sched_book.specs.Places.{nth}
use Rattle.std.specs.Str.{bytes_eq}
use Rattle.sched_book.specs.declared.instance.Instance.{Instance as Job}
use Rattle.sched_book.specs.declared.rows.Account.{Account}
use Rattle.sched_book.specs.declared.rows.App.{App}
use Rattle.sched_book.specs.declared.rows.HostRow.{HostRow}
use Rattle.sched_book.specs.declared.rows.Workunit.{Workunit}
use Rattle.sched_book.specs.declared.world.World.{World}
use Rattle.sched_book.proofs.ByPlace.{same_by_index}
use Rattle.table_desk.specs.Columns.{counted_host_at}
use Rattle.table_desk.specs.declared.hosts.CountedHost.{CountedHost}
use Rattle.table_meaning.specs.declared.rows.StoredInstance.{StoredInstance}
use Rattle.table_meaning.specs.declared.rows.StoredRow.{StoredRow}
use Rattle.table_meaning.specs.declared.rows.StoredRow.TheVariants as stored
use Rattle.table_meaning.specs.Rows.{RowKey, unit_key, host_key, instance_key, row_key_of}
use Rattle.table_meaning.specs.Worlds.{SlotCalls}
use Rattle.table_worlds.specs.Keys.{row_key, row_in}
use Rattle.table_worlds.specs.Readable.{IsReadable}
use Rattle.table_worlds.specs.declared.keys.WorldKey.{WorldKey}
use Rattle.table_worlds.specs.declared.keys.WorldKey.TheVariants as key
use Rattle.table_cache.specs.Carrying.{IsStillKnown, job_of, counted_of, with_host, with_hosts, with_job, with_jobs, shares, sent_among, AreCarried, AreOfHosts, AreOfJobs}
use Rattle.table_cache.specs.LastNumbers.{AreNoJobsPast, AreNonePast}
use Rattle.table_cache.specs.Leading.{IsOtherKey, IsUnput, IsPut}
use Rattle.table_cache.specs.Covering.{jobs_of, with_wait, with_waits, AreSkipsFor}
use Rattle.table_desk.specs.WaitingWindow.{waiting_of, IsWindowFor}
use Rattle.table_cache.specs.Holding.{holders_of, AreHeldOf, IsHeldOf}
use Rattle.table_cache.specs.Keys.{title_at, with_title, with_titles, AreKeysOf, AreNamesOf, IsFirstHost, IsFirstUnit}
use Rattle.table_cache.specs.Remembering.{IsAccountOf, IsVersionOf, IsSlotOf, IsCacheOf}
use Rattle.table_cache.specs.RowsRead.{HoldOfEach, AreSome}
use Rattle.table_cache.specs.declared.cache.Cache.{Cache}
use Rattle.table_cache.specs.declared.versions.VersionRead.{VersionRead}
use Rattle.table_cache.specs.declared.rows_read.RowsRead.{RowsRead}
use Rattle.table_cache.proofs.ToldByRows.{same_accounts, same_apps, same_versions, same_workunit, same_host, queued_of, title_of, host_told, job_told, title_told, waiting_told}
use Rattle.table_cache.proofs.CreditMoves.{credit_shared}
use Rattle.table_cache.proofs.HeldMoves.{they_are_held}
use Rattle.table_cache.proofs.KeyMoves.{first_host, host_of_first, first_unit, unit_of_first}
use Rattle.table_cache.proofs.SentMoves.{most_numbers, sent_shared}

-- ---- one row more

unput_more : (rows : List StoredRow) (r : StoredRow) (k : RowKey) → IsUnput rows k → IsOtherKey r k → IsUnput (rows ++ r ∷ []) k
unput_more [] r k unput other = (other, tt)
unput_more (x ∷ rows) r k unput other = (unput.0, unput_more rows r k unput.1 other)

put_before : (rows : List StoredRow) (r s : StoredRow) → IsPut rows s → IsPut (rows ++ r ∷ []) s
put_before [] r s put = absurd put
put_before (x ∷ rows) r s (inl one) = inl one
put_before (x ∷ rows) r s (inr later) = inr (put_before rows r s later)

put_last : (rows : List StoredRow) (r s : StoredRow) → s ≡ r → IsPut (rows ++ r ∷ []) s
put_last [] r s same = inl same
put_last (x ∷ rows) r s same = inr (put_last rows r s same)

some_of_some : {K T : Type 0} (cmp : K → K → Ordering) (One Two Both : K → Type 0) (old mid new : RowsRead K T)
    → ((k : K) → One k → Two k → Both k) → AreSome cmp One old mid → AreSome cmp Two mid new → AreSome cmp Both old new
some_of_some cmp One Two Both old mid new both one two = λ k row is.
    let later = two k row is in
    let earlier = one k row later.1 in (both k earlier.0 later.0, earlier.1)

module _ (rows : List StoredRow) (r : StoredRow) where
  known_on : {X : Type 0} (told : StoredRow → X) (k : RowKey) (old mid new : Option X) → IsStillKnown (IsUnput rows) (IsPut rows) told k old mid → IsStillKnown (IsOtherKey r) (λ s. s ≡ r) told k mid new
      → IsStillKnown (IsUnput (rows ++ r ∷ [])) (IsPut (rows ++ r ∷ [])) told k old new
  known_on told k old mid new one (inr (s, put, at, is)) = inr (s, put_last rows r s put, at, is)
  known_on told k old mid new (inl (unput, same)) (inl (other, is)) = inl (unput_more rows r k unput other, is ∙ same)
  known_on told k old mid new (inr (s, put, at, same)) (inl (other, is)) = inr (s, put_before rows r s put, at, is ∙ same)

  pub carried_more : (old mid new : Cache) → AreCarried (IsUnput rows) old mid → AreCarried (IsOtherKey r) mid new → AreCarried (IsUnput (rows ++ r ∷ [])) old new
  carried_more old mid new one two = record {
    units = some_of_some nat_cmp _ _ _ old.units.rows mid.units.rows new.units.rows
        (λ n a b. (unput_more rows r _ a.0 b.0, unput_more rows r _ a.1 b.1, λ id. unput_more rows r _ (a.2 id) (b.2 id))) one.units two.units;
    accounts = some_of_some (slice_cmp nat_cmp) _ _ _ old.accounts mid.accounts new.accounts (λ _ a b id. unput_more rows r _ (a id) (b id)) one.accounts two.accounts;
    versions = elim two.versions [
      | inl gone ↦ inl gone
      | inr later ↦ elim one.versions [
        | inl gone ↦ inl (later.0 ∙ gone)
        | inr earlier ↦ inr (
          later.0 ∙ earlier.0,
          λ id. (unput_more rows r _ (earlier.1 id).0 (later.1 id).0, unput_more rows r _ (earlier.1 id).1 (later.1 id).1, unput_more rows r _ (earlier.1 id).2 (later.1 id).2),
        )
      ]
    ];
  }

-- ---- what rows that are put tell of one key

-- it is what it was, if its row stays, and else what the row that is put tells
known_after : {X T : Type 0} (told : StoredRow → X) (k : RowKey) (put : T → StoredRow → T) (at : T → Option X) → ((r : StoredRow) (t : T) → IsStillKnown (IsOtherKey r) (λ s. s ≡ r) told k (at t) (at (put t r)))
    → (rows : List StoredRow) (first : T) → IsStillKnown (IsUnput rows) (IsPut rows) told k (at first) (at (fold put first rows))
known_after {X} {T} told k put at one rows first = go rows [] first (inl (tt, refl))
  where
    go : (left done : List StoredRow) (now : T) → IsStillKnown (IsUnput done) (IsPut done) told k (at first) (at now) → IsStillKnown (IsUnput (done ++ left)) (IsPut (done ++ left)) told k (at first) (at (fold put now left))
    go [] done now known = subst (λ rs. IsStillKnown (IsUnput rs) (IsPut rs) told k (at first) (at now)) (sym (append-nil done)) known
    go (r ∷ left) done now known =
        let then = known_on done r told k (at first) (at now) (at (put now r)) known (one r now) in
        subst (λ rs. IsStillKnown (IsUnput rs) (IsPut rs) told k (at first) (at (fold put now (r ∷ left)))) (append_assoc done (r ∷ []) left) (go left (done ++ r ∷ []) (put now r) then)

-- ---- hosts of rows that are put

-- the host of a number is the one that was there, if its row stays, or else that of a row that is put
number_of_host : RowKey → ℕ
number_of_host (host_key number) = number
number_of_host other = 0

one_host : (r : StoredRow) (hosts : ℕ → Option CountedHost) (number : ℕ) → IsStillKnown (IsOtherKey r) (λ s. s ≡ r) counted_of (host_key number) (hosts number) (with_host hosts r number)
unfolding number_of_host
one_host (stored.Host row) hosts number = cases (eqb row.id number) refl
  where
    cases : (b : Bool) → eqb row.id number ≡ b
        → IsStillKnown (IsOtherKey (stored.Host row)) (λ s. s ≡ stored.Host row) counted_of (host_key number) (hosts number) (cond b (Some (counted_of (stored.Host row))) (hosts number))
    cases true is = inr (stored.Host row, refl, ap host_key (eqb-true row.id number is), refl)
    cases false is = inl ((λ same. true≢false (sym (eq-eqb row.id number (ap number_of_host same)) ∙ is)), refl)
one_host _ hosts number = inl ((λ same. absurd cc), refl)

pub host_known : (rows : List StoredRow) (hosts : ℕ → Option CountedHost) (number : ℕ) → IsStillKnown (IsUnput rows) (IsPut rows) counted_of (host_key number) (hosts number) (with_hosts hosts rows number)
host_known rows hosts number = known_after counted_of (host_key number) with_host (λ (hs : ℕ → Option CountedHost). hs number) (λ r hs. one_host r hs number) rows hosts

-- what is known of a world's hosts and of the credit of their users is theirs
pub known_of_world : (w : World) (calls : SlotCalls) (r : Cache) → IsCacheOf w calls r → AreOfHosts (counted_host_at w) r.hosts
known_of_world w calls r known = record { each = known.hosts; end = suc (length w.hosts); credited = λ account credit is more. known.credits account credit is ∙ credit_shared w account more; none_past = known.last_host }

-- and so are the keys of hosts
pub keys_of_world : (w : World) (calls : SlotCalls) (r : Cache) → IsCacheOf w calls r → AreKeysOf (counted_host_at w) r.keys
keys_of_world w calls r known = record { each = λ cpid k is. first_host w k.account cpid k.host (known.keys cpid k is) }

-- ---- names of workunits of rows that are put

-- the same of the name of the workunit at a place
place_of_unit : RowKey → ℕ
place_of_unit (unit_key place) = place
place_of_unit other = 0

one_title : (r : StoredRow) (titles : ℕ → Option (List ℕ)) (place : ℕ) → IsStillKnown (IsOtherKey r) (λ s. s ≡ r) title_of (unit_key place) (titles place) (with_title titles r place)
unfolding place_of_unit
one_title (stored.Unit row) titles place = cases (eqb row.id place) refl
  where
    cases : (b : Bool) → eqb row.id place ≡ b
        → IsStillKnown (IsOtherKey (stored.Unit row)) (λ s. s ≡ stored.Unit row) title_of (unit_key place) (titles place) (cond b (Some row.name) (titles place))
    cases true is = inr (stored.Unit row, refl, ap unit_key (eqb-true row.id place is), refl)
    cases false is = inl ((λ same. true≢false (sym (eq-eqb row.id place (ap place_of_unit same)) ∙ is)), refl)
one_title _ titles place = inl ((λ same. absurd cc), refl)

pub title_known : (rows : List StoredRow) (titles : ℕ → Option (List ℕ)) (place : ℕ) → IsStillKnown (IsUnput rows) (IsPut rows) title_of (unit_key place) (titles place) (with_titles titles rows place)
title_known rows titles place = known_after title_of (unit_key place) with_title (λ (ts : ℕ → Option (List ℕ)). ts place) (λ r ts. one_title r ts place) rows titles

-- what is known of a world's workunits and of their names is theirs
pub names_of_world : (w : World) (calls : SlotCalls) (r : Cache) → IsCacheOf w calls r → AreNamesOf (title_at w) r.units
names_of_world w calls r known = record {
  each = λ n u is. ap (option_map (λ (u : Workunit). u.name)) (known.units n u is);
  first = λ name n is. first_unit w name n (known.names name n is);
  none_past = untitled r.units.last known.last_unit;
}
  where
    untitled : (last : Option ℕ) → IfSome last (AreNonePast (workunit_at w)) → IfSome last (AreNonePast (title_at w))
    untitled None none = tt
    untitled (Some last) none = λ n past. ap (option_map (λ (u : Workunit). u.name)) (none n past)

-- ---- instances of rows that are put

-- the same of the instance of a workunit and a number
unit_of_job : RowKey → ℕ
unit_of_job (instance_key unit number) = unit
unit_of_job other = 0

number_of_job : RowKey → ℕ
number_of_job (instance_key unit number) = number
number_of_job other = 0

one_instance : {X : Type 0} (told : StoredRow → X) (row : StoredInstance) (known : ℕ → ℕ → Option X) (unit number : ℕ)
    → IsStillKnown (IsOtherKey (stored.Instance row)) (λ s. s ≡ stored.Instance row) told (instance_key unit number) (known unit number)
    (cond (eqb row.unit_id unit) (cond (eqb row.num number) (Some (told (stored.Instance row))) (known unit number)) (known unit number))
unfolding unit_of_job number_of_job
one_instance told row known unit number = cases (eqb row.unit_id unit) refl (eqb row.num number) refl
  where
    cases : (b : Bool) → eqb row.unit_id unit ≡ b → (c : Bool) → eqb row.num number ≡ c
        → IsStillKnown (IsOtherKey (stored.Instance row)) (λ s. s ≡ stored.Instance row) told (instance_key unit number) (known unit number) (cond b (cond c (Some (told (stored.Instance row))) (known unit number)) (known unit number))
    cases true unit_is true number_is = inr (stored.Instance row, refl, (λ i. instance_key (eqb-true row.unit_id unit unit_is i) (eqb-true row.num number number_is i)), refl)
    cases true unit_is false number_is = inl ((λ same. true≢false (sym (eq-eqb row.num number (ap number_of_job same)) ∙ number_is)), refl)
    cases false unit_is c number_is = inl ((λ same. true≢false (sym (eq-eqb row.unit_id unit (ap unit_of_job same)) ∙ unit_is)), refl)

one_job : (r : StoredRow) (jobs : ℕ → ℕ → Option Job) (unit number : ℕ) → IsStillKnown (IsOtherKey r) (λ s. s ≡ r) job_of (instance_key unit number) (jobs unit number) (with_job jobs r unit number)
one_job (stored.Instance row) jobs unit number = one_instance job_of row jobs unit number
one_job _ jobs unit number = inl ((λ same. absurd cc), refl)

pub job_known : (rows : List StoredRow) (jobs : ℕ → ℕ → Option Job) (unit number : ℕ) → IsStillKnown (IsUnput rows) (IsPut rows) job_of (instance_key unit number) (jobs unit number) (with_jobs jobs rows unit number)
job_known rows jobs unit number = known_after job_of (instance_key unit number) with_job (λ (js : ℕ → ℕ → Option Job). js unit number) (λ r js. one_job r js unit number) rows jobs

-- the same of whether it waits
one_wait : (r : StoredRow) (waiting : ℕ → ℕ → Option Bool) (unit number : ℕ) → IsStillKnown (IsOtherKey r) (λ s. s ≡ r) queued_of (instance_key unit number) (waiting unit number) (with_wait waiting r unit number)
one_wait (stored.Instance row) waiting unit number = one_instance queued_of row waiting unit number
one_wait _ waiting unit number = inl ((λ same. absurd cc), refl)

pub wait_known : (rows : List StoredRow) (waiting : ℕ → ℕ → Option Bool) (unit number : ℕ) → IsStillKnown (IsUnput rows) (IsPut rows) queued_of (instance_key unit number) (waiting unit number) (with_waits waiting rows unit number)
wait_known rows waiting unit number = known_after queued_of (instance_key unit number) with_wait (λ (ws : ℕ → ℕ → Option Bool). ws unit number) (λ r ws. one_wait r ws unit number) rows waiting

-- what is known of a world's instances and of how many its hosts were sent is theirs
pub jobs_of_world : (w : World) (calls : SlotCalls) (r : Cache) → IsCacheOf w calls r → AreOfJobs (jobs_of w) r.jobs
jobs_of_world w calls r known = record {
  each = λ unit xs is number. ap (λ (ys : List Job). slice_get ys number) (known.instances unit xs is);
  units = suc (length w.units);
  numbers = most_numbers w.units;
  counted = λ host s is more further. known.sent host s is ∙ sent_shared w host s.day more further;
  none_past = known.last_jobs;
}

-- ---- what is carried is the world's after

holds_of_some : {K T : Type 0} (cmp : K → K → Ordering) (Of : K → Type 0) (Before After : K → T → Type 0) (old new : RowsRead K T)
    → AreSome cmp Of old new → HoldOfEach cmp Before old → ((k : K) (row : T) → Of k → Before k row → After k row) → HoldOfEach cmp After new
holds_of_some cmp Of Before After old new some before carry = λ k row is.
    let was = some k row is in carry k row was.0 (before k row was.1)

module _ (w w' : World) (readable : IsReadable w) (readable' : IsReadable w') (Stays : RowKey → Type 0) (stay : (k : WorldKey) → Stays (row_key k) → row_in w k ≡ row_in w' k)
    (Puts : StoredRow → Type 0) (put : (r : StoredRow) (k : WorldKey) → Puts r → row_key_of r ≡ row_key k → row_in w' k ≡ Some r)
    (hosts : ℕ → Option CountedHost) (known : (n : ℕ) → IsStillKnown Stays Puts counted_of (host_key n) (counted_host_at w n) (hosts n))
    (jobs : ℕ → ℕ → Option Job) (jobs_known : (n num : ℕ) → IsStillKnown Stays Puts job_of (instance_key n num) (jobs_of w n num) (jobs n num))
    (waiting : ℕ → ℕ → Option Bool) (waits_known : (n num : ℕ) → IsStillKnown Stays Puts queued_of (instance_key n num) (waiting_of w n num) (waiting n num))
    (titles : ℕ → Option (List ℕ)) (titles_known : (n : ℕ) → IsStillKnown Stays Puts title_of (unit_key n) (title_at w n) (titles n))
    (calls calls' : SlotCalls) (old new : Cache) (of_hosts : AreOfHosts hosts new.hosts) (of_jobs : AreOfJobs jobs new.jobs) (of_skips : AreSkipsFor waiting jobs hosts new.skips) (of_window : IfSome new.window (IsWindowFor waiting)) (of_held : AreHeldOf (holders_of jobs) new.held)
    (of_keys : AreKeysOf hosts new.keys) (of_names : AreNamesOf titles new.units) (left : AreCarried Stays old new) (none : new.slot ≡ None) (before : IsCacheOf w calls old) where
  apps_stay : ((id : ℕ) → Stays (row_key (key.App id))) → w.apps ≡ w'.apps
  apps_stay unput = same_apps w w' readable readable' (λ n. stay (key.App n) (unput n))

  versions_stay : ((id : ℕ) → Stays (row_key (key.App id)) × Stays (row_key (key.Version id)) × Stays (row_key (key.Class id))) → (h : HostRow) (app : ℕ) → version_at w h app ≡ version_at w' h app
  versions_stay unput h app =
      let apps = apps_stay (λ n. (unput n).0) in
      let versions = same_versions w w' readable readable' apps (λ n. stay (key.Version n) (unput n).1) (λ n. stay (key.Class n) (unput n).2) in
      λ i. option_and_then (λ (a : App). version_among (versions i) a.name h.platforms) (nth (apps i) app)

  versions_left : (olds news : List VersionRead)
      → (news ≡ []) ⊎ ((news ≡ olds) × ((id : ℕ) → Stays (row_key (key.App id)) × Stays (row_key (key.Version id)) × Stays (row_key (key.Class id))))
      → All (IsVersionOf w) olds → All (IsVersionOf w') news
  versions_left olds news (inl gone) all = subst (All (IsVersionOf w')) (sym gone) (All-nil _)
  versions_left olds news (inr (same, unput)) all =
      subst (All (IsVersionOf w')) (sym same) (λ at v within h platforms. sym (versions_stay unput h (get_or olds at v).app) ∙ all at v within h platforms)

  jobs_then : (n num : ℕ) → jobs n num ≡ jobs_of w' n num
  jobs_then n num = elim (jobs_known n num) [
    | inl still ↦ still.1 ∙ job_told w readable n num ∙ ap (option_map job_of) (stay (key.Instance (record { unit = n; number = num })) still.0) ∙ sym (job_told w' readable' n num)
    | inr told ↦ told.3 ∙ sym (ap (option_map job_of) (put told.0 (key.Instance (record { unit = n; number = num })) told.1 told.2)) ∙ sym (job_told w' readable' n num)
  ]

  waits_then : (n num : ℕ) → waiting n num ≡ waiting_of w' n num
  waits_then n num = elim (waits_known n num) [
    | inl still ↦ still.1 ∙ waiting_told w n num ∙ ap (option_map queued_of) (stay (key.Instance (record { unit = n; number = num })) still.0) ∙ sym (waiting_told w' n num)
    | inr told ↦ told.3 ∙ sym (ap (option_map queued_of) (put told.0 (key.Instance (record { unit = n; number = num })) told.1 told.2)) ∙ sym (waiting_told w' n num)
  ]

  are_then : (n : ℕ) → hosts n ≡ counted_host_at w' n
  are_then n = elim (known n) [
    | inl still ↦ still.1 ∙ same_host w w' readable readable' n (stay (key.Host n) still.0)
    | inr told ↦ told.3 ∙ sym (ap (option_map counted_of) (put told.0 (key.Host n) told.1 told.2)) ∙ sym (host_told w' readable' n)
  ]

  titles_then : (n : ℕ) → titles n ≡ title_at w' n
  titles_then n = elim (titles_known n) [
    | inl still ↦ still.1 ∙ title_told w n ∙ ap (option_map title_of) (stay (key.Unit n) still.0) ∙ sym (title_told w' n)
    | inr told ↦ told.3 ∙ sym (ap (option_map title_of) (put told.0 (key.Unit n) told.1 told.2)) ∙ sym (title_told w' n)
  ]

  no_units : (last : Option ℕ) → IfSome last (AreNonePast titles) → IfSome last (AreNonePast (workunit_at w'))
  no_units None none = tt
  no_units (Some last) none = λ n past. untold (workunit_at w' n) (sym (titles_then n) ∙ none n past)
    where
      untold : (o : Option Workunit) → option_map (λ (u : Workunit). u.name) o ≡ None → o ≡ None
      untold None is = refl
      untold (Some u) is = absurd (none-some u.name (sym is))

  pub remembered_then : IsCacheOf w' calls' new
  remembered_then = record {
    units = holds_of_some nat_cmp _ (λ n u. workunit_at w n ≡ Some u) (λ n u. workunit_at w' n ≡ Some u) old.units.rows new.units.rows left.units before.units
        (λ n u unput is. sym (same_workunit w w' readable readable' n (apps_stay unput.2) (stay (key.Unit n) unput.0) (stay (key.Mark n) unput.1)) ∙ is);
    instances = λ n xs is. same_by_index xs (instances_at w' n) (λ num. of_jobs.each n xs is num ∙ jobs_then n num);
    hosts = λ n h is. sym (are_then n) ∙ of_hosts.each n h is;
    credits = λ account credit is.
        let until : suc (length w'.hosts) + of_hosts.end ≡ of_hosts.end + suc (length w'.hosts) = omega arith in
        of_hosts.credited account credit is (suc (length w'.hosts)) ∙ ap (shares hosts account) (sym until)
        ∙ (λ i. shares (λ n. are_then n i) account (suc (length w'.hosts) + of_hosts.end)) ∙ sym (credit_shared w' account of_hosts.end);
    last_host = subst (λ (hs : ℕ → Option CountedHost). IfSome new.hosts.last (AreNonePast hs)) (λ i n. are_then n i) of_hosts.none_past;
    sent = λ host s is.
        let units : suc (length w'.units) + of_jobs.units ≡ of_jobs.units + suc (length w'.units) = omega arith in
        let numbers : most_numbers w'.units + of_jobs.numbers ≡ of_jobs.numbers + most_numbers w'.units = omega arith in
        of_jobs.counted host s is (suc (length w'.units)) (most_numbers w'.units) ∙ (λ i. sent_among jobs host s.day (sym units i) (sym numbers i))
        ∙ (λ i. sent_among (λ n num. jobs_then n num i) host s.day (suc (length w'.units) + of_jobs.units) (most_numbers w'.units + of_jobs.numbers)) ∙ sym (sent_shared w' host s.day of_jobs.units of_jobs.numbers);
    held = λ host places is. they_are_held w' host places (subst (λ (js : ℕ → ℕ → Option Job). IsHeldOf (holders_of js) host places) (λ i n num. jobs_then n num i) (of_held host places is));
    accounts = holds_of_some (slice_cmp nat_cmp) _ (IsAccountOf w) (IsAccountOf w') old.accounts new.accounts left.accounts before.accounts
        (λ name a unput is. subst (λ (accounts : List Account). placed_where (λ (a : Account). bytes_eq a.authenticator name) accounts ≡ Some (record { place = a.place; row = a.row })) (same_accounts w w' readable readable' (λ n. stay (key.Account n) (unput n))) is);
    keys = λ cpid k is. host_of_first w' k.account cpid k.host (subst (λ (hs : ℕ → Option CountedHost). IsFirstHost hs k.account cpid k.host) (λ i n. are_then n i) (of_keys.each cpid k is));
    names = λ name n is. unit_of_first w' name n (subst (λ (ts : ℕ → Option (List ℕ)). IsFirstUnit ts name n) (λ i m. titles_then m i) (of_names.first name n is));
    last_unit = no_units new.units.last of_names.none_past;
    last_jobs = subst (λ (js : ℕ → ℕ → Option Job). IfSome new.jobs.last (AreNoJobsPast js)) (λ i n num. jobs_then n num i) of_jobs.none_past;
    versions = versions_left old.versions.items new.versions.items left.versions before.versions;
    slot = subst (λ o. IfSome o (IsSlotOf calls')) (sym none) tt;
    window = subst (λ (ws : ℕ → ℕ → Option Bool). IfSome new.window (IsWindowFor ws)) (λ i n num. waits_then n num i) of_window;
    skips =
        subst (λ (ws : ℕ → ℕ → Option Bool). AreSkipsFor ws (jobs_of w') (counted_host_at w') new.skips) (λ i n num. waits_then n num i)
        (subst (λ (js : ℕ → ℕ → Option Job). AreSkipsFor waiting js (counted_host_at w') new.skips) (λ i n num. jobs_then n num i)
        (subst (λ (hs : ℕ → Option CountedHost). AreSkipsFor waiting jobs hs new.skips) (λ i n. are_then n i) of_skips));
  }
