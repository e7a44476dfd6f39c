-- The row of a call's host, renewed or made, keeps a sound world sound.
use Rattle.std.proofs.Common.{◌≡◌, ℕ, ◌+◌, ◌<◌, ◌≤◌, Bool, true, false, cond, eqb, eq-eqb, ne_eqb, eqb-true, List, [], ◌∷◌, ◌++◌, length, get_or, All, AllPairs, Option, Some, None, option_map, sym, refl, ap, ◌∙◌, subst, arith, length-append}
use Rattle.std.specs.Prelude.{◌&&◌, IsTrue, is_some, option_and_then, bytes_eq, IfSome}
use Rattle.std.proofs.lemmas.List.Elements.{All-push}
use Rattle.std.proofs.lemmas.List.Quantifiers.{all_pairs_push}
use Rattle.std.proofs.lemmas.Option.{slice_get-get_or}
use Rattle.std.proofs.lemmas.Slice.Eq.{bytes_eq-Decides}
use Rattle.std.proofs.lemmas.Bool.{and_parts}
use Rattle.rpc_records.specs.Ranges.{IsInRange}
use Rattle.rpc_records.specs.declared.request.Request.{Request}
use Rattle.sched_book.specs.Places.{nth, account_at, host_of, user_of, is_host_of, known_host}
use Rattle.sched_book.specs.Reports.{modify_nth}
use Rattle.sched_book.specs.Sound.{AreOfOtherUsers, HasOwnerAmong, IsSoundUnit, IsSoundHost, HaveOtherKeys, Sound}
use Rattle.sched_book.specs.Step.{IsCaller, row_of_call, hosts_at_entry}
use Rattle.sched_book.specs.declared.instance.Instance.{Instance}
use Rattle.sched_book.specs.declared.instance.UnitBook.{UnitBook}
use Rattle.sched_book.specs.declared.machine.Caller.{Caller}
use Rattle.sched_book.specs.declared.rows.Account.{Account}
use Rattle.sched_book.specs.declared.rows.App.{App}
use Rattle.sched_book.specs.declared.rows.HostRow.{HostRow}
use Rattle.sched_book.specs.declared.world.World.{World}
use Rattle.sched_book.proofs.PlacesOf.{nth-modify_nth, nth-push, length-modify_nth}
use Rattle.sched_book.proofs.ByPlace.{all_get}
use Rattle.quorum_credit.proofs.Numbered.{number_within}
use Rattle.sched_machine.specs.Laws.{EntryKeepsSound}
use Rattle.sched_machine.proofs.OptionParts.{some_by}
use Rattle.sched_machine.proofs.Rows.Listed.{pairs_from, pairs_get, all_changed_nth, pairs_changed_nth, place_found, place_missing}

-- each existing host keeps its account
abbrev pub AccountsStay : List HostRow → List HostRow → Type 0
AccountsStay old new = (n : ℕ) (h : HostRow) → nth old n ≡ Some h → (k : HostRow) × (nth new n ≡ Some k) × (k.account ≡ h.account)

-- then a sound workunit stays sound
module _ (old new : List HostRow) (stay : AccountsStay old new) where
  pub same_account : (host : ℕ) → IsTrue (is_some (nth old host)) → (account_at new host ≡ account_at old host) × IsTrue (is_some (nth new host))
  same_account host stands =
      let h = some_by (nth old host) stands in
      let after = stay host h.0 h.1 in (
        ap (option_map (λ (k : HostRow). k.account)) after.1 ∙ ap Some after.2 ∙ sym (ap (option_map (λ (k : HostRow). k.account)) h.1),
        ap is_some after.1,
      )

  -- so an instance belongs to the same user, and its owner's host exists
  same_user : (x : Instance) → HasOwnerAmong old x → (user_of new x ≡ user_of old x) × HasOwnerAmong new x
  same_user x among = cases (host_of x) among
    where
      cases : (o : Option ℕ) → IfSome o (λ host. IsTrue (is_some (nth old host)))
          → (option_and_then (account_at new) o ≡ option_and_then (account_at old) o) × IfSome o (λ host. IsTrue (is_some (nth new host)))
      cases None among = (refl, tt)
      cases (Some host) among = same_account host among

  pub unit_among : (apps : List App) (b : UnitBook) → IsSoundUnit old apps b → IsSoundUnit new apps b
  unit_among apps b sound = record {
    satisfied = sound.satisfied;
    classed = sound.classed;
    well = record {
      one_for_each_user = pairs_from (AreOfOtherUsers new) b.instances (λ i j x y less here there given also same.
          pairs_get (AreOfOtherUsers old) b.instances i j x y sound.well.one_for_each_user less here there given also
          (sym (same_user x (all_get (HasOwnerAmong old) b.instances i x sound.well.owners here)).0
          ∙ same
          ∙ (same_user y (all_get (HasOwnerAmong old) b.instances j y sound.well.owners there)).0));
      places = sound.well.places;
      in_range = sound.well.in_range;
      bare = sound.well.bare;
      owners = λ k d within. (same_user (get_or b.instances k d) (sound.well.owners k d within)).1;
      app = sound.well.app;
      few = sound.well.few;
      limits = sound.well.limits;
      instances = sound.well.instances;
    };
  }

-- other hosts in a sound world
pub with_hosts : (w : World) (hosts : List HostRow) → Sound w → AccountsStay w.hosts hosts
    → All (IsSoundHost (length w.accounts) w.settings.daily_result_quota) hosts → AllPairs HaveOtherKeys hosts → length hosts ≤ w.settings.max_hosts
    → Sound (record w { hosts = hosts })
with_hosts w hosts sound stay each keys few = record {
  rows = record {
    settings = sound.rows.settings;
    accounts = sound.rows.accounts;
    apps = sound.rows.apps;
    versions = sound.rows.versions;
    hosts = each;
    account_names = sound.rows.account_names;
    app_names = sound.rows.app_names;
    version_names = sound.rows.version_names;
    unit_names = sound.rows.unit_names;
    host_keys = keys;
    account_count = sound.rows.account_count;
    app_count = sound.rows.app_count;
    version_count = sound.rows.version_count;
    unit_count = sound.rows.unit_count;
    host_count = few;
  };
  units = λ k d within. unit_among w.hosts hosts stay w.apps (get_or w.units k d) (sound.units k d within);
}

-- the row of a key has its account and its name
of_key : (account : ℕ) (cpid : List ℕ) (h : HostRow) → is_host_of account cpid h ≡ true → (h.account ≡ account) × (h.cpid ≡ cpid)
of_key account cpid h is =
    let both = and_parts (eqb h.account account) (bytes_eq h.cpid cpid) is in
    (eqb-true h.account account both.0, (bytes_eq-Decides h.cpid cpid).0 both.1)

not_of_key : (account : ℕ) (cpid : List ℕ) (h : HostRow) → is_host_of account cpid h ≡ false → h.account ≡ account → h.cpid ≡ cpid → ⊥
not_of_key account cpid h fails same also =
    let first : eqb h.account account ≡ true = eq-eqb h.account account same in
    let second : bytes_eq h.cpid cpid ≡ true = (bytes_eq-Decides h.cpid cpid).1 also in
    let never : true ≡ false = sym second ∙ sym (ap (λ b. b && bytes_eq h.cpid cpid) first) ∙ fails in
    absurd cc

-- a new row of hosts, or a renewed one, changes no host's account
pub accounts_at_entry : (w : World) (c : Caller) (r : Request) → IsCaller w c r → AccountsStay w.hosts (hosts_at_entry w c r c.host)
accounts_at_entry w c r caller n h at = with_host c.host caller.host
  where
    with_host : (o : Option ℕ) → known_host w c.account r.host.host_cpid ≡ o
        → (k : HostRow) × (nth (hosts_at_entry w c r o) n ≡ Some k) × (k.account ≡ h.account)
    with_host None new =
        let low = number_within w.hosts n h at in
        let row : HostRow = row_of_call c r w.settings.daily_result_quota in (
          h,
          nth-push w.hosts row n
              ∙ ap (λ (b : Bool). cond b (Some row) (nth w.hosts n)) (ne_eqb (length w.hosts + 1) n (λ same. omega arith))
              ∙ at,
          refl,
        )
    with_host (Some host) known = cases (eqb host n) refl
      where
        renewed : HostRow → HostRow
        renewed k = row_of_call c r k.quota

        cases : (b : Bool) → eqb host n ≡ b → (k : HostRow) × (nth (modify_nth renewed w.hosts host) n ≡ Some k) × (k.account ≡ h.account)
        cases true equal =
            let found = place_found (is_host_of c.account r.host.host_cpid) w.hosts host known in
            let same : found.0 ≡ h = (let both : Some found.0 ≡ Some h = sym found.1 ∙ ap (nth w.hosts) (eqb-true host n equal) ∙ at in cc) in (
              renewed h,
              nth-modify_nth renewed w.hosts host n
                  ∙ ap (λ (b : Bool). cond b (option_map renewed (nth w.hosts n)) (nth w.hosts n)) equal
                  ∙ ap (option_map renewed) at,
              sym (of_key c.account r.host.host_cpid h (ap (is_host_of c.account r.host.host_cpid) (sym same) ∙ found.2)).0,
            )
        cases false other = (
          h,
          nth-modify_nth renewed w.hosts host n
              ∙ ap (λ (b : Bool). cond b (option_map renewed (nth w.hosts n)) (nth w.hosts n)) other
              ∙ at,
          refl,
        )

-- the row of the caller's host
module _ (w : World) (c : Caller) (r : Request) (sound : Sound w) (caller : IsCaller w c r) (limits : IsInRange r) where
  account_stands : (1 ≤ c.account) × (c.account ≤ length w.accounts)
  account_stands =
      let found = place_found (λ (a : Account). bytes_eq a.authenticator r.authenticator) w.accounts c.account caller.account in
      number_within w.accounts c.account found.0 found.1

  pub entry_is_sound : (quota : ℕ) → (1 ≤ quota) × (quota ≤ w.settings.daily_result_quota)
      → IsSoundHost (length w.accounts) w.settings.daily_result_quota (row_of_call c r quota)
  entry_is_sound quota within = record {
    account = account_stands;
    limits = record {
      cpid = limits.host.host_cpid;
      speed = (limits.host.some_fpops, limits.host.p_fpops);
      memory = limits.host.m_nbytes;
      disk = limits.host.d_free;
      platforms = (limits.some_platform, limits.platform_count);
      words = limits.platforms;
      quota = within;
    };
  }

  -- a known host's row is renewed
  abbrev renewed : HostRow → HostRow
  renewed h = row_of_call c r h.quota

  renews : (host : ℕ) → c.host ≡ Some host → Sound (record w { hosts = modify_nth (λ (h : HostRow). row_of_call c r h.quota) w.hosts host })
  renews host is =
      with_hosts w (modify_nth renewed w.hosts host) sound stay
      (all_changed_nth (IsSoundHost (length w.accounts) w.settings.daily_result_quota) renewed w.hosts host sound.rows.hosts (λ h at before. entry_is_sound h.quota before.limits.quota))
      (pairs_changed_nth HaveOtherKeys renewed w.hosts host sound.rows.host_keys (λ h at k.
      let key = here h at in (
        λ before same also. before (same ∙ sym key.0) (also ∙ sym key.1),
        λ before same also. before (key.0 ∙ same) (key.1 ∙ also),
      )))
      (subst (λ n. n ≤ w.settings.max_hosts) (sym (length-modify_nth renewed w.hosts host)) sound.rows.host_count)
    where
      here : (h : HostRow) → nth w.hosts host ≡ Some h → (h.account ≡ c.account) × (h.cpid ≡ r.host.host_cpid)
      here h at =
          let found = place_found (is_host_of c.account r.host.host_cpid) w.hosts host (caller.host ∙ is) in
          let same : found.0 ≡ h = (let both : Some found.0 ≡ Some h = sym found.1 ∙ at in cc) in
          of_key c.account r.host.host_cpid h (ap (is_host_of c.account r.host.host_cpid) (sym same) ∙ found.2)

      stay : AccountsStay w.hosts (modify_nth renewed w.hosts host)
      stay = subst (λ o. AccountsStay w.hosts (hosts_at_entry w c r o)) is (accounts_at_entry w c r caller)

  -- a new host gets a row after the others
  makes : c.host ≡ None → length w.hosts < w.settings.max_hosts → Sound (record w { hosts = w.hosts ++ row_of_call c r w.settings.daily_result_quota ∷ [] })
  makes none room =
      with_hosts w (w.hosts ++ row ∷ []) sound stay
      (All-push (IsSoundHost (length w.accounts) w.settings.daily_result_quota) w.hosts row sound.rows.hosts
      (entry_is_sound w.settings.daily_result_quota (sound.rows.settings.quota.0, let same : w.settings.daily_result_quota ≤ w.settings.daily_result_quota = omega arith in same)))
      (all_pairs_push HaveOtherKeys w.hosts row sound.rows.host_keys (λ k d within same also.
      not_of_key c.account r.host.host_cpid (get_or w.hosts k d)
      (place_missing (is_host_of c.account r.host.host_cpid) w.hosts (caller.host ∙ none) k (get_or w.hosts k d) (slice_get-get_or w.hosts k d within))
      same also))
      (let long : length (w.hosts ++ row ∷ []) ≡ length w.hosts + 1 = length-append w.hosts (row ∷ []) in omega arith)
    where
      row : HostRow
      row = row_of_call c r w.settings.daily_result_quota

      stay : AccountsStay w.hosts (w.hosts ++ row ∷ [])
      stay = subst (λ o. AccountsStay w.hosts (hosts_at_entry w c r o)) none (accounts_at_entry w c r caller)

pub entry_keeps_sound : EntryKeepsSound
entry_keeps_sound w c r sound caller room limits = cases c.host refl
  where
    cases : (o : Option ℕ) → c.host ≡ o → Sound (record w { hosts = hosts_at_entry w c r o })
    cases None is = makes w c r sound caller limits is (room is)
    cases (Some host) is = renews w c r sound caller limits host is
