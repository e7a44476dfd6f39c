-- Settlement makes a well world settled.
use Rattle.std.proofs.Common.{◌≡◌, ◌≢◌, ℕ, ◌≤◌, List, length, sym, refl, ap, ◌∙◌, subst, arith}
use Rattle.std.specs.Prelude.{map, is_some}
use Rattle.std.specs.List.{enumerate_from}
use Rattle.std.proofs.lemmas.List.{length-map}
use Rattle.sched_book.specs.Limits.{most_workunits}
use Rattle.sched_book.specs.Places.{nth}
use Rattle.sched_book.specs.Settle.{grown, with_grown, charges, merits, with_quota, settled}
use Rattle.sched_book.specs.Sound.{HaveOtherKeys, IsSoundHost, IsSettledUnit, IsSettled, IsWellUnit, IsWell}
use Rattle.sched_book.specs.declared.instance.UnitBook.{UnitBook}
use Rattle.sched_book.specs.declared.rows.HostRow.{HostRow}
use Rattle.sched_book.specs.declared.world.World.{World}
use Rattle.sched_book.proofs.PlacesOf.{is_some-option_map}
use Rattle.quorum_credit.proofs.Numbered.{length-numbered}
use Rattle.sched_machine.specs.Laws.{SettlementSettles}
use Rattle.sched_machine.proofs.Alike.Hosts.{account_settled}
use Rattle.sched_machine.proofs.Alike.Units.{row_grown}
use Rattle.sched_machine.proofs.Units.Alike.{all_alike, pairs_alike, alike_map, alike_numbered}
use Rattle.quorum_credit.proofs.NewQuotas.{quota_within}
use Rattle.sched_machine.proofs.Units.Grown.{HaveSameUsers, grown_settled}

module _ (old changed : World) (same : old.settings ≡ changed.settings) (well : IsWell changed) where
  abbrev quoted : ℕ × HostRow → HostRow
  quoted = with_quota old (with_grown changed)

  abbrev hosts_after : List HostRow
  hosts_after = map quoted (enumerate_from 1 changed.hosts)

  -- hosts keep their accounts and keys
  same_users : HaveSameUsers changed.hosts hosts_after
  same_users = record {
    account = account_settled old (with_grown changed) changed.hosts;
    stands = λ n.
        sym (is_some-option_map (λ (h : HostRow). h.account) (nth hosts_after n))
        ∙ ap is_some (account_settled old (with_grown changed) changed.hosts n)
        ∙ is_some-option_map (λ (h : HostRow). h.account) (nth changed.hosts n);
  }

  abbrev HasSameKey : HostRow → HostRow → Type 0
  HasSameKey h k = (k.account ≡ h.account) × (k.cpid ≡ h.cpid)

  other_keys : (h k x y : HostRow) → HasSameKey h x → HasSameKey k y → HaveOtherKeys h k → HaveOtherKeys x y
  other_keys h k x y first second apart = λ account cpid.
      apart (sym first.0 ∙ account ∙ second.0) (sym first.1 ∙ cpid ∙ second.1)

  -- hosts have quotas within the limit
  abbrev IsSoundNow : HostRow → Type 0
  IsSoundNow = IsSoundHost (length changed.accounts) changed.settings.daily_result_quota

  host_sound : (n : ℕ) (h : HostRow) → IsSoundNow h → IsSoundNow (quoted (n, h))
  host_sound n h sound =
      let limit : old.settings.daily_result_quota ≡ changed.settings.daily_result_quota = ap (λ s. s.daily_result_quota) same in
      let some : 1 ≤ changed.settings.daily_result_quota = well.rows.settings.quota.0 in
      let quota = quota_within old.settings.daily_result_quota h.quota (charges old (with_grown changed) n) (merits old (with_grown changed) n) (omega arith) in
      record {
        account = sound.account;
        limits = record {
          cpid = sound.limits.cpid;
          speed = sound.limits.speed;
          memory = sound.limits.memory;
          disk = sound.limits.disk;
          platforms = sound.limits.platforms;
          words = sound.limits.words;
          quota = (quota.0, subst (λ m. (quoted (n, h)).quota ≤ m) limit quota.1);
        };
      }

  -- all together
  settles : IsSettled (settled old changed)
  settles =
      let row : UnitBook → UnitBook → Type 0 = λ b c. c.unit ≡ b.unit in
      let whole : UnitBook → UnitBook → Type 0 = λ b c. IsWellUnit changed.hosts changed.apps b → IsSettledUnit hosts_after changed.apps c in
      let carried : HostRow → HostRow → Type 0 = λ h k. IsSoundNow h → IsSoundNow k in
      let units_after : List UnitBook = map (grown changed.apps) changed.units in
      let many_units : length units_after ≡ length changed.units = length-map changed.units (grown changed.apps) in
      let many_hosts : length hosts_after ≡ length changed.hosts = length-numbered quoted changed.hosts in
      record {
        rows = record {
          settings = well.rows.settings;
          accounts = well.rows.accounts;
          apps = well.rows.apps;
          versions = well.rows.versions;
          hosts = all_alike IsSoundNow IsSoundNow carried changed.hosts hosts_after
              (alike_numbered carried quoted changed.hosts host_sound) (λ h k carry sound. carry sound) well.rows.hosts;
          account_names = well.rows.account_names;
          app_names = well.rows.app_names;
          version_names = well.rows.version_names;
          unit_names = pairs_alike (λ a b. a.unit.name ≢ b.unit.name) (λ a b. a.unit.name ≢ b.unit.name) row changed.units units_after
              (alike_map row (grown changed.apps) changed.units (row_grown changed.apps))
              (λ x y a b first second apart equal. apart (sym (ap (λ u. u.name) first) ∙ equal ∙ ap (λ u. u.name) second))
              well.rows.unit_names;
          host_keys = pairs_alike HaveOtherKeys HaveOtherKeys HasSameKey changed.hosts hosts_after
              (alike_numbered HasSameKey quoted changed.hosts (λ n h. (refl, refl))) other_keys well.rows.host_keys;
          account_count = well.rows.account_count;
          app_count = well.rows.app_count;
          version_count = well.rows.version_count;
          unit_count = (let few : length changed.units ≤ most_workunits = well.rows.unit_count in omega arith);
          host_count = (let few : length changed.hosts ≤ changed.settings.max_hosts = well.rows.host_count in omega arith);
        };
        units = all_alike (IsWellUnit changed.hosts changed.apps) (IsSettledUnit hosts_after changed.apps) whole changed.units units_after
            (alike_map whole (grown changed.apps) changed.units (grown_settled changed.hosts hosts_after changed.apps same_users))
            (λ b c carry unit. carry unit) well.units;
      }

pub settlement_settles : SettlementSettles
settlement_settles old changed same well = settles old changed same well
