-- Which user a host belongs to: the same at the call's entry, and after settlement.
use Rattle.std.proofs.Common.{◌≡◌, ℕ, ◌+◌, Bool, true, cond, List, length, Option, Some, None, refl, ap, ◌∙◌, sym}
use Rattle.std.specs.Prelude.{◌==◌, All, is_some, map, option_map, option_and_then, unwrap_or, IsTrue, IfSome}
use Rattle.std.specs.List.{list_any, enumerate_from}
use Rattle.std.proofs.lemmas.Bool.{eqb-true, eq-eqb}
use Rattle.sched_book.specs.Places.{nth, account_at, host_of, option_any, is_owned_by, is_of_user, is_host_of, known_host, host_at}
use Rattle.sched_book.specs.Settle.{with_quota, with_grown}
use Rattle.sched_book.specs.Sound.{HasOwnerAmong}
use Rattle.sched_book.specs.Step.{IsCaller, host_number, row_of_call, hosts_at_entry, after_lost, after_settlement, at_entry, host_at_entry, quota_of}
use Rattle.rpc_records.specs.declared.request.Request.{Request}
use Rattle.sched_book.specs.declared.instance.Instance.{Instance}
use Rattle.sched_book.specs.declared.instance.UnitBook.{UnitBook}
use Rattle.sched_book.specs.declared.machine.Caller.{Caller}
use Rattle.sched_book.specs.declared.rows.HostRow.{HostRow}
use Rattle.sched_book.specs.declared.world.World.{World}
use Rattle.sched_book.proofs.PlacesOf.{nth-push, nth-modify_nth}
use Rattle.sched_book.proofs.ByPlace.{nth-map_places}
use Rattle.sched_machine.proofs.Alike.Lists.{any_same, any_implied}
use Rattle.sched_machine.proofs.Alike.Units.{HasOne}
use Rattle.sched_machine.proofs.OptionParts.{any_by}
use Rattle.sched_machine.proofs.Rows.Entry.{same_account, accounts_at_entry}
use Rattle.sched_machine.proofs.Rows.Listed.{place_found}
use Rattle.sched_machine.proofs.Moves.Moves.{left_alone}

-- the account of a row
abbrev pub account_by : Option HostRow → Option ℕ
account_by o = option_map (λ (h : HostRow). h.account) o

-- the hosts as the call gives them
module _ (w : World) (c : Caller) (r : Request) (caller : IsCaller w c r) where
  pub row_at_entry : host_at (at_entry w c r) (host_number w c) ≡ Some (host_at_entry w c r)
  row_at_entry = cases c.host caller.host
    where
      cases : (o : Option ℕ) → known_host w c.account r.host.host_cpid ≡ o
          → nth (hosts_at_entry w c r o) (unwrap_or o (length w.hosts + 1)) ≡ Some (row_of_call c r (quota_of w o))
      cases None is =
          nth-push w.hosts (row_of_call c r w.settings.daily_result_quota) (length w.hosts + 1)
          ∙ ap (λ (b : Bool). cond b (Some (row_of_call c r w.settings.daily_result_quota)) (nth w.hosts (length w.hosts + 1)))
          (eq-eqb (length w.hosts + 1) (length w.hosts + 1) refl)
      cases (Some n) is =
          let there = place_found (is_host_of c.account r.host.host_cpid) w.hosts n is in
          let renew : HostRow → HostRow = λ h. row_of_call c r h.quota in
          nth-modify_nth renew w.hosts n n
          ∙ ap (λ (b : Bool). cond b (option_map renew (nth w.hosts n)) (nth w.hosts n)) (eq-eqb n n refl)
          ∙ ap (option_map renew) there.1
          ∙ ap (λ (o : Option HostRow). Some (row_of_call c r (unwrap_or (option_map (λ (h : HostRow). h.quota) o) w.settings.daily_result_quota))) (sym there.1)

  pub account_at_entry : account_at (hosts_at_entry w c r c.host) (host_number w c) ≡ Some c.account
  account_at_entry = ap account_by row_at_entry

  -- after settlement the caller's host has a new quota
  pub host_settled : (now : ℕ) → host_at (after_settlement w c r now) (host_number w c)
      ≡ Some (with_quota (at_entry w c r) (with_grown (after_lost w c r now)) (host_number w c, host_at_entry w c r))
  host_settled now =
      let quoted : ℕ × HostRow → HostRow = with_quota (at_entry w c r) (with_grown (after_lost w c r now)) in
      nth-map_places quoted (after_lost w c r now).hosts (host_number w c)
      ∙ ap (λ hosts. option_map (λ h. quoted (host_number w c, h)) (nth hosts (host_number w c))) (left_alone w c r now).hosts
      ∙ ap (option_map (λ h. quoted (host_number w c, h))) row_at_entry

  pub account_stays : (n : ℕ) → is_some (nth w.hosts n) ≡ true → account_at (hosts_at_entry w c r c.host) n ≡ account_at w.hosts n
  account_stays n stands = (same_account w.hosts (hosts_at_entry w c r c.host) (accounts_at_entry w c r caller) n stands).0

-- a new quota changes no account
pub account_settled : (old new : World) (hosts : List HostRow) (n : ℕ)
    → account_at (map (with_quota old new) (enumerate_from 1 hosts)) n ≡ account_at hosts n
account_settled old new hosts n = ap account_by (nth-map_places (with_quota old new) hosts n) ∙ cases (nth hosts n)
  where
    cases : (o : Option HostRow) → account_by (option_map (λ h. with_quota old new (n, h)) o) ≡ account_by o
    cases None = refl
    cases (Some h) = refl

-- two lists of hosts of the same users
pub same_user : (hosts others : List HostRow) (account : ℕ) (xs : List Instance)
    → ((n : ℕ) → is_some (nth hosts n) ≡ true → account_at others n ≡ account_at hosts n)
    → All (HasOwnerAmong hosts) xs → list_any (is_of_user others account) xs ≡ list_any (is_of_user hosts account) xs
same_user hosts others account xs same owners =
    any_same (HasOwnerAmong hosts) (is_of_user others account) (is_of_user hosts account) (λ x among. cases (host_of x) among) xs owners
  where
    cases : (o : Option ℕ) → IfSome o (λ host. IsTrue (is_some (nth hosts host)))
        → option_any (λ n. n == account) (option_and_then (account_at others) o) ≡ option_any (λ n. n == account) (option_and_then (account_at hosts) o)
    cases None among = refl
    cases (Some host) among = ap (option_any (λ n. n == account)) (same host among)

-- if the host was given an instance, its user was
pub user_has_one : (hosts : List HostRow) (host account : ℕ) (b : UnitBook) → account_at hosts host ≡ Some account → HasOne host b
    → list_any (is_of_user hosts account) b.instances ≡ true
user_has_one hosts host account b is has =
    any_implied (is_owned_by host) (is_of_user hosts account)
    (λ x owned.
    (let n = any_by (λ n. n == host) (host_of x) owned in
    ap (option_any (λ m. m == account)) (ap (option_and_then (account_at hosts)) n.1 ∙ ap (account_at hosts) (eqb-true n.0 host n.2) ∙ is)
    ∙ eq-eqb account account refl)) b.instances has
