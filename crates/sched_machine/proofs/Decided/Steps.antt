-- What a step does to the workunits and the hosts of a sound world.
use Rattle.std.proofs.Common.{◌≡◌, ℕ, ◌≤◌, Bool, List, ◌++◌, length, Option, Some, None, sym, refl, ap, ◌∙◌, subst, arith}
use Rattle.std.specs.Prelude.{IsTrue, map, count_by, option_map, option_and_then, unwrap_or, IfSome}
use Rattle.std.specs.List.{enumerate_from}
use Rattle.rpc_records.specs.declared.reply.Reply.{Reply}
use Rattle.rpc_records.specs.declared.request.Request.{Request}
use Rattle.sched_book.specs.Count.{is_judged, has_failed, report_place, reported_place}
use Rattle.sched_book.specs.Imports.{has_app, new_unit, with_rows}
use Rattle.sched_book.specs.Places.{nth, agreement_by, book_status, status_at}
use Rattle.sched_book.specs.Settle.{grown, with_grown, with_quota, settled}
use Rattle.sched_book.specs.Sound.{IsSoundUnit, Sound}
use Rattle.sched_book.specs.Step.{IsCaller, RpcStep, TickStep, Step, at_entry, after_lost, after_settlement, host_number, host_at_entry, asking_of, lapsed, granted, after_grant}
use Rattle.sched_book.specs.declared.instance.Instance.{Instance}
use Rattle.sched_book.specs.declared.instance.Outcome.{Outcome}
use Rattle.sched_book.specs.declared.instance.UnitBook.{UnitBook}
use Rattle.sched_book.specs.declared.machine.Answered.{Answered}
use Rattle.sched_book.specs.declared.machine.Call.{Call}
use Rattle.sched_book.specs.declared.machine.Call.TheVariants as call
use Rattle.sched_book.specs.declared.machine.Caller.{Caller}
use Rattle.sched_book.specs.declared.rows.App.{App}
use Rattle.sched_book.specs.declared.rows.HostRow.{HostRow}
use Rattle.sched_book.specs.declared.rows.Rows.{Rows}
use Rattle.sched_book.specs.declared.rows.Rows.TheVariants as rows
use Rattle.sched_book.specs.declared.world.World.{World}
use Rattle.sched_book.proofs.PlaceChanges.{grants_are_by_place, lapses_are_by_place}
use Rattle.sched_book.proofs.PlacesOf.{nth-front}
use Rattle.sched_book.proofs.ByPlace.{all_get, all_nth, nth-map_places}
use Rattle.sched_machine.proofs.Classes.Left.{classed_like, plain_same}
use Rattle.sched_machine.specs.Classes.{as_imported, ChangesClassesAlone}
use Rattle.sched_machine.proofs.Decided.Good.{AllBecame}
use Rattle.sched_machine.proofs.Rows.Entry.{AccountsStay, accounts_at_entry}
use Rattle.sched_machine.proofs.Rows.Named.{agreement_stays}
use Rattle.sched_machine.proofs.Moves.Cases.{by_call}
use Rattle.sched_machine.proofs.Moves.Moves.{judged_at, granted_lasts, lapses_last, left_alone, left_lasts}
use Rattle.sched_machine.proofs.Decided.Changes.{UnitBecameAt, UnitsBecame, Extends, IsInRange, goes_given, goes_on, goes_self, units_on, units_same, units_grown}

-- A world and what it became: its workunits, the accounts of its hosts, and how outputs are compared.
pub record WorldBecame (w v : World) : Type 0 where
  pub units : UnitsBecame w.apps w.units v.units
  pub hosts : AccountsStay w.hosts v.hosts
  pub agreements : (name : List ℕ) → IsTrue (has_app w.apps name) → agreement_by v.apps name ≡ agreement_by w.apps name

-- in a sound world the places of judged successes are in range
pub in_range : (w : World) → Sound w → (k : ℕ) (b : UnitBook) → nth w.units k ≡ Some b → IsInRange b
in_range w sound k b stands i x there is =
    told x.report
    (all_get (λ (y : Instance). IfSome (report_place y) (λ place. place ≤ count_by is_judged b.instances)) b.instances i x
    (all_nth (IsSoundUnit w.hosts w.apps) w.units k b sound.units stands).well.in_range there)
  where
    placed : (o : Option ℕ) → IfSome o (λ place. place ≤ count_by is_judged b.instances) → unwrap_or o 0 ≤ count_by is_judged b.instances
    placed None low = omega arith
    placed (Some place) low = low

    told : (o : Option Outcome) → IfSome (option_and_then (λ (t : Outcome). t.place) o) (λ place. place ≤ count_by is_judged b.instances)
        → reported_place o ≤ count_by is_judged b.instances
    told None low = omega arith
    told (Some t) low = placed t.place low

-- hosts keep their accounts
accounts_same : (hosts : List HostRow) → AccountsStay hosts hosts
accounts_same hosts n h stands = (h, stands, refl)

pub accounts_then : (hosts others last : List HostRow) → AccountsStay hosts others → AccountsStay others last → AccountsStay hosts last
accounts_then hosts others last first second n h stands =
    let one = first n h stands in
    let two = second n one.0 one.1 in
    (two.0, two.1, two.2 ∙ one.2)

pub accounts_settled : (old new : World) (hosts : List HostRow) → AccountsStay hosts (map (with_quota old new) (enumerate_from 1 hosts))
accounts_settled old new hosts n h stands =
    (with_quota old new (n, h), nth-map_places (with_quota old new) hosts n ∙ ap (option_map (λ k. with_quota old new (n, k))) stands, refl)

-- after workunits took classes
became_like : (w v u : World) → ChangesClassesAlone v u → WorldBecame w v → WorldBecame w u
became_like w v u like became = record {
  units = λ k. cases (nth w.units k) (nth v.units k) (nth u.units k) (plain_same v u like k) (became.units k);
  hosts = subst (AccountsStay w.hosts) (sym (ap (λ (z : World). z.hosts) like.rest)) became.hosts;
  agreements = λ name known. ap (λ (z : World). agreement_by z.apps name) like.rest ∙ became.agreements name known;
}
  where
    cases : (p o q : Option UnitBook) → option_map as_imported q ≡ option_map as_imported o → UnitBecameAt w.apps p o → UnitBecameAt w.apps p q
    cases None o q alike was = tt
    cases (Some b) None q alike was = absurd was
    cases (Some b) (Some c) None alike was = absurd cc
    cases (Some b) (Some c) (Some d) alike was =
        let same : as_imported c ≡ as_imported d = cc in
        record {
          row = ap (λ (z : UnitBook). z.unit) (sym same) ∙ was.row;
          became = subst (λ (z : UnitBook). AllBecame (count_by is_judged b.instances) (has_failed (book_status w.apps b)) b.instances z.instances) same was.became;
          many = λ failed. ap (λ (z : UnitBook). length z.instances) (sym same) ∙ was.many failed;
        }

-- a call
module _ (w : World) (c : Caller) (r : Request) (now : ℕ) (sound : Sound w) (caller : IsCaller w c r) where
  abbrev left : World
  left = after_lost w c r now

  units_left : UnitsBecame w.apps w.units left.units
  units_left =
      units_on w w left (units_same w.apps w.units) (left_alone w c r now).units
      (λ p. left_lasts (Extends (judged_at w p.unit) (has_failed (status_at w p.unit))) w c r p (goes_on w (call.Rpc c r) p) now)

  -- up to its settlement, and with its grant
  pub settled_became : WorldBecame w (after_settlement w c r now)
  settled_became = record {
    units = subst (λ apps. UnitsBecame w.apps w.units (map (grown apps) left.units)) (sym (left_alone w c r now).apps)
        (units_grown w.apps w.units left.units (in_range w sound) units_left);
    hosts = accounts_then w.hosts left.hosts (after_settlement w c r now).hosts
        (subst (AccountsStay w.hosts) (sym (left_alone w c r now).hosts) (accounts_at_entry w c r caller))
        (accounts_settled (at_entry w c r) (with_grown left) left.hosts);
    agreements = λ name known. ap (λ apps. agreement_by apps name) (left_alone w c r now).apps;
  }

  call_became : (after : World) (reply : Reply) → RpcStep w c r now after reply → WorldBecame w after
  call_became after reply step =
      let settlement : World = after_settlement w c r now in
      let rest = (grants_are_by_place settlement (host_number w c) now step.jobs).rest in
      let given : World = granted settlement (host_number w c) now step.jobs in
      subst (WorldBecame w) (sym step.left)
      (became_like w given (after_grant w c r now step.jobs) (classed_like w (host_at_entry w c r) step.jobs given) (record {
        units = units_on w settlement given settled_became.units rest.units (λ p.
            let n : ℕ = judged_at w p.unit in
            let failed : Bool = has_failed (status_at w p.unit) in
            granted_lasts (Extends n failed) (goes_self n failed) (goes_given n failed) settlement (asking_of w c r now) step.jobs step.grant p);
        hosts = subst (AccountsStay w.hosts) (sym rest.hosts) settled_became.hosts;
        agreements = λ name known. ap (λ apps. agreement_by apps name) rest.apps ∙ settled_became.agreements name known;
      }))

-- a tick
pub tick_became : (w after : World) (now count : ℕ) → Sound w → TickStep w now after count → WorldBecame w after
tick_became w after now count sound step =
    let left : World = lapsed w now in
    let rest = (lapses_are_by_place w now).rest in
    subst (WorldBecame w) (sym step.left)
    (record {
      units = subst (λ apps. UnitsBecame w.apps w.units (map (grown apps) left.units)) (sym rest.apps)
          (units_grown w.apps w.units left.units (in_range w sound)
          (units_on w w left (units_same w.apps w.units) rest.units
          (λ p. lapses_last (Extends (judged_at w p.unit) (has_failed (status_at w p.unit))) w now p (goes_on w call.Tick p))));
      hosts = accounts_then w.hosts left.hosts (settled w left).hosts
          (subst (AccountsStay w.hosts) (sym rest.hosts) (accounts_same w.hosts))
          (accounts_settled w (with_grown left) left.hosts);
      agreements = λ name known. ap (λ apps. agreement_by apps name) rest.apps;
    })

-- an import
units_more : (apps : List App) (bs cs : List UnitBook) → UnitsBecame apps bs (bs ++ cs)
units_more apps bs cs k = cases (nth bs k) refl (units_same apps bs k)
  where
    cases : (o : Option UnitBook) → nth bs k ≡ o → UnitBecameAt apps o o → UnitBecameAt apps o (nth (bs ++ cs) k)
    cases None is same = tt
    cases (Some b) is same = subst (UnitBecameAt apps (Some b)) (sym (nth-front bs cs k b is)) same

-- adding rows keeps those that exist
import_became : (w : World) (new : Rows) → WorldBecame w (with_rows w new)
import_became w (rows.Accounts xs) = record { units = units_same w.apps w.units; hosts = accounts_same w.hosts; agreements = λ name known. refl }
import_became w (rows.Apps xs) = record { units = units_same w.apps w.units; hosts = accounts_same w.hosts; agreements = agreement_stays w.apps xs }
import_became w (rows.Versions xs) = record { units = units_same w.apps w.units; hosts = accounts_same w.hosts; agreements = λ name known. refl }
import_became w (rows.Workunits us) =
    record { units = units_more w.apps w.units (map new_unit us); hosts = accounts_same w.hosts; agreements = λ name known. refl }

-- each step
pub step_became : (w after : World) (c : Call) (now : ℕ) (answer : Answered) → Sound w → Step w c now after answer → WorldBecame w after
step_became w after c now answer sound step =
    by_call w after now (λ c answer. WorldBecame w after)
    (λ c r reply step. call_became w c r now sound step.caller after reply step)
    (λ new count step. subst (WorldBecame w) (sym step.left) (import_became w new))
    (λ count step. tick_became w after now count sound step)
    c answer step
