-- Rule. What a request lost, in the world that it finds: the jobs that its host held, and that it neither reports nor
-- lists.
use Rattle.std.specs.Prelude.{◌≡◌, ℕ, true, List, All, AllPairs, Contains, Some}
use Rattle.rpc_records.specs.declared.request.Report.{Report}
use Rattle.rpc_records.specs.declared.request.Request.{Request}
use Rattle.sched_book.specs.Delta.{edited}
use Rattle.sched_book.specs.Lost.{lost}
use Rattle.sched_book.specs.Places.{passes, is_held_by, is_before, name_at, place_named}
use Rattle.sched_book.specs.Reports.{recorded}
use Rattle.sched_book.specs.declared.delta.Edit.{Edit}
use Rattle.sched_book.specs.declared.instance.Place.{Place}
use Rattle.sched_book.specs.declared.rows.HostRow.{HostRow}
use Rattle.sched_book.specs.declared.world.World.{World}

-- The changes renew the rows of hosts, and record the request's reports for a host.
pub record RecordsReports (w : World) (changes : List Edit) (host : ℕ) (r : Request) : Type 0 where
  pub hosts : List HostRow
  pub is : edited w changes ≡ recorded (record w { hosts = hosts }) host r.results

-- Lost jobs are sent again, the client sent a list, and the host held the instance at the place. No report of the
-- request names it, and its name is not in the list.
pub record IsLostBy (w : World) (host : ℕ) (r : Request) (p : Place) : Type 0 where
  pub resends : w.settings.resend_lost_results ≡ true
  pub listed : List (List ℕ)
  pub sent : r.other_results ≡ Some listed
  pub held : passes w (λ b x. is_held_by host x) p ≡ true
  pub unreported : (t : Report) → Contains r.results t → place_named w t.name ≡ Some p → ⊥
  pub unlisted : Contains listed (name_at w p) → ⊥

-- These are the lost jobs of the request, each once, in the order of their places.
pub record AreLostBy (w : World) (host : ℕ) (r : Request) (ps : List Place) : Type 0 where
  pub each : All (IsLostBy w host r) ps
  pub none_missed : (p : Place) → IsLostBy w host r p → Contains ps p
  pub rising : AllPairs (λ p q. is_before p q ≡ true) ps

-- the lost jobs after a request's reports, if the rows of hosts were renewed before these
abbrev pub LostJobsAreOfTheRequest : Type 0
LostJobsAreOfTheRequest = (w : World) (hosts : List HostRow) (host : ℕ) (r : Request)
    → AreLostBy w host r (lost (recorded (record w { hosts = hosts }) host r.results) host r.other_results)
