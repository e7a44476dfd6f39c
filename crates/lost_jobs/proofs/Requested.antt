-- The lost jobs after a request's reports are those that it lost in the world that it found.
use Rattle.std.proofs.Common.{◌≡◌, ℕ, List, [], Option, Some, None, sym, refl, ap, ◌∙◌, subst}
use Rattle.std.specs.Prelude.{Contains, option_map, unwrap_or}
use Rattle.std.proofs.lemmas.List.Elements.{All-weaker}
use Rattle.rpc_records.specs.declared.request.Request.{Request}
use Rattle.sched_book.specs.Delta.{edited}
use Rattle.sched_book.specs.Lost.{lost}
use Rattle.sched_book.specs.Names.{instance_name}
use Rattle.sched_book.specs.Places.{nth, name_at}
use Rattle.sched_book.specs.PlaceLaws.{ChangesInstancesAlone, IsLost}
use Rattle.sched_book.specs.Reports.{recorded}
use Rattle.sched_book.specs.declared.delta.Edit.{Edit}
use Rattle.sched_book.specs.declared.instance.Place.{Place}
use Rattle.sched_book.specs.declared.instance.UnitBook.{UnitBook}
use Rattle.sched_book.specs.declared.rows.HostRow.{HostRow}
use Rattle.sched_book.specs.declared.rows.Workunit.{Workunit}
use Rattle.sched_book.specs.declared.settings.Settings.{Settings}
use Rattle.sched_book.specs.declared.world.World.{World}
use Rattle.sched_book.proofs.LostPlaces.{lost_are_held_and_unlisted}
use Rattle.sched_book.proofs.PlaceChanges.{reports_change_instances_alone}
use Rattle.sched_book.proofs.Settling.{nth-map}
use Rattle.lost_jobs.specs.Holding.{HoldsNoMore}
use Rattle.lost_jobs.specs.Requested.{RecordsReports, IsLostBy, AreLostBy, LostJobsAreOfTheRequest}
use Rattle.lost_jobs.proofs.Reported.{reports_hold_no_more, held_unreported, unreported_held}

-- names stay if the rows of workunits do
names_stay : (old new : World) → ChangesInstancesAlone old new → (p : Place) → name_at new p ≡ name_at old p
names_stay old new same p =
    by_row new
    ∙ ap name_of (sym (nth-map (λ (b : UnitBook). b.unit) new.units p.unit) ∙ ap (λ us. nth us p.unit) same.units ∙ nth-map (λ (b : UnitBook). b.unit) old.units p.unit)
    ∙ sym (by_row old)
  where
    name_of : Option Workunit → List ℕ
    name_of o = unwrap_or (option_map (λ (u : Workunit). instance_name u.name p.number) o) []

    of_book : (o : Option UnitBook) → unwrap_or (option_map (λ (b : UnitBook). instance_name b.unit.name p.number) o) [] ≡ name_of (option_map (λ (b : UnitBook). b.unit) o)
    of_book None = refl
    of_book (Some b) = refl

    by_row : (w : World) → name_at w p ≡ name_of (option_map (λ (b : UnitBook). b.unit) (nth w.units p.unit))
    by_row w = of_book (nth w.units p.unit)

module _ (w : World) (hosts : List HostRow) (host : ℕ) (r : Request) where
  abbrev entry : World
  entry = record w { hosts = hosts }

  abbrev reported : World
  reported = recorded entry host r.results

  stays : ChangesInstancesAlone entry reported
  stays = reports_change_instances_alone entry host r.results

  of_request : (p : Place) → IsLost reported host r.other_results p → IsLostBy w host r p
  of_request p lost = record {
    resends = ap (λ (s : Settings). s.resend_lost_results) (sym stays.settings) ∙ lost.resends;
    listed = lost.listed;
    sent = lost.sent;
    held = reports_hold_no_more entry host r.results p lost.held;
    unreported = held_unreported entry host r.results p lost.held;
    unlisted = λ has. lost.unlisted (subst (Contains lost.listed) (sym (names_stay entry reported stays p)) has);
  }

  after_reports : (p : Place) → IsLostBy w host r p → IsLost reported host r.other_results p
  after_reports p lost = record {
    resends = ap (λ (s : Settings). s.resend_lost_results) stays.settings ∙ lost.resends;
    listed = lost.listed;
    sent = lost.sent;
    held = unreported_held entry host r.results p lost.held lost.unreported;
    unlisted = λ has. lost.unlisted (subst (Contains lost.listed) (names_stay entry reported stays p) has);
  }

  are_lost_by : AreLostBy w host r (lost reported host r.other_results)
  are_lost_by =
      let all = lost_are_held_and_unlisted reported host r.other_results in
      record {
        each = All-weaker (IsLost reported host r.other_results) (IsLostBy w host r) of_request (lost reported host r.other_results) all.each;
        none_missed = λ p lost. all.none_missed p (after_reports p lost);
        rising = all.rising;
      }

pub lost_jobs_are_of_the_request : LostJobsAreOfTheRequest
lost_jobs_are_of_the_request w hosts host r = are_lost_by w hosts host r

-- what was lost between two worlds was lost between equal ones
pub lost_of_both : (host : ℕ) (r : Request) (ps : List Place) (v before changed after : World) → v ≡ before → changed ≡ after
    → (HoldsNoMore v changed host → ps ≡ lost changed host r.other_results)
    → HoldsNoMore before after host → ps ≡ lost after host r.other_results
lost_of_both host r ps v before changed after same_before same_after are no_more =
    are (subst (λ u. HoldsNoMore u changed host) (sym same_before) (subst (λ u. HoldsNoMore before u host) (sym same_after) no_more))
    ∙ ap (λ u. lost u host r.other_results) same_after

-- the lost jobs after changes that record the reports: after these the host holds no more than before
pub lost_by_request : (w : World) (changes : List Edit) (host : ℕ) (r : Request) → RecordsReports w changes host r → (ps : List Place)
    → (HoldsNoMore w (edited w changes) host → ps ≡ lost (edited w changes) host r.other_results) → AreLostBy w host r ps
lost_by_request w changes host r records ps are =
    let no_more =
    subst (λ v. HoldsNoMore w v host) (sym records.is) (reports_hold_no_more (record w { hosts = records.hosts }) host r.results) in
    subst (AreLostBy w host r) (ap (λ v. lost v host r.other_results) (sym records.is) ∙ sym (are no_more)) (are_lost_by w records.hosts host r)
