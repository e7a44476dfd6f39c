-- What a host holds after its reports.
use Rattle.std.proofs.Common.{◌≡◌, ℕ, inl, inr, Bool, true, false, List, ◌∷◌, Option, Some, None, sym, refl, ap, ◌∙◌, subst}
use Rattle.std.specs.Prelude.{◌&&◌, Contains, is_some, is_none, option_map, unwrap_or}
use Rattle.std.proofs.lemmas.List.Elements.{Contains-append_right}
use Rattle.rpc_records.specs.declared.request.Report.{Report}
use Rattle.sched_book.specs.Laws.{IsRecordedAt}
use Rattle.sched_book.specs.Places.{instance_at, passes, place_named, is_owned_by, is_held_by, deadline_of}
use Rattle.sched_book.specs.Reports.{awaits_report, first_reports, with_report, recorded}
use Rattle.sched_book.specs.declared.instance.Instance.{Instance}
use Rattle.sched_book.specs.declared.instance.Place.{Place}
use Rattle.sched_book.specs.declared.world.World.{World}
use Rattle.sched_book.proofs.EachName.{first_reports_are_of_each_name}
use Rattle.sched_book.proofs.FirstOfEach.{first_reports_are_first}
use Rattle.sched_book.proofs.Newest.{front_of}
use Rattle.sched_book.proofs.Recording.{passes-is, reports_are_recorded_by_place}
use Rattle.lost_jobs.specs.Laws.{ReportsHoldNoMore, ReportsKeepDeadlines}

abbrev deadline_in : Option Instance → ℕ
deadline_in o = unwrap_or (option_map (λ (x : Instance). deadline_of x.owner) o) 0

-- a host does not hold an instance that it reported
not_held : (host : ℕ) (r : Report) (place : Option ℕ) (x : Instance) → is_held_by host (with_report r place x) ≡ false
not_held host r place x = both (is_owned_by host x) (is_some x.owner) (is_none x.lapse)
  where
    both : (a b c : Bool) → (a && ((b && false) && c)) ≡ false
    both true true c = refl
    both true false c = refl
    both false b c = refl

pub reports_hold_no_more : ReportsHoldNoMore
reports_hold_no_more entry host reports p holds = elim (reports_are_recorded_by_place entry host reports p).stays_or_recorded [
  | inl same ↦
      passes-is entry (is_held_by host) p ∙ ap (λ o. unwrap_or (option_map (is_held_by host) o) false) (sym same)
      ∙ sym (passes-is (recorded entry host reports) (is_held_by host) p) ∙ holds
  | inr told ↦
      let never : true ≡ false = sym holds ∙ passes-is (recorded entry host reports) (is_held_by host) p
      ∙ ap (λ o. unwrap_or (option_map (is_held_by host) o) false) told.recorded ∙ not_held host told.report told.place told.before in
      absurd cc
]

pub reports_keep_deadlines : ReportsKeepDeadlines
reports_keep_deadlines entry host reports p holds = elim (reports_are_recorded_by_place entry host reports p).stays_or_recorded [
  | inl same ↦ ap deadline_in same
  | inr told ↦ ap deadline_in told.recorded ∙ sym (ap deadline_in told.stood)
]

-- a host may report an instance that it holds
held_awaits : (host : ℕ) (x : Instance) → is_held_by host x ≡ true → awaits_report host x ≡ true
held_awaits host x held = cases (is_owned_by host x) (is_some x.owner) (is_none x.report) (is_none x.lapse) held
  where
    cases : (a b c d : Bool) → (a && ((b && c) && d)) ≡ true → (a && c) ≡ true
    cases true true true d is = refl
    cases true true false d is = absurd cc
    cases true false c d is = absurd cc
    cases false b c d is = absurd cc

module _ (entry : World) (host : ℕ) (reports : List Report) (p : Place) where
  abbrev holds : World → Bool
  holds w = passes w (λ b x. is_held_by host x) p

  abbrev holds_in : Option Instance → Bool
  holds_in o = unwrap_or (option_map (is_held_by host) o) false

  -- a report names the instance at the place
  abbrev IsNamedBy : Report → Type 0
  IsNamedBy t = place_named entry t.name ≡ Some p

  recorded_not_held : IsRecordedAt entry host reports p → holds (recorded entry host reports) ≡ false
  recorded_not_held told =
      passes-is (recorded entry host reports) (is_held_by host) p ∙ ap holds_in told.recorded ∙ not_held host told.report told.place told.before

  -- no report names what the host still holds after the reports
  pub held_unreported : holds (recorded entry host reports) ≡ true → (t : Report) → Contains reports t → IsNamedBy t → ⊥
  held_unreported held t there names = at_place (instance_at entry p) refl (sym (passes-is entry (is_held_by host) p) ∙ before)
    where
      before : holds entry ≡ true
      before = reports_hold_no_more entry host reports p held

      at_place : (o : Option Instance) → instance_at entry p ≡ o → holds_in o ≡ true → ⊥
      at_place None stands is = absurd cc
      at_place (Some x) stands is =
          let first = (first_reports_are_of_each_name reports).each_text t there in
          let told = (reports_are_recorded_by_place entry host reports p).not_missed first.0 x first.1 (ap (place_named entry) first.2 ∙ names) stands
          (held_awaits host x is) in
          let never : true ≡ false = sym held ∙ recorded_not_held told in
          absurd cc

  -- what the host held and no report names, it still holds
  pub unreported_held : holds entry ≡ true → ((t : Report) → Contains reports t → IsNamedBy t → ⊥) → holds (recorded entry host reports) ≡ true
  unreported_held held unreported = elim (reports_are_recorded_by_place entry host reports p).stays_or_recorded [
    | inl same ↦
        passes-is (recorded entry host reports) (is_held_by host) p ∙ ap holds_in same ∙ sym (passes-is entry (is_held_by host) p) ∙ held
    | inr told ↦ absurd (unreported told.report (is_report told.report told.first) told.names)
  ]
    where
      is_report : (t : Report) → Contains (first_reports reports) t → Contains reports t
      is_report t there =
          let first = first_reports_are_first reports t there in
          subst (λ z. Contains z t) (sym first.split) (Contains-append_right first.earlier (t ∷ first.later) t (front_of t first.later))
