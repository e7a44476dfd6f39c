-- What a call's host holds after its reports, its lost jobs, settlement and its grant, at one place.
use Rattle.std.proofs.Common.{◌≡◌, inl, inr, ℕ, Bool, true, false, List, Option, Some, None, sym, refl, ap, ◌∙◌, ◌⊎◌, ◌+◌}
use Rattle.std.proofs.lemmas.Bool.{and_parts}
use Rattle.std.specs.Prelude.{◌&&◌, Contains, fold, is_none, is_some, option_map, unwrap_or}
use borrow.Author.Tests.{eq-eqb}
use Rattle.rpc_records.specs.declared.request.Request.{Request}
use Rattle.sched_book.specs.Count.{is_held}
use Rattle.sched_book.specs.Lost.{is_resent, with_deadline, with_lapse, resend_or_drop, delay_at}
use Rattle.sched_book.specs.PlaceLaws.{HasResentOrDropped, HasGranted}
use Rattle.sched_book.specs.Places.{instance_at, is_held_by, is_owned_by}
use Rattle.sched_book.specs.Settle.{settled}
use Rattle.sched_book.specs.Step.{host_number, at_entry, after_reports, host_at_entry, lost_of, after_lost, after_settlement, with_owner, granted}
use Rattle.sched_book.specs.declared.instance.Instance.{Instance}
use Rattle.sched_book.specs.declared.instance.Lapse.{Lapse}
use Rattle.sched_book.specs.declared.instance.Lapse.TheVariants.{Dropped}
use Rattle.sched_book.specs.declared.instance.Outcome.{Outcome}
use Rattle.sched_book.specs.declared.instance.Owner.{Owner}
use Rattle.sched_book.specs.declared.instance.Place.{Place}
use Rattle.sched_book.specs.declared.machine.Caller.{Caller}
use Rattle.sched_book.specs.declared.rows.HostRow.{HostRow}
use Rattle.sched_book.specs.declared.world.World.{World}
use Rattle.sched_book.proofs.PlaceChanges.{lost_jobs_are_by_place, grants_are_by_place}
use Rattle.sched_book.proofs.Recording.{passes-is}
use Rattle.lost_jobs.specs.Holding.{HoldsNoMore}
use Rattle.lost_jobs.proofs.Reported.{reports_hold_no_more, held_unreported, unreported_held}
use Rattle.sched_machine.specs.Asked.{holds}
use Rattle.sched_machine.specs.Held.{ReportsEndHolding}
use Rattle.sched_machine.proofs.OptionParts.{any_by}
use Rattle.sched_machine.proofs.Moves.Moves.{among, settled_lasts, none_of}

-- after the reports the host holds what it held and did not report
pub reports_end_holding : ReportsEndHolding
reports_end_holding w c r p = (
  λ held. record {
    held = reports_hold_no_more entry host r.results p held;
    unreported = λ known. held_unreported entry host r.results p held known.0 known.1 known.2;
  },
  λ kept. unreported_held entry host r.results p kept.held (λ t there names. kept.unreported (t, there, names)),
)
  where
    entry : World
    entry = at_entry w c r

    host : ℕ
    host = host_number w c

-- there is an instance, and the host holds it
abbrev pub is_held_in : ℕ → Option Instance → Bool
is_held_in host o = unwrap_or (option_map (is_held_by host) o) false

-- a host does not hold a job that was dropped
pub dropped_not_held : (host : ℕ) (x : Instance) → is_held_by host (with_lapse Dropped x) ≡ false
dropped_not_held host x = both (is_owned_by host x) (is_some x.owner) (is_none x.report)
  where
    both : (a b c : Bool) → (a && ((b && c) && false)) ≡ false
    both true true true = refl
    both true true false = refl
    both true false c = refl
    both false b c = refl

-- a new deadline does not change who holds the job
pub deadline_holds : (host : ℕ) (f : ℕ → ℕ) (x : Instance) → is_held_by host (with_deadline f x) ≡ is_held_by host x
deadline_holds host f x = cases x.owner
  where
    cases : (o : Option Owner)
        → is_held_by host (with_deadline f (record { owner = o; lapse = x.lapse; report = x.report }))
        ≡ is_held_by host (record { owner = o; lapse = x.lapse; report = x.report })
    cases None = refl
    cases (Some o) = refl

-- settlement does not change who holds what
pub settled_same : (old v : World) (host : ℕ) (p : Place) → holds (settled old v) host p ≡ holds v host p
settled_same old v host p =
    passes-is (settled old v) (is_held_by host) p
    ∙ settled_lasts (λ o q. is_held_in host q ≡ is_held_in host o) (λ o. refl) refl old v p
    ∙ sym (passes-is v (is_held_by host) p)

-- Lost jobs.
module _ (entry : World) (h : HostRow) (now host : ℕ) (p : Place) (places : List Place) (v : World) where
  abbrev after : World
  after = fold (resend_or_drop entry h now) v places

  left : HasResentOrDropped entry h now v places after
  left = lost_jobs_are_by_place entry h now v places

  -- whether the host holds the instance at a place after them
  holds_by : (o : Option Instance) → instance_at after p ≡ o → is_held_in host o ≡ is_held_in host (instance_at v p) → holds after host p ≡ holds v host p
  holds_by o is same = passes-is after (is_held_by host) p ∙ ap (is_held_in host) is ∙ same ∙ sym (passes-is v (is_held_by host) p)

  -- a job that is sent again is held as before
  pub lost_resent : is_resent entry h p ≡ true → holds after host p ≡ holds v host p
  lost_resent sent = elim (among p places) [
    | inl there ↦ holds_by _ (left.resent p there sent) (moved _ (instance_at v p))
    | inr nowhere ↦ holds_by _ (left.other p nowhere) refl
  ]
    where
      moved : (f : ℕ → ℕ) (o : Option Instance) → is_held_in host (option_map (with_deadline f) o) ≡ is_held_in host o
      moved f None = refl
      moved f (Some x) = deadline_holds host f x

  -- a lost job that is still held was sent again
  pub lost_held : Contains places p → holds after host p ≡ true → is_resent entry h p ≡ true
  lost_held there held = cases (is_resent entry h p) refl
    where
      dropped : (o : Option Instance) → is_held_in host (option_map (with_lapse Dropped) o) ≡ false
      dropped None = refl
      dropped (Some x) = dropped_not_held host x

      cases : (b : Bool) → is_resent entry h p ≡ b → is_resent entry h p ≡ true
      cases true is = is
      cases false is =
          let never : false ≡ true =
          sym (passes-is after (is_held_by host) p ∙ ap (is_held_in host) (left.dropped p there is) ∙ dropped (instance_at v p)) ∙ held in
          absurd cc

  pub lost_hold_no_more : holds after host p ≡ true → holds v host p ≡ true
  lost_hold_no_more held = elim (among p places) [
    | inl there ↦ sym (lost_resent (lost_held there held)) ∙ held
    | inr nowhere ↦ sym (holds_by _ (left.other p nowhere) refl) ∙ held
  ]

-- all parts up to settlement
pub after_settlement_holds : (w : World) (c : Caller) (r : Request) (now : ℕ) → HoldsNoMore w (after_settlement w c r now) (host_number w c)
after_settlement_holds w c r now p holds =
    reports_hold_no_more (at_entry w c r) (host_number w c) r.results p
    (lost_hold_no_more (at_entry w c r) (host_at_entry w c r) now (host_number w c) p (lost_of w c r) (after_reports w c r)
    (sym (settled_same (at_entry w c r) (after_lost w c r now) (host_number w c) p) ∙ holds))

-- the place has an instance that was neither reported nor lapsed
pub record IsUnspoiled (v : World) (p : Place) : Type 0 where
  pub x : Instance
  pub stands : instance_at v p ≡ Some x
  pub report : x.report ≡ None
  pub lapse : x.lapse ≡ None

-- a host that is given an instance, neither reported nor lapsed, holds it
given_is_held : (host now deadline : ℕ) (x : Instance) → x.report ≡ None → x.lapse ≡ None
    → is_held_by host (with_owner (record { host = host; sent = now; deadline = deadline }) x) ≡ true
given_is_held host now deadline x report lapse =
    ap (λ (b : Bool). (true && b) && ((true && is_none x.report) && is_none x.lapse)) (eq-eqb host host refl)
    ∙ ap (λ (o : Option Outcome). (true && true) && ((true && is_none o) && is_none x.lapse)) report
    ∙ ap (λ (o : Option Lapse). (true && true) && ((true && true) && is_none o)) lapse

-- an instance that a host holds is neither reported nor lapsed
unspoiled : (host : ℕ) (x : Instance) → is_held_by host x ≡ true → (x.report ≡ None) × (x.lapse ≡ None)
unspoiled host x held =
    let last = and_parts (is_some x.owner && is_none x.report) (is_none x.lapse) (and_parts (is_owned_by host x) (is_held x) held).1 in
    (none_of x.report (and_parts (is_some x.owner) (is_none x.report) last.0).1, none_of x.lapse last.1)

module _ (host now : ℕ) (p : Place) (jobs : List Place) (v : World) where
  abbrev with_jobs : World
  with_jobs = granted v host now jobs

  by_jobs : HasGranted v host now jobs with_jobs
  by_jobs = grants_are_by_place v host now jobs

  -- a job at the place belongs to its owner
  job_holds : Contains jobs p → (x : Instance) → instance_at v p ≡ Some x → x.report ≡ None → x.lapse ≡ None → holds with_jobs host p ≡ true
  job_holds there x stands report lapse =
      passes-is with_jobs (is_held_by host) p
      ∙ ap (is_held_in host) (by_jobs.job p there ∙ ap (option_map (with_owner _)) stands)
      ∙ given_is_held host now (now + delay_at v p) x report lapse

  -- what is no job is held as before
  elsewhere : (Contains jobs p → ⊥) → holds with_jobs host p ≡ holds v host p
  elsewhere nowhere = passes-is with_jobs (is_held_by host) p ∙ ap (is_held_in host) (by_jobs.other p nowhere) ∙ sym (passes-is v (is_held_by host) p)

  -- a grant removes nothing that the host holds
  pub grant_keeps : holds v host p ≡ true → holds with_jobs host p ≡ true
  grant_keeps held = elim (among p jobs) [
    | inl there ↦ (
        let x = any_by (is_held_by host) (instance_at v p) (sym (passes-is v (is_held_by host) p) ∙ held) in
        let both = unspoiled host x.0 x.2 in
        job_holds there x.0 x.1 both.0 both.1)
    | inr nowhere ↦ elsewhere nowhere ∙ held
  ]

  -- what the host holds afterwards it held before, or it was granted
  pub grant_gives : holds with_jobs host p ≡ true → holds v host p ≡ true ⊎ Contains jobs p
  grant_gives held = elim (among p jobs) [
    | inl there ↦ inr there
    | inr nowhere ↦ inl (sym (elsewhere nowhere) ∙ held)
  ]

  -- a granted instance is held if it was neither reported nor lapsed
  pub granted_is_held : Contains jobs p → IsUnspoiled v p → holds with_jobs host p ≡ true
  granted_is_held there good = job_holds there good.x good.stands good.report good.lapse
