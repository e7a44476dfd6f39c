-- Lost jobs, sent again or dropped, keep a world well.
use Rattle.std.proofs.Common.{◌≡◌, ℕ, ◌+◌, ◌≤◌, inl, Bool, true, false, cond, List, Option, Some, None, refl, arith, ap, sym, ◌∙◌}
use Rattle.std.specs.Prelude.{All, nat_le, is_some, option_map, unwrap_or}
use Rattle.std.proofs.lemmas.List.Elements.{All-weaker}
use Rattle.std.proofs.lemmas.Bool.{and_parts}
use Rattle.sched_book.specs.Count.{is_held}
use Rattle.sched_book.specs.Fits.{estimate_at}
use Rattle.sched_book.specs.Lost.{lost, is_resent, delay_at, deadline_after, with_deadline, with_lapse, resend_or_drop}
use Rattle.sched_book.specs.Limits.{last_moment, last_deadline, most_delay}
use Rattle.sched_book.specs.PlaceLaws.{IsLost}
use Rattle.sched_book.specs.Places.{unit_at, is_held_by, is_owned_by}
use Rattle.sched_book.specs.Reports.{with_changed}
use Rattle.sched_book.specs.Sound.{IsWellUnit, IsWell}
use Rattle.sched_book.specs.declared.instance.Instance.{Instance}
use Rattle.sched_book.specs.declared.instance.Lapse.TheVariants.{Dropped}
use Rattle.sched_book.specs.declared.instance.Owner.{Owner}
use Rattle.sched_book.specs.declared.instance.Place.{Place}
use Rattle.sched_book.specs.declared.instance.UnitBook.{UnitBook}
use Rattle.sched_book.specs.declared.rows.HostRow.{HostRow}
use Rattle.sched_book.specs.declared.world.World.{World}
use Rattle.sched_book.proofs.LostPlaces.{lost_are_held_and_unlisted}
use Rattle.sched_book.proofs.Recording.{passes-is}
use Rattle.sched_book.proofs.PlacesOf.{is_some-option_map}
use Rattle.sched_book.proofs.ByPlace.{all_nth}
use Rattle.sched_machine.specs.Laws.{LostJobsKeepWell}
use Rattle.sched_machine.proofs.Units.Lapsed.{held_given, lapse_well, IsGiven, given_after, fold_well}
use Rattle.sched_machine.proofs.Units.Well.{Keeps, changed_well, keeps_self}

-- an instance that a host holds was given to it
held_by_given : (host : ℕ) (x : Instance) → is_held_by host x ≡ true → is_some x.owner ≡ true
held_by_given host x held = held_given x (and_parts (is_owned_by host x) (is_held x) held).1

-- so was a lost one
pub lost_given : (w : World) (host : ℕ) (names : Option (List (List ℕ))) → All (IsGiven w) (lost w host names)
lost_given w host names =
    All-weaker (IsLost w host names) (IsGiven w)
    (λ p lost x stands.
    held_by_given host x (sym (passes-is w (is_held_by host) p ∙ ap (λ o. unwrap_or (option_map (is_held_by host) o) false) stands) ∙ lost.held))
    (lost w host names) (lost_are_held_and_unlisted w host names).each

-- a new deadline changes neither the host nor the moment of sending
pub deadline_keeps : (f : ℕ → ℕ) → ((d : ℕ) → d ≤ last_deadline → f d ≤ last_deadline) → (x : Instance) → Keeps x (with_deadline f x)
deadline_keeps f low x = cases x.owner
  where
    given : Option Owner → Instance
    given o = record { owner = o; lapse = x.lapse; report = x.report }

    cases : (o : Option Owner) → Keeps (given o) (with_deadline f (given o))
    cases None = keeps_self (given None)
    cases (Some o) = record {
      host = refl;
      bare = λ bare none. absurd cc;
      limits = λ limits. record { sent = limits.sent; deadline = low o.deadline limits.deadline; output = limits.output; place = limits.place };
    }

-- a workunit's delay bound is low enough to keep a deadline within limits
pub delay_is_low : (w : World) (p : Place) → IsWell w → delay_at w p ≤ most_delay
delay_is_low w p well = cases (unit_at w p.unit) refl
  where
    cases : (o : Option UnitBook) → unit_at w p.unit ≡ o → unwrap_or (option_map (λ (b : UnitBook). b.unit.delay_bound) o) 0 ≤ most_delay
    cases None stands = omega arith
    cases (Some b) stands = (all_nth (IsWellUnit w.hosts w.apps) w.units p.unit b well.units stands).limits.delay.1

pub deadline_is_low : (now seconds delay : ℕ) → now ≤ last_moment → delay ≤ most_delay → (d : ℕ) → d ≤ last_deadline
    → deadline_after now seconds delay d ≤ last_deadline
deadline_is_low now seconds delay early short d low = cases (nat_le (now + seconds) d)
  where
    cases : (b : Bool) → cond b d (now + delay) ≤ last_deadline
    cases true = low
    cases false = omega arith

-- one lost job
module _ (entry : World) (h : HostRow) (now : ℕ) (entered : IsWell entry) (early : now ≤ last_moment) where
  abbrev later : Place → ℕ → ℕ
  later p = deadline_after now (estimate_at entry h p) (delay_at entry p)

  one_well : (w : World) (p : Place) → IsWell w → IsGiven w p → IsWell (resend_or_drop entry h now w p)
  one_well w p well given = cases (is_resent entry h p)
    where
      cases : (b : Bool) → IsWell (cond b (with_changed (with_deadline (later p)) w p) (with_changed (with_lapse Dropped) w p))
      cases true =
          changed_well (with_deadline (later p)) w p well
          (λ b x unit stands is.
          (deadline_keeps (later p) (deadline_is_low now (estimate_at entry h p) (delay_at entry p) early (delay_is_low entry p entered)) x, inl refl))
      cases false = lapse_well Dropped w p well given

  one_given : (w : World) (p q : Place) → IsGiven w q → IsGiven (resend_or_drop entry h now w p) q
  one_given w p q given = cases (is_resent entry h p)
    where
      cases : (b : Bool) → IsGiven (cond b (with_changed (with_deadline (later p)) w p) (with_changed (with_lapse Dropped) w p)) q
      cases true = given_after (with_deadline (later p)) w p q (λ x. is_some-option_map _ x.owner) given
      cases false = given_after (with_lapse Dropped) w p q (λ x. refl) given

-- all lost jobs
pub lost_jobs_keep_well : LostJobsKeepWell
lost_jobs_keep_well entry w h now host names entered early well =
    fold_well (resend_or_drop entry h now) (one_well entry h now entered early) (one_given entry h now entered early) (lost w host names) w well
    (lost_given w host names)
