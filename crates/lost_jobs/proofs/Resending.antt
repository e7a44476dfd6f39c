-- The fates of lost jobs do what the definition does with each job in turn.
use Rattle.std.proofs.Common.{◌≡◌, ℕ, ◌+◌, Bool, true, false, cond, List, [], ◌∷◌, map, Option, Some, None, sym, refl, ap, ◌∙◌}
use Rattle.std.specs.Prelude.{fold, option_map, unwrap_or, nat_le, Contains}
use Rattle.std.proofs.lemmas.List.Elements.{All-contains}
use Rattle.sched_book.specs.Places.{instance_at, is_same, deadline_of}
use Rattle.sched_book.specs.PlaceLaws.{IsLost}
use Rattle.sched_book.specs.Reports.{with_changed}
use Rattle.sched_book.specs.Step.{deadline_at}
use Rattle.sched_book.specs.Fits.{estimate_at}
use Rattle.sched_book.specs.Lost.{lost, is_resent, delay_at, deadline_after, with_deadline, with_lapse, resend_or_drop}
use Rattle.sched_book.specs.declared.instance.Instance.{Instance}
use Rattle.sched_book.specs.declared.instance.Lapse.TheVariants.{Dropped}
use Rattle.sched_book.specs.declared.instance.Owner.{Owner}
use Rattle.sched_book.specs.declared.instance.Place.{Place}
use Rattle.sched_book.specs.declared.rows.HostRow.{HostRow}
use Rattle.sched_book.specs.declared.world.World.{World}
use Rattle.sched_book.proofs.Recording.{instance_at-with_changed, is_same-true}
use Rattle.sched_book.proofs.LostPlaces.{lost_are_held_and_unlisted}
use Rattle.sched_book.proofs.Newest.{front_of, behind}
use Rattle.lost_jobs.specs.Fates.{fate, resent_to}
use Rattle.lost_jobs.specs.Fated.{with_fate}
use Rattle.lost_jobs.specs.Laws.{FatesResendOrDrop}
use Rattle.lost_jobs.proofs.Fated.{with_changed-same}

-- a deadline that was moved is not moved again
moved_twice : (now seconds delay d : ℕ) → deadline_after now seconds delay (deadline_after now seconds delay d) ≡ deadline_after now seconds delay d
moved_twice now seconds delay d = cases (nat_le (now + seconds) d) refl
  where
    either : (b : Bool) → cond b (now + delay) (now + delay) ≡ now + delay
    either true = refl
    either false = refl

    cases : (b : Bool) → nat_le (now + seconds) d ≡ b → deadline_after now seconds delay (cond b d (now + delay)) ≡ cond b d (now + delay)
    cases true is = ap (λ (b : Bool). cond b d (now + delay)) is
    cases false is = either (nat_le (now + seconds) (now + delay))

module _ (entry : World) (h : HostRow) (now : ℕ) where
  abbrev moved : Place → ℕ → ℕ
  moved p d = deadline_after now (estimate_at entry h p) (delay_at entry p) d

  abbrev deadline_in : Option Instance → ℕ
  deadline_in o = unwrap_or (option_map (λ (x : Instance). deadline_of x.owner) o) 0

  -- moving the deadline at a place gives the same as at entry
  abbrev IsReady : World → Place → Type 0
  IsReady w p = moved p (deadline_at w p) ≡ moved p (deadline_at entry p)

  with_owner : (p : Place) (o : Option Owner)
      → moved p (deadline_of (option_map (λ (o : Owner). record o { deadline = moved p o.deadline }) o)) ≡ moved p (deadline_of o)
  with_owner p None = refl
  with_owner p (Some o) = moved_twice now (estimate_at entry h p) (delay_at entry p) o.deadline

  again : (p : Place) (o : Option Instance) → moved p (deadline_in (option_map (with_deadline (moved p)) o)) ≡ moved p (deadline_in o)
  again p None = refl
  again p (Some x) = with_owner p x.owner

  dropped : (o : Option Instance) → deadline_in (option_map (with_lapse Dropped) o) ≡ deadline_in o
  dropped None = refl
  dropped (Some x) = refl

  -- a change at one place keeps each place ready
  stay_ready : (w : World) (q p : Place) → IsReady w p → IsReady (resend_or_drop entry h now w q) p
  stay_ready w q p ready = by_fate (is_resent entry h q)
    where
      at_same : (f : Place → Instance → Instance)
          → moved p (deadline_in (option_map (f p) (instance_at w p))) ≡ moved p (deadline_in (instance_at w p))
          → (s : Bool) → is_same q p ≡ s
          → moved p (deadline_in (cond s (option_map (f q) (instance_at w p)) (instance_at w p))) ≡ moved p (deadline_in (instance_at w p))
      at_same f same false is = refl
      at_same f same true is = ap (λ z. moved p (deadline_in (option_map (f z) (instance_at w p)))) (is_same-true q p is) ∙ same

      after : (f : Place → Instance → Instance)
          → moved p (deadline_in (option_map (f p) (instance_at w p))) ≡ moved p (deadline_in (instance_at w p))
          → IsReady (with_changed (f q) w q) p
      after f same =
          ap (λ o. moved p (deadline_in o)) (instance_at-with_changed (f q) w q p)
          ∙ at_same f same (is_same q p) refl
          ∙ ready

      by_fate : (b : Bool) → IsReady (cond b (with_changed (with_deadline (moved q)) w q) (with_changed (with_lapse Dropped) w q)) p
      by_fate true = after (λ z. with_deadline (moved z)) (again p (instance_at w p))
      by_fate false = after (λ z. with_lapse Dropped) (ap (moved p) (dropped (instance_at w p)))

  -- one fate
  one : (w : World) (p : Place) → IsReady w p → with_fate w (fate entry h now p) ≡ resend_or_drop entry h now w p
  one w p ready = cases (is_resent entry h p)
    where
      to_owner : (o : Option Owner) → moved p (deadline_of o) ≡ moved p (deadline_at entry p)
          → option_map (λ (o : Owner). record o { deadline = moved p (deadline_at entry p) }) o
          ≡ option_map (λ (o : Owner). record o { deadline = moved p o.deadline }) o
      to_owner None same = refl
      to_owner (Some o) same = ap (λ d. Some (record o { deadline = d })) (sym same)

      resent : with_changed (with_deadline (λ before. moved p (deadline_at entry p))) w p ≡ with_changed (with_deadline (moved p)) w p
      resent = with_changed-same w p _ _ (λ x stands.
          ap (λ o. record x { owner = o }) (to_owner x.owner (sym (ap (λ o. moved p (deadline_in o)) stands) ∙ ready)))

      cases : (b : Bool)
          → with_fate w (record { place = p; resent = cond b (Some (moved p (deadline_at entry p))) None })
          ≡ cond b (with_changed (with_deadline (moved p)) w p) (with_changed (with_lapse Dropped) w p)
      cases true = resent
      cases false = refl

  in_turn : (w : World) (ps : List Place) → ((p : Place) → Contains ps p → IsReady w p)
      → fold with_fate w (map (fate entry h now) ps) ≡ fold (resend_or_drop entry h now) w ps
  in_turn w [] ready = refl
  in_turn w (p ∷ ps) ready =
      ap (λ v. fold with_fate v (map (fate entry h now) ps)) (one w p (ready p (front_of p ps)))
      ∙ in_turn (resend_or_drop entry h now w p) ps (λ q among. stay_ready w p q (ready q (behind p ps q among)))

pub fates_resend_or_drop : FatesResendOrDrop
fates_resend_or_drop entry w h now host names keeps = (
  record { places = lost w host names; resent_at = resent_to entry h now; are = refl },
  in_turn entry h now w (lost w host names)
      (λ p among.
      let is_lost = All-contains (IsLost w host names) (lost w host names) p (lost_are_held_and_unlisted w host names).each among in
      ap (moved entry h now p) (keeps p is_lost.held)),
)
