-- A user had the workunit of each candidate before the place at which a seeking taker stops.
use Rattle.std.proofs.Common.{◌≡◌, inl, inr, ℕ, Bool, true, false, cond, List, [], ◌∷◌, Option, Some, None, sym, refl, ap, ◌∙◌, subst}
use Rattle.std.specs.Prelude.{◌&&◌, is_none, unwrap_or, Contains}
use Rattle.std.proofs.lemmas.Bool.{and_parts}
use Rattle.sched_book.specs.Count.{is_open}
use Rattle.sched_book.specs.Skipping.{HadAllBefore, IsHadBy}
use Rattle.sched_book.specs.Offers.{unsent, OffersAll, OrSkips}
use Rattle.sched_book.specs.Places.{status_of}
use Rattle.sched_book.specs.declared.desk.Candidate.{Candidate}
use Rattle.sched_book.specs.declared.desk.Flow.{Flow}
use Rattle.sched_book.specs.declared.desk.Flow.TheVariants.{GoOn, Stop}
use Rattle.sched_book.specs.declared.instance.Place.{Place}
use Rattle.sched_book.specs.declared.world.World.{World}
use Rattle.sched_book.proofs.Newest.{none_in_nothing, in_front}
use Rattle.job_choice.specs.Offered.{first_place}
use Rattle.job_choice.specs.Past.{known_had, IsUserPast}
use Rattle.job_choice.specs.Seeking.{Seeks}
use Rattle.job_choice.specs.declared.seeking.Seeking.{Seeking}
use Rattle.job_choice.proofs.Candidates.{Before, before_from, after_first, Rising, rising_among, world_lists, stood}
use Rattle.job_choice.proofs.Greedy.{before_both}
use Rattle.job_choice.proofs.Looked.{had_is}

module _ (w : World) (account : ℕ) where
  -- an offer, or a candidate of a workunit that the user had is left out
  abbrev Sees : Seeking → Candidate → Flow → Seeking → Type 0
  Sees = OrSkips (IsHadBy w account) Seeks

  -- it goes on at a candidate of a workunit that the user had, and stays as it is
  goes_on : (old new : Seeking) (c : Candidate) → IsUserPast w account old.past.now → Sees old c GoOn new → IsHadBy w account c × (new ≡ old)
  goes_on old new c past (inr (one, flow, same)) = (one, same)
  goes_on old new c past (inl (flow, is)) = by (known_had old.past.now c.place.unit) refl flow is
    where
      by : (o : Option Bool) → known_had old.past.now c.place.unit ≡ o → GoOn ≡ cond (unwrap_or o false) GoOn Stop
          → new ≡ cond (unwrap_or o false) old (record old { first_new = Some c.place }) → IsHadBy w account c × (new ≡ old)
      by (Some true) known flow is = (sym (had_is w account old.past.now c.place.unit true past known), is)
      by (Some false) known flow is = absurd (let differ : GoOn ≡ Stop = flow in cc)
      by None known flow is = absurd (let differ : GoOn ≡ Stop = flow in cc)

  -- the candidate at which it stops is the first new one
  stops_at : (old new : Seeking) (c : Candidate) → Sees old c Stop new → new.first_new ≡ Some c.place
  stops_at old new c (inr (one, never, same)) = absurd (let differ : Stop ≡ GoOn = never in cc)
  stops_at old new c (inl (flow, is)) = by (unwrap_or (known_had old.past.now c.place.unit) false) flow is
    where
      by : (b : Bool) → Stop ≡ cond b GoOn Stop → new ≡ cond b old (record old { first_new = Some c.place }) → new.first_new ≡ Some c.place
      by true never is = absurd (let differ : Stop ≡ GoOn = never in cc)
      by false flow is = ap (λ (s : Seeking). s.first_new) is

  -- each candidate before the first new one is of a workunit that the user had
  all_had : (cs : List Candidate) (old new : Seeking) (first_new : Place) → Rising cs → IsUserPast w account old.past.now → new.first_new ≡ Some first_new
      → OffersAll Sees old cs new → (d : Candidate) → Contains cs d → Before d.place first_new → IsHadBy w account d
  all_had [] old new first_new rising past found h d among before = absurd (none_in_nothing d among)
  all_had (c ∷ cs) old new first_new rising past found (inl stopped) d among before =
      let at : first_new ≡ c.place = (let same : Some first_new ≡ Some c.place = sym found ∙ stops_at old new c stopped in cc) in
      let less : Before d.place c.place = subst (λ p. Before d.place p) at before in
      absurd (elim (in_front c cs d among) [
        | inl same ↦ (let itself : Before c.place c.place = subst (λ (e : Candidate). Before e.place c.place) (sym same) less in before_both c.place c.place itself itself)
        | inr later ↦ before_both c.place d.place (rising.0 d later) less
      ])
  all_had (c ∷ cs) old new first_new rising past found (inr (mid, one, more)) d among before =
      let on = goes_on old mid c past one in
      elim (in_front c cs d among) [
        | inl same ↦ subst (IsHadBy w account) same on.0
        | inr later ↦ all_had cs mid new first_new rising.1 (subst (λ (s : Seeking). IsUserPast w account s.past.now) (sym on.1) past) found more d later before
      ]

  -- Each place that waits is that of a candidate. So before the first candidate that is not known to be had, the user had them all.
  pub had_before : (v : World) (old new : Seeking) (from first_new : Place) → v ≡ w → from ≡ first_place → IsUserPast w account old.past.now
      → OffersAll (OrSkips (IsHadBy v account) Seeks) old (unsent v from) new → new.first_new ≡ Some first_new → HadAllBefore w account first_new
  had_before v old new from first_new same first past offered found = λ p waiting before.
      let there = stood w (λ b x. is_open (status_of w b) && is_none x.owner) p waiting in
      let parts = and_parts (is_open (status_of w there.book)) (is_none there.x.owner) there.passed in
      all_had (unsent w first_place) old new first_new (rising_among w first_place 1 w.units) past found
      (subst (λ q. OffersAll Sees old (unsent w q) new) first (subst (λ u. OffersAll (OrSkips (IsHadBy u account) Seeks) old (unsent u from) new) same offered))
      (record { place = p; unit = there.book.unit })
      (world_lists w first_place 1 w.units there.index there.book there.x p there.found there.stands parts.1 parts.0 there.place (after_first p there.index there.place))
      (before_from p first_new before)
