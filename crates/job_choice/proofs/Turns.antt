-- Offers in turns, each up to a candidate that could not be judged, make one choice among all candidates.
use Rattle.std.proofs.Common.{◌≡◌, ◌⊎◌, inl, inr, ℕ, zero, suc, ◌+◌, ◌*◌, ◌<◌, ◌≤◌, Bool, true, false, cond, not, List, [], ◌∷◌, ◌++◌, length, length-append, Option, Some, None, sym, refl, ap, ◌∙◌, subst, arith}
use Rattle.std.specs.Prelude.{◌||◌, ◌&&◌, All, is_none, is_some, option_map, unwrap_or}
use Rattle.std.proofs.lemmas.List.Elements.{All-head, All-tail}
use Rattle.std.proofs.lemmas.Bool.{both_ways}
use Rattle.sched_book.specs.Count.{is_open}
use Rattle.sched_book.specs.Fits.{fits, version_for}
use Rattle.sched_book.specs.Limits.{most_instances, most_workunits, IsBounded}
use Rattle.sched_book.specs.Places.{option_any, status_of, is_before}
use Rattle.sched_book.specs.Skipping.{user_had_at, IsHadBy}
use Rattle.sched_book.specs.Offers.{unsent, unsent_in, unsent_among, OffersAll, OrSkips}
use Rattle.sched_book.specs.declared.desk.Candidate.{Candidate}
use Rattle.sched_book.specs.declared.desk.Flow.{Flow}
use Rattle.sched_book.specs.declared.desk.Flow.TheVariants.{GoOn, Stop}
use Rattle.sched_book.specs.declared.instance.Instance.{Instance}
use Rattle.sched_book.specs.declared.instance.Place.{Place}
use Rattle.sched_book.specs.declared.instance.UnitBook.{UnitBook}
use Rattle.sched_book.specs.declared.rows.Version.{Version}
use Rattle.sched_book.specs.declared.rows.Workunit.{Workunit}
use Rattle.sched_book.specs.declared.world.World.{World}
use Rattle.job_choice.specs.Choosing.{is_full, can_judge, has_job_of, known_of, unjudged_of, unjudged_at, with_job, after_past, after_version, after_app, after, Takes}
use Rattle.job_choice.specs.Offered.{first_place, IsRight, IsUpToDate, judged, Chooses, HasChosen}
use Rattle.job_choice.specs.Past.{known_had, IsUserPast}
use Rattle.job_choice.specs.declared.choosing.Choosing.{Choosing}
use Rattle.job_choice.specs.declared.choosing.Known.{Known}
use Rattle.job_choice.specs.declared.choosing.KnownApp.{KnownApp}
use Rattle.job_choice.specs.declared.choosing.Unjudged.{Unjudged}
use Rattle.job_choice.proofs.Known.{known_is}
use Rattle.job_choice.proofs.Looked.{had_is}
use Rattle.job_choice.proofs.Resuming.{resumed}
use Rattle.job_choice.proofs.Taking.{goes}

module _ (w : World) (account : ℕ) where
  -- it is ready, and its host is of the account
  abbrev IsReadyFor : Choosing → Type 0
  IsReadyFor t = IsUpToDate w t × (t.host.now.account ≡ account)

  -- A candidate, as a taker that is ready leaves it.
  module _ (t : Choosing) (c : Candidate) where
    abbrev had : Bool
    had = user_had_at w t.host.now.account c.place.unit

    stays_ready : IsReadyFor t → IsReadyFor (judged w t c)
    stays_ready ready = by (has_job_of t.jobs c.place.unit) (version_for w t.host.now c.unit.app)
      where
        fit : (fits has_had : Bool) (v : Version) → IsReadyFor (cond fits (cond has_had t (with_job t c v)) t)
        fit true true v = ready
        fit true false v = (record { known = ready.0.known; unjudged = ready.0.unjudged }, ready.1)
        fit false has_had v = ready

        by : (has : Bool) (o : Option Version) → IsReadyFor (cond has t (after_version t c (Some had) o))
        by true o = ready
        by false None = ready
        by false (Some v) = fit (fits t.host.now c.unit (Some v)) had v

    -- nothing is taken of a workunit that the user had an instance of
    had_one : (o : Option Version) → true ≡ had → t ≡ after_version t c (Some had) o
    had_one None one = refl
    had_one (Some v) one = subst (λ h. t ≡ cond (fits t.host.now c.unit (Some v)) (cond h t (with_job t c v)) t) one (same (fits t.host.now c.unit (Some v)))
      where
        same : (fit : Bool) → t ≡ cond fit t t
        same true = refl
        same false = refl

    -- it is judged as the world says, or not at all
    judged_or_not : (new : Choosing) → IsUpToDate w t → new ≡ after t c → (new ≡ judged w t c) ⊎ (new ≡ unjudged_at t c)
    judged_or_not new ready is = by_job (has_job_of t.jobs c.place.unit) is
      where
        known_past : Option Bool
        known_past = known_had t.known.past c.place.unit

        by_past : (v : Version) (fit : Bool) (o : Option Bool) → known_past ≡ o → new ≡ cond fit (after_past t c v o) t
            → (new ≡ cond fit (cond had t (with_job t c v)) t) ⊎ (new ≡ unjudged_at t c)
        by_past v false o known is = inl is
        by_past v true None known is = inr is
        by_past v true (Some some) known is =
            inl (is ∙ ap (λ h. cond h t (with_job t c v)) (had_is w t.host.now.account t.known.past c.place.unit some ready.known.past known))

        by_version : (o : Option Version) → new ≡ after_version t c known_past o → (new ≡ after_version t c (Some had) o) ⊎ (new ≡ unjudged_at t c)
        by_version None is = inl is
        by_version (Some v) is = by_past v (fits t.host.now c.unit (Some v)) known_past refl is

        by_app : (k : Option KnownApp) → known_of t.known.apps c.unit.app ≡ k → new ≡ after_app t c known_past k
            → (new ≡ after_version t c (Some had) (version_for w t.host.now c.unit.app)) ⊎ (new ≡ unjudged_at t c)
        by_app None found is = inr is
        by_app (Some k) found is = by_version (version_for w t.host.now c.unit.app)
            (is ∙ ap (after_version t c known_past) (known_is w t.host.now c.unit.app t.known.apps k ready.known.apps found))

        by_known : (o : Option Bool) → known_past ≡ o → new ≡ cond (unwrap_or o false) t (after_app t c known_past (known_of t.known.apps c.unit.app))
            → (new ≡ after_version t c (Some had) (version_for w t.host.now c.unit.app)) ⊎ (new ≡ unjudged_at t c)
        by_known None known is = by_app (known_of t.known.apps c.unit.app) refl is
        by_known (Some false) known is = by_app (known_of t.known.apps c.unit.app) refl is
        by_known (Some true) known is =
            inl (is ∙ had_one (version_for w t.host.now c.unit.app) (had_is w t.host.now.account t.known.past c.place.unit true ready.known.past known))

        by_job : (has : Bool) → new ≡ cond (has || unwrap_or known_past false) t (after_app t c known_past (known_of t.known.apps c.unit.app))
            → (new ≡ cond has t (after_version t c (Some had) (version_for w t.host.now c.unit.app))) ⊎ (new ≡ unjudged_at t c)
        by_job true is = inl is
        by_job false is = by_known known_past refl is

    -- at a candidate that can be judged it does not stop
    not_judged : t.unjudged ≡ None → after t c ≡ unjudged_at t c → can_judge t.known (unjudged_of c) ≡ false
    not_judged none is = by_job (has_job_of t.jobs c.place.unit) is
      where
        known_past : Option Bool
        known_past = known_had t.known.past c.place.unit

        never : (new : Choosing) → new.unjudged ≡ None → new ≡ unjudged_at t c → ⊥
        never new left is = let no : None ≡ Some (unjudged_of c) = sym left ∙ ap (λ (n : Choosing). n.unjudged) is in absurd cc

        by_past : (v : Version) (fit : Bool) (o : Option Bool) → cond fit (after_past t c v o) t ≡ unjudged_at t c → is_some o ≡ false
        by_past v false o is = absurd (never t none is)
        by_past v true None is = refl
        by_past v true (Some true) is = absurd (never t none is)
        by_past v true (Some false) is = absurd (never (with_job t c v) none is)

        by_version : (o : Option Version) → after_version t c known_past o ≡ unjudged_at t c → (not (is_some o) || is_some known_past) ≡ false
        by_version None is = absurd (never t none is)
        by_version (Some v) is = by_past v (fits t.host.now c.unit (Some v)) known_past is

        by_app : (k : Option KnownApp) → after_app t c known_past k ≡ unjudged_at t c
            → option_any (λ runs. not runs || is_some known_past) (option_map (λ (a : KnownApp). is_some a.version) k) ≡ false
        by_app None is = refl
        by_app (Some k) is = by_version k.version is

        by_job : (has : Bool) → cond (has || unwrap_or known_past false) t (after_app t c known_past (known_of t.known.apps c.unit.app)) ≡ unjudged_at t c
            → can_judge t.known (unjudged_of c) ≡ false
        by_job true is = absurd (never t none is)
        by_job false is = by_left (unwrap_or known_past false) is
          where
            by_left : (left : Bool) → cond left t (after_app t c known_past (known_of t.known.apps c.unit.app)) ≡ unjudged_at t c
                → can_judge t.known (unjudged_of c) ≡ false
            by_left true is = absurd (never t none is)
            by_left false is = by_app (known_of t.known.apps c.unit.app) is

    -- judging learns nothing
    same_known : (judged w t c).known ≡ t.known
    same_known = by (has_job_of t.jobs c.place.unit) (version_for w t.host.now c.unit.app)
      where
        fit : (fits has_had : Bool) (v : Version) → (cond fits (cond has_had t (with_job t c v)) t).known ≡ t.known
        fit true true v = refl
        fit true false v = refl
        fit false has_had v = refl

        by : (has : Bool) (o : Option Version) → (cond has t (after_version t c (Some had) o)).known ≡ t.known
        by true o = refl
        by false None = refl
        by false (Some v) = fit (fits t.host.now c.unit (Some v)) had v

    -- what is known does not change what the world says
    knows_else : (known later : Known) → record (judged w (record t { known = known }) c) { known = later } ≡ record (judged w t c) { known = later }
    knows_else known later = by (has_job_of t.jobs c.place.unit) (version_for w t.host.now c.unit.app)
      where
        other : Choosing
        other = record t { known = known }

        fit : (fits has_had : Bool) (v : Version)
            → record (cond fits (cond has_had other (with_job other c v)) other) { known = later } ≡ record (cond fits (cond has_had t (with_job t c v)) t) { known = later }
        fit true true v = refl
        fit true false v = refl
        fit false has_had v = refl

        by : (has : Bool) (o : Option Version)
            → record (cond has other (after_version other c (Some had) o)) { known = later } ≡ record (cond has t (after_version t c (Some had) o)) { known = later }
        by true o = refl
        by false None = refl
        by false (Some v) = fit (fits t.host.now c.unit (Some v)) had v

    chooses : (flow : Flow) (new : Choosing) → IsReadyFor t → flow ≡ cond (is_some new.unjudged || is_full new) Stop GoOn → new ≡ judged w t c
        → Chooses w t c flow new
    chooses flow new ready goes_on is =
        let none : new.unjudged ≡ None = ap (λ (n : Choosing). n.unjudged) is ∙ (stays_ready ready).0.unjudged in (
          goes_on ∙ ap (λ (o : Option Unjudged). cond (is_some o || is_full new) Stop GoOn) none,
          subst (λ (n : Choosing). n ≡ record (judged w t c) { known = n.known }) (sym is) refl,
        )

    -- if it is left out, as one of a workunit that the user had may be, that is what the world says
    skipped : (new : Choosing) → IsReadyFor t → is_full t ≡ false → IsHadBy w account c → new ≡ t → Chooses w t c GoOn new
    skipped new ready room one same =
        subst (λ (n : Choosing). Chooses w t c GoOn n) (sym same)
        (sym (ap (λ (full : Bool). cond full Stop GoOn) room), ap (λ (s : Choosing). record s { known = t.known }) (as_it_is (has_job_of t.jobs c.place.unit)))
      where
        its_one : true ≡ had
        its_one = sym (ap (λ a. user_had_at w a c.place.unit) ready.1 ∙ one)

        as_it_is : (has : Bool) → t ≡ cond has t (after_version t c (Some had) (version_for w t.host.now c.unit.app))
        as_it_is true = refl
        as_it_is false = had_one (version_for w t.host.now c.unit.app) its_one

  -- with more known it chooses as it would have
  knows_more : (t : Choosing) (known : Known) (c : Candidate) (left : List Candidate) (last : Choosing)
      → OffersAll (Chooses w) (record t { known = known }) (c ∷ left) last → OffersAll (Chooses w) t (c ∷ left) last
  knows_more t known c left last h = elim h [
    | inl stopped ↦ inl (stopped.0, stopped.1 ∙ knows_else t c known last.known)
    | inr more ↦ inr (more.0, (more.1.0, more.1.1 ∙ knows_else t c known more.0.known), more.2)
  ]

  -- The offers stopped at a candidate that could not be judged. What is chosen from it on is chosen from all.
  record StoppedAt (old : Choosing) (all : List Candidate) (new : Choosing) : Type 0 where
    front : List Candidate
    c : Candidate
    left : List Candidate
    parts : all ≡ front ++ c ∷ left
    before : Choosing
    is : new ≡ unjudged_at before c
    ready : IsReadyFor before
    room : is_full before ≡ false
    unknown : can_judge old.known (unjudged_of c) ≡ false
    leads : (last : Choosing) → OffersAll (Chooses w) before (c ∷ left) last → OffersAll (Chooses w) old all last

  -- what becomes of one turn of offers
  abbrev Turned : Choosing → List Candidate → Choosing → Type 0
  Turned old all new = (OffersAll (Chooses w) old all new × IsReadyFor new) ⊎ StoppedAt old all new

  -- with one more candidate in front, which was judged
  one_before : (c : Candidate) (cs : List Candidate) (old mid new : Choosing) → Chooses w old c GoOn mid → mid.known ≡ old.known → Turned mid cs new → Turned old (c ∷ cs) new
  one_before c cs old mid new one same (inl (all, ready)) = inl (inr (mid, one, all), ready)
  one_before c cs old mid new one same (inr stopped) = inr (record {
    front = c ∷ stopped.front;
    c = stopped.c;
    left = stopped.left;
    parts = ap (λ cs. c ∷ cs) stopped.parts;
    before = stopped.before;
    is = stopped.is;
    ready = stopped.ready;
    room = stopped.room;
    unknown = subst (λ known. can_judge known (unjudged_of stopped.c) ≡ false) same stopped.unknown;
    leads = λ last h. inr (mid, one, stopped.leads last h);
  })

  -- one turn of offers, in which candidates of workunits that the user had may be left out
  one_turn : (cs : List Candidate) (old new : Choosing) → IsReadyFor old → is_full old ≡ false → new.refused ≡ false
      → OffersAll (OrSkips (IsHadBy w account) Takes) old cs new → Turned old cs new
  one_turn [] old new ready room kept h = inl (h, subst IsReadyFor (sym h) ready)
  one_turn (c ∷ cs) old new ready room kept (inl (inr (one, never, same))) = absurd (let differ : Stop ≡ GoOn = never in cc)
  one_turn (c ∷ cs) old new ready room kept (inl (inl (inl (stopped, refused)))) = absurd (both_ways new.refused kept refused)
  one_turn (c ∷ cs) old new ready room kept (inl (inl (inr (flow, taken)))) = elim (judged_or_not old c new ready.0 taken) [
    | inl is ↦ inl (inl (chooses old c Stop new ready flow is), subst IsReadyFor (sym is) (stays_ready old c ready))
    | inr not_yet ↦ inr (record {
      front = [];
      c = c;
      left = cs;
      parts = refl;
      before = old;
      is = not_yet;
      ready = ready;
      room = room;
      unknown = not_judged old c ready.0.unjudged (sym taken ∙ not_yet);
      leads = λ last h. h;
    })
  ]
  one_turn (c ∷ cs) old new ready room kept (inr (mid, inr (one, flow, same), more)) =
      one_before c cs old mid new (skipped old c mid ready room one same) (ap (λ (n : Choosing). n.known) same)
      (one_turn cs mid new (subst IsReadyFor (sym same) ready) (ap is_full same ∙ room) kept more)
  one_turn (c ∷ cs) old new ready room kept (inr (mid, inl (inl (never, refused)), more)) = absurd (let differ : GoOn ≡ Stop = never in cc)
  one_turn (c ∷ cs) old new ready room kept (inr (mid, inl (inr (flow, taken)), more)) = elim (judged_or_not old c mid ready.0 taken) [
    | inl is ↦ (let one = chooses old c GoOn mid ready flow is in
        one_before c cs old mid new one (ap (λ (n : Choosing). n.known) is ∙ same_known old c)
        (one_turn cs mid new (subst IsReadyFor (sym is) (stays_ready old c ready)) (goes (is_full mid) one.0) kept more))
    | inr not_yet ↦ absurd (let differ : GoOn ≡ Stop = subst (λ (n : Choosing). GoOn ≡ cond (is_some n.unjudged || is_full n) Stop GoOn) not_yet flow in cc)
  ]

  -- At the place of a stop the candidate can be judged. After each stop but the first there is one candidate less.
  abbrev pub Passes : ℕ → Choosing → Place → Type 0
  Passes stops now from =
      ((stops ≡ 0) × (length (unsent w from) ≤ length (unsent w first_place)))
      ⊎ ((c : Candidate) × (cs : List Candidate) × (unsent w from ≡ c ∷ cs) × (can_judge now.known (unjudged_of c) ≡ true)
      × (stops + length (unsent w from) ≤ length (unsent w first_place) + 1))

  pub begins : (now : Choosing) → Passes 0 now first_place
  begins now = inl (refl, omega arith)

  -- What is chosen from a place on is chosen from all candidates.
  pub record Resumes (old now : Choosing) (from : Place) : Type 0 where
    pub ready : IsReadyFor now
    pub room : is_full now ≡ false
    pub leads : (last : Choosing) → OffersAll (Chooses w) now (unsent w from) last → OffersAll (Chooses w) old (unsent w first_place) last

  -- a turn from a place on, in a world that is the same
  module _ (v : World) (old now new : Choosing) (from : Place) (same : v ≡ w) (on : Resumes old now from) (kept : new.refused ≡ false)
      (offered : OffersAll (OrSkips (IsHadBy v account) Takes) now (unsent v from) new) where
    turned : Turned now (unsent w from) new
    turned = one_turn (unsent w from) now new on.ready on.room kept
        (subst (λ v. OffersAll (OrSkips (IsHadBy v account) Takes) now (unsent v from) new) same offered)

    ended : new.unjudged ≡ None → OffersAll (Chooses w) now (unsent w from) new × IsReadyFor new
    ended none = elim turned [
      | inl all ↦ all
      | inr stopped ↦ absurd (let never : None ≡ Some (record { place = stopped.c.place; app = stopped.c.unit.app }) = sym none ∙ ap (λ (n : Choosing). n.unjudged) stopped.is in cc)
    ]

    -- the last turn
    pub turns_end : (left : Option Unjudged) → is_full old ≡ false → new.unjudged ≡ None → left ≡ None → HasChosen w old (record new { unjudged = left })
    turns_end left room none none_left = inr (
      room,
      subst (λ o. OffersAll (Chooses w) old (unsent w first_place) (record new { unjudged = o })) (none ∙ sym none_left) (on.leads new (ended none).0),
    )

    -- what is known of the user's past after it is true
    pub past_is : new.unjudged ≡ None → IsUserPast w account new.known.past
    past_is none = let last = (ended none).1 in subst (λ a. IsUserPast w a new.known.past) last.1 last.0.known.past

    -- a turn that stopped, after the candidate was judged
    pub passes_on : (stops : ℕ) (left : Option Unjudged) (at : Unjudged) (more : Known) → new.unjudged ≡ Some at → can_judge more at ≡ true
        → Passes stops now from → Passes (stops + 1) (record new { unjudged = left; known = more }) at.place
    passes_on stops left at more some judged passes = elim turned [
      | inl all ↦ absurd (let never : None ≡ Some at = sym all.1.0.unjudged ∙ some in cc)
      | inr stopped ↦ passed_at stopped
    ]
      where
        passed_at : StoppedAt now (unsent w from) new → Passes (stops + 1) (record new { unjudged = left; known = more }) at.place
        passed_at s =
            let at_is : at ≡ unjudged_of s.c = (let same : Some (unjudged_of s.c) ≡ Some at = sym (ap (λ (n : Choosing). n.unjudged) s.is) ∙ some in cc) in
            subst (λ (p : Place). Passes (stops + 1) (record new { unjudged = left; known = more }) p) (sym (ap (λ (a : Unjudged). a.place) at_is))
            (inr (s.c, s.left, here, subst (λ a. can_judge more a ≡ true) at_is judged, fewer passes s.front s.parts))
          where
            here : unsent w s.c.place ≡ s.c ∷ s.left
            here = resumed w from s.front s.c s.left s.parts

            fewer : Passes stops now from → (front : List Candidate) → unsent w from ≡ front ++ s.c ∷ s.left
                → stops + 1 + length (unsent w s.c.place) ≤ length (unsent w first_place) + 1
            fewer (inl (none, all)) front parts =
                let long : length (unsent w from) ≡ length front + length (s.c ∷ s.left) = ap length parts ∙ length-append front (s.c ∷ s.left) in
                let left : length (unsent w s.c.place) ≡ length (s.c ∷ s.left) = ap length here in
                omega (arith, all, left, long, none)
            fewer (inr (c, cs, is, known, all)) [] parts =
                let first : c ∷ cs ≡ s.c ∷ s.left = sym is ∙ parts in
                let same : c ≡ s.c = cc in
                let never : true ≡ false = sym known ∙ ap (λ d. can_judge now.known (unjudged_of d)) same ∙ s.unknown in
                absurd cc
            fewer (inr (c, cs, is, known, all)) (d ∷ front) parts =
                let long : length (unsent w from) ≡ length (d ∷ front) + length (s.c ∷ s.left) = ap length parts ∙ length-append (d ∷ front) (s.c ∷ s.left) in
                let left : length (unsent w s.c.place) ≡ length (s.c ∷ s.left) = ap length here in
                omega (arith, all, left, long)

    -- a turn that stopped at a candidate that could not be judged, after more was learned
    pub turns_go_on : (left : Option Unjudged) (at : Unjudged) (more : Known) → new.unjudged ≡ Some at → left ≡ None
        → (IsRight w new.host.now new.known → IsRight w new.host.now more) → Resumes old (record new { unjudged = left; known = more }) at.place
    turns_go_on left at more some none_left right = elim turned [
      | inl all ↦ absurd (let never : None ≡ Some at = sym all.1.0.unjudged ∙ some in cc)
      | inr stopped ↦ resumes_at stopped
    ]
      where
        resumes_at : StoppedAt now (unsent w from) new → Resumes old (record new { unjudged = left; known = more }) at.place
        resumes_at s =
            let before = s.before in
            let at_is : at ≡ unjudged_of s.c = (let same : Some (unjudged_of s.c) ≡ Some at = sym (ap (λ (n : Choosing). n.unjudged) s.is) ∙ some in cc) in
            let right_then = subst (λ (n : Choosing). IsRight w n.host.now n.known → IsRight w n.host.now more) s.is right in
            let now_is : record new { unjudged = left; known = more } ≡ record before { known = more } =
            ap (λ (n : Choosing). record n { unjudged = left; known = more }) s.is
            ∙ ap (λ (o : Option Unjudged). record before { unjudged = o; known = more }) (none_left ∙ sym s.ready.0.unjudged) in
            subst (λ (t : Choosing). Resumes old t at.place) (sym now_is)
            (subst (λ (p : Place). Resumes old (record before { known = more }) p) (sym (ap (λ (a : Unjudged). a.place) at_is))
            (record {
              ready = (record { known = right_then s.ready.0.known; unjudged = s.ready.0.unjudged }, s.ready.1);
              room = s.room;
              leads = λ last h. on.leads last (s.leads last (knows_more before more s.c s.left last
                  (subst (λ cs. OffersAll (Chooses w) (record before { known = more }) cs last) (resumed w from s.front s.c s.left s.parts) h)));
            }))

-- there are no more candidates than instances
in_unit : (from : Place) (place : ℕ) (unit : Workunit) (number : ℕ) (xs : List Instance) → length (unsent_in from place unit number xs) ≤ length xs
in_unit from place unit number [] = omega arith
in_unit from place unit number (x ∷ xs) =
    cases (is_none x.owner && not (is_before (record { unit = place; number = number }) from)) (in_unit from place unit (number + 1) xs)
  where
    rest : List Candidate
    rest = unsent_in from place unit (number + 1) xs

    cases : (b : Bool) → length rest ≤ length xs → length (cond b (record { place = record { unit = place; number = number }; unit = unit } ∷ rest) rest) ≤ length (x ∷ xs)
    cases true less = omega arith
    cases false less = omega arith

among : (w : World) (from : Place) (place : ℕ) (bs : List UnitBook) → All (λ (b : UnitBook). length b.instances ≤ most_instances) bs
    → length (unsent_among w from place bs) ≤ length bs * 100
among w from place [] few = omega arith
among w from place (b ∷ bs) few =
    cases (is_open (status_of w b)) (among w from (place + 1) bs (All-tail (λ (b : UnitBook). length b.instances ≤ most_instances) b bs few))
  where
    cases : (is : Bool) → length (unsent_among w from (place + 1) bs) ≤ length bs * 100
        → length (cond is (unsent_in from place b.unit 0 b.instances ++ unsent_among w from (place + 1) bs) (unsent_among w from (place + 1) bs)) ≤ length (b ∷ bs) * 100
    cases false more = omega arith
    cases true more =
        let here : length (unsent_in from place b.unit 0 b.instances) ≤ length b.instances = in_unit from place b.unit 0 b.instances in
        let hundred : length b.instances ≤ most_instances = All-head (λ (b : UnitBook). length b.instances ≤ most_instances) b bs few in
        let both : length (unsent_in from place b.unit 0 b.instances ++ unsent_among w from (place + 1) bs)
        ≡ length (unsent_in from place b.unit 0 b.instances) + length (unsent_among w from (place + 1) bs) =
        length-append (unsent_in from place b.unit 0 b.instances) (unsent_among w from (place + 1) bs) in
        omega arith

pub candidates_are_few : (w : World) → IsBounded w → length (unsent w first_place) ≤ 20000000
candidates_are_few w bounded =
    let less : length (unsent_among w first_place 1 w.units) ≤ length w.units * 100 = among w first_place 1 w.units bounded.instances in
    let few : length w.units ≤ most_workunits = bounded.units in
    omega arith

-- so the stops end
pub stops_end : (w : World) (account stops : ℕ) (now : Choosing) (from : Place) → IsBounded w → 20000000 < stops → Passes w account stops now from → ⊥
stops_end w account stops now from bounded many (inl (none, all)) = absurd (omega (arith, many, none))
stops_end w account stops now from bounded many (inr (c, cs, is, known, all)) =
    let few : length (unsent w first_place) ≤ 20000000 = candidates_are_few w bounded in
    let one : length (unsent w from) ≡ length (c ∷ cs) = ap length is in
    absurd (omega (arith, few, one, all, many))
