-- Rule. How a taker is offered candidates, one at a time and in their order.
use Rattle.std.specs.Prelude.{◌≡◌, ◌⊎◌, ℕ, ◌+◌, not, ◌&&◌, if◌then◌else◌, List, [], ◌∷◌, ◌++◌, is_none}
use Rattle.sched_book.specs.Count.{is_open}
use Rattle.sched_book.specs.Places.{status_of, is_before}
use Rattle.sched_book.specs.declared.desk.Candidate.{Candidate}
use Rattle.sched_book.specs.declared.desk.Flow.{Flow}
use Rattle.sched_book.specs.declared.desk.Flow.TheVariants.{GoOn, Stop}
use Rattle.sched_book.specs.declared.instance.Instance.{Instance}
use Rattle.sched_book.specs.declared.instance.Place.{Place}
use Rattle.sched_book.specs.declared.instance.UnitBook.{UnitBook}
use Rattle.sched_book.specs.declared.rows.Workunit.{Workunit}
use Rattle.sched_book.specs.declared.world.World.{World}

-- the candidates among a workunit's instances, from a place on; the first of these instances has the number `number`
abbrev pub unsent_in : Place → ℕ → Workunit → ℕ → List Instance → List Candidate
unsent_in from place unit number [] = []
unsent_in from place unit number (x ∷ xs) =
    if is_none x.owner && not (is_before (record { unit = place; number = number }) from)
    then record { place = record { unit = place; number = number }; unit = unit } ∷ unsent_in from place unit (number + 1) xs
    else unsent_in from place unit (number + 1) xs

abbrev pub unsent_among : World → Place → ℕ → List UnitBook → List Candidate
unsent_among w from place [] = []
unsent_among w from place (b ∷ bs) =
    if is_open (status_of w b)
    then unsent_in from place b.unit 0 b.instances ++ unsent_among w from (place + 1) bs
    else unsent_among w from (place + 1) bs

-- the instances of open workunits that were given to nobody, by place, from a place on
abbrev pub unsent : World → Place → List Candidate
unsent w from = unsent_among w from 1 w.units

-- `takes` says what an offer may do, by the taker before, the candidate, the answer, and the taker after.
module _ {T : Type 0} (takes : T → Candidate → Flow → T → Type 0) where
  -- each candidate is offered, none skipped, up to the one at which the taker stops
  abbrev pub OffersAll : T → List Candidate → T → Type 0
  OffersAll old [] new = new ≡ old
  OffersAll old (c ∷ cs) new = takes old c Stop new ⊎ ((mid : T) × takes old c GoOn mid × OffersAll mid cs new)

  -- the same, but the offers may end early
  abbrev pub OffersSome : T → List Candidate → T → Type 0
  OffersSome old [] new = new ≡ old
  OffersSome old (c ∷ cs) new = (new ≡ old) ⊎ takes old c Stop new ⊎ ((mid : T) × takes old c GoOn mid × OffersSome mid cs new)

-- It is an offer, or the candidate is skipped, if it may be: nothing happens, and the offers go on.
abbrev pub OrSkips : {T : Type 0} → (Candidate → Type 0) → (T → Candidate → Flow → T → Type 0) → T → Candidate → Flow → T → Type 0
OrSkips May takes old c flow new = takes old c flow new ⊎ (May c × (flow ≡ GoOn) × (new ≡ old))

module _ {T : Type 0} (takes : T → Candidate → Flow → T → Type 0) where
  -- If the taker is `now` and these candidates are left, what it makes of them is what `old` makes of all.
  pub record Leads (old : T) (all : List Candidate) (now : T) (left : List Candidate) : Type 0 where
    pub to_all : (last : T) → OffersAll takes now left last → OffersAll takes old all last
    pub to_some : (last : T) → OffersSome takes now left last → OffersSome takes old all last

module _ {T : Type 0} (takes : T → Candidate → Flow → T → Type 0) where
  -- These were offered, regardless of the candidates that follow: the taker continues with those, or has stopped.
  abbrev pub Offered : T → List Candidate → T → Flow → Type 0
  Offered old these new GoOn = (more : List Candidate) → Leads takes old (these ++ more) new more
  Offered old these new Stop = (more : List Candidate) → OffersAll takes old (these ++ more) new

  -- some of these were offered, and nothing else
  abbrev pub OfferedSome : T → List Candidate → T → Type 0
  OfferedSome old these new = (more : List Candidate) → OffersSome takes old (these ++ more) new
