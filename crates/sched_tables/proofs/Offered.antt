-- What a taker that notes passes on to another, what it notes, and what is left out.
use Rattle.std.proofs.Common.{◌≡◌, ℕ, suc, ◌+◌, Bool, true, false, true≢false, ◌&&◌, cond, not, is_none, List, [], ◌∷◌, ◌++◌, Option, Some, None, refl, sym, ap, ap₂, subst, ◌∙◌, inl, inr, arith}
use Rattle.std.specs.Prelude.{All, slice_get, option_and_then, option_map}
use Rattle.std.specs.List.{AllByRecursion}
use Rattle.std.proofs.lemmas.Bool.Decides.{nat_tests}
use Rattle.sched_book.specs.Offers.{OffersAll, OffersSome, unsent, unsent_among, unsent_in}
use Rattle.sched_book.specs.Count.{is_open}
use Rattle.sched_book.specs.Places.{is_before, unit_at, status_of}
use Rattle.sched_book.specs.declared.desk.Candidate.{Candidate}
use Rattle.sched_book.specs.declared.desk.Flow.{Flow}
use Rattle.sched_book.specs.declared.instance.Instance.{Instance}
use Rattle.sched_book.specs.declared.instance.Place.{Place}
use Rattle.sched_book.specs.declared.instance.UnitBook.{UnitBook}
use Rattle.sched_book.specs.declared.world.World.{World}
use Rattle.table_changes.proofs.Adding.{all_both}
use Rattle.table_desk.specs.Columns.{counted_host_at}
use Rattle.table_desk.specs.Skips.{covers, least_place, SkipPlaces, IsCovered}
use Rattle.sched_book.specs.Offers.{OrSkips}
use Rattle.table_desk.proofs.Jumps.{all_implied, some_implied}
use Rattle.table_worlds.proofs.ByPlace.{nth_next}
use Rattle.table_cache.specs.Covering.{jobs_of, IsSkipFor}
use Rattle.table_desk.specs.WaitingWindow.{waiting_of}
use Rattle.sched_tables.specs.Offering.{IsCandidateOf, MaySkip}
use Rattle.table_cache.specs.Remembering.{IsUnitOf}
use Rattle.sched_tables.specs.declared.offering.Noting.{Noting}
use Rattle.table_cache.proofs.HadBy.{had_if_given}

-- ---- each candidate has the workunit at its place, and waits

-- the workunit of a candidate is the one at its place, and the instance there waits
abbrev IsUnsentOf : World → Candidate → Type 0
IsUnsentOf w c = IsCandidateOf w c × (waiting_of w c.place.unit c.place.number ≡ Some true)

module _ (w : World) (from : Place) where
  of_one : (place : ℕ) (b : UnitBook) → unit_at w place ≡ Some b → is_open (status_of w b) ≡ true → (number : ℕ) (xs : List Instance)
      → ((i n : ℕ) (x : Instance) → n ≡ i + number → slice_get xs i ≡ Some x → slice_get b.instances n ≡ Some x) → AllByRecursion (IsUnsentOf w) (unsent_in from place b.unit number xs)
  of_one place b stands opened number [] are = tt
  of_one place b stands opened number (x ∷ xs) are =
      go (is_none x.owner) refl (not (is_before here from)) (of_one place b stands opened (number + 1) xs (λ i n y is at. are (suc i) n y (omega (arith, is)) at))
    where
      here : Place
      here = record { unit = place; number = number }

      more : List Candidate
      more = unsent_in from place b.unit (number + 1) xs

      waits : is_none x.owner ≡ true → waiting_of w place number ≡ Some true
      waits free =
          ap (λ (o : Option UnitBook). option_and_then (λ (b : UnitBook). option_map (λ (x : Instance). is_open (status_of w b) && is_none x.owner) (slice_get b.instances number)) o) stands
          ∙ ap (λ (o : Option Instance). option_map (λ (x : Instance). is_open (status_of w b) && is_none x.owner) o) (are 0 number x (omega arith) refl)
          ∙ ap₂ (λ s t. Some (s && t)) opened free

      go : (free : Bool) → is_none x.owner ≡ free → (from_here : Bool) → AllByRecursion (IsUnsentOf w) more → AllByRecursion (IsUnsentOf w) (cond (free && from_here) (record { place = here; unit = b.unit } ∷ more) more)
      go true free true later = ((ap (option_map (λ (b : UnitBook). b.unit)) stands, waits free), later)
      go true free false later = later
      go false free from_here later = later

  of_each : (place : ℕ) (bs : List UnitBook) → ((i n : ℕ) (b : UnitBook) → n ≡ i + place → slice_get bs i ≡ Some b → unit_at w n ≡ Some b) → AllByRecursion (IsUnsentOf w) (unsent_among w from place bs)
  of_each place [] stand = tt
  of_each place (b ∷ bs) stand = go (is_open (status_of w b)) refl (of_each (place + 1) bs (λ i n b at is. stand (suc i) n b (omega (arith, at)) is))
    where
      more : List Candidate
      more = unsent_among w from (place + 1) bs

      go : (opened : Bool) → is_open (status_of w b) ≡ opened → AllByRecursion (IsUnsentOf w) more → AllByRecursion (IsUnsentOf w) (cond opened (unsent_in from place b.unit 0 b.instances ++ more) more)
      go true opened later =
          all_both (IsUnsentOf w) (unsent_in from place b.unit 0 b.instances) more
          (of_one place b (stand 0 place b (omega arith) refl) opened 0 b.instances (λ i n x is at. ap (slice_get b.instances) (let same : n ≡ i = omega (arith, is) in same) ∙ at)) later
      go false opened later = later

  candidates_stand : AllByRecursion (IsUnsentOf w) (unsent w from)
  candidates_stand = of_each 1 w.units (λ i n b at is. subst (λ m. unit_at w m ≡ Some b) (sym at) (nth_next w.units i ∙ is))

-- ---- offers that are passed on

-- Suppose each offer to one taker is also one to a taker within it, and a relation holds from before it to after it. Then this is so of several
-- offers, too.
module _ {N T : Type 0} (notes : N → Candidate → Flow → N → Type 0) (takes : T → Candidate → Flow → T → Type 0) (taker : N → T)
    (Fits : Candidate → Type 0) (Leaves : N → N → Type 0) (none : (n : N) → Leaves n n) (on : (a b c : N) → Leaves a b → Leaves b c → Leaves a c)
    (each : (old new : N) (c : Candidate) (flow : Flow) → Fits c → notes old c flow new → takes (taker old) c flow (taker new) × Leaves old new) where
  pub all_on : (cs : List Candidate) (old new : N) → AllByRecursion Fits cs → OffersAll notes old cs new → OffersAll takes (taker old) cs (taker new) × Leaves old new
  all_on [] old new fit same = (ap taker same, subst (λ n. Leaves old n) (sym same) (none old))
  all_on (c ∷ cs) old new fit (inl stop) = let one = each old new c _ fit.0 stop in (inl one.0, one.1)
  all_on (c ∷ cs) old new fit (inr (mid, go, more)) =
      let one = each old mid c _ fit.0 go in
      let rest = all_on cs mid new fit.1 more in (inr (taker mid, one.0, rest.0), on old mid new one.1 rest.1)

  pub some_on : (cs : List Candidate) (old new : N) → AllByRecursion Fits cs → OffersSome notes old cs new → OffersSome takes (taker old) cs (taker new) × Leaves old new
  some_on [] old new fit same = (ap taker same, subst (λ n. Leaves old n) (sym same) (none old))
  some_on (c ∷ cs) old new fit (inl same) = (inl (ap taker same), subst (λ n. Leaves old n) (sym same) (none old))
  some_on (c ∷ cs) old new fit (inr (inl stop)) = let one = each old new c _ fit.0 stop in (inr (inl one.0), one.1)
  some_on (c ∷ cs) old new fit (inr (inr (mid, go, more))) =
      let one = each old mid c _ fit.0 go in
      let rest = some_on cs mid new fit.1 more in (inr (inr (taker mid, one.0, rest.0)), on old mid new one.1 rest.1)

-- ---- what may be left out

none_before : (p : Place) → is_before p least_place ≡ false
none_before p = grind (arith, nat_tests)

-- what a skip covers is of a workunit that the user had; if no account is named, it covers nothing
may_leave_out : (w : World) (account : Option ℕ) (skip : SkipPlaces) → IsSkipFor (waiting_of w) (jobs_of w) (counted_host_at w) account skip
    → (c : Candidate) → waiting_of w c.place.unit c.place.number ≡ Some true → IsCovered skip c → MaySkip w account c
may_leave_out w None skip is c waits covered =
    absurd (true≢false (sym covered ∙ ap (λ (f : SkipPlaces). covers f c.place) is ∙ ap (λ b. b && true) (none_before c.place)))
may_leave_out w (Some account) skip is c waits covered = had_if_given w account c.place.unit (is c.place.unit c.place.number waits covered)

-- if no account is named, nothing is left out
module _ {T : Type 0} (takes : T → Candidate → Flow → T → Type 0) (w : World) where
  abbrev LeavesNone : T → Candidate → Flow → T → Type 0
  LeavesNone = OrSkips (MaySkip w None) takes

  offered : (old : T) (c : Candidate) (flow : Flow) (new : T) → LeavesNone old c flow new → takes old c flow new
  offered old c flow new (inl is) = is
  offered old c flow new (inr (never, goes, same)) = absurd never

  pub none_skipped_all : (old : T) (cs : List Candidate) (new : T) → OffersAll (OrSkips (MaySkip w None) takes) old cs new → OffersAll takes old cs new
  none_skipped_all = all_implied LeavesNone takes offered

  pub none_skipped_some : (old : T) (cs : List Candidate) (new : T) → OffersSome (OrSkips (MaySkip w None) takes) old cs new → OffersSome takes old cs new
  none_skipped_some = some_implied LeavesNone takes offered

-- ---- a taker that notes, and passes offers on to another one

module _ {T : Type 0} (takes : T → Candidate → Flow → T → Type 0) (w : World) where
  abbrev pub Notes : Noting T → Candidate → Flow → Noting T → Type 0
  Notes old c flow new =
      takes old.taker.now c flow new.taker.now × ((v : World) → IsCandidateOf v c → All (IsUnitOf v) old.noted.now.items → All (IsUnitOf v) new.noted.now.items)
      × (new.taker.ghost_name ≡ old.taker.ghost_name) × (new.noted.ghost_name ≡ old.noted.ghost_name)

  -- what is noted stays the world's, and the same values are borrowed
  abbrev pub NotesOn : Noting T → Noting T → Type 0
  NotesOn old new =
      (All (IsUnitOf w) old.noted.now.items → All (IsUnitOf w) new.noted.now.items) × (new.taker.ghost_name ≡ old.taker.ghost_name) × (new.noted.ghost_name ≡ old.noted.ghost_name)

  notes_none : (n : Noting T) → NotesOn n n
  notes_none n = (λ all. all, refl, refl)

  notes_on : (a b c : Noting T) → NotesOn a b → NotesOn b c → NotesOn a c
  notes_on a b c one two = (λ all. two.0 (one.0 all), two.1 ∙ one.1, two.2 ∙ one.2)

  -- Suppose this is a skip of the user, and it leaves out what the skip covers.
  module _ (account : Option ℕ) (skip : SkipPlaces) (is : IsSkipFor (waiting_of w) (jobs_of w) (counted_host_at w) account skip) where
    abbrev Noted : Noting T → Candidate → Flow → Noting T → Type 0
    Noted = OrSkips (IsCovered skip) Notes

    abbrev Taken : T → Candidate → Flow → T → Type 0
    Taken = OrSkips (MaySkip w account) takes

    handed : (old new : Noting T) (c : Candidate) (flow : Flow) → IsUnsentOf w c → Noted old c flow new → Taken old.taker.now c flow new.taker.now × NotesOn old new
    handed old new c flow fits (inl noted) = (inl noted.0, (noted.1 w fits.0, noted.2, noted.3))
    handed old new c flow fits (inr (covered, goes, same)) = (
      inr (may_leave_out w account skip is c fits.1 covered, goes, ap (λ (n : Noting T). n.taker.now) same),
      subst (NotesOn old) (sym same) (notes_none old),
    )

    pub passed_on_all : (from : Place) (old new : Noting T) → OffersAll (OrSkips (IsCovered skip) Notes) old (unsent w from) new
        → OffersAll (OrSkips (MaySkip w account) takes) old.taker.now (unsent w from) new.taker.now × NotesOn old new
    passed_on_all from old new = all_on Noted Taken (λ n. n.taker.now) (IsUnsentOf w) NotesOn notes_none notes_on handed (unsent w from) old new (candidates_stand w from)

    pub passed_on_some : (from : Place) (old new : Noting T) → OffersSome (OrSkips (IsCovered skip) Notes) old (unsent w from) new
        → OffersSome (OrSkips (MaySkip w account) takes) old.taker.now (unsent w from) new.taker.now × NotesOn old new
    passed_on_some from old new = some_on Noted Taken (λ n. n.taker.now) (IsUnsentOf w) NotesOn notes_none notes_on handed (unsent w from) old new (candidates_stand w from)
