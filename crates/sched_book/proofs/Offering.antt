-- Offers that ended before the first, and offers by relations that follow from others.
use Rattle.std.proofs.Common.{List, [], ◌∷◌, ◌++◌, refl, inl, inr}
use Rattle.sched_book.specs.Offers.{OffersAll, OffersSome, OfferedSome, OrSkips}
use Rattle.sched_book.specs.declared.desk.Candidate.{Candidate}
use Rattle.sched_book.specs.declared.desk.Flow.{Flow}
use Rattle.sched_book.specs.declared.desk.Flow.TheVariants.{GoOn, Stop}

none_of : {T : Type 0} (takes : T → Candidate → Flow → T → Type 0) (t : T) (cs : List Candidate) → OffersSome takes t cs t
none_of takes t [] = refl
none_of takes t (c ∷ cs) = inl refl

-- nothing was offered yet
pub offered_none : {T : Type 0} (takes : T → Candidate → Flow → T → Type 0) (t : T) (these : List Candidate) → OfferedSome takes t these t
offered_none takes t these = λ more. none_of takes t (these ++ more)

-- offers by one relation are offers by any that follows from it
module _ {T : Type 0} (takes weaker : T → Candidate → Flow → T → Type 0)
    (follows : (old : T) (c : Candidate) (flow : Flow) (new : T) → takes old c flow new → weaker old c flow new) where
  pub all_weaker : (old : T) (cs : List Candidate) (new : T) → OffersAll takes old cs new → OffersAll weaker old cs new
  all_weaker old [] new same = same
  all_weaker old (c ∷ cs) new (inl stop) = inl (follows old c Stop new stop)
  all_weaker old (c ∷ cs) new (inr (mid, go, more)) = inr (mid, follows old c GoOn mid go, all_weaker mid cs new more)

  pub some_weaker : (old : T) (cs : List Candidate) (new : T) → OffersSome takes old cs new → OffersSome weaker old cs new
  some_weaker old [] new same = same
  some_weaker old (c ∷ cs) new (inl same) = inl same
  some_weaker old (c ∷ cs) new (inr (inl stop)) = inr (inl (follows old c Stop new stop))
  some_weaker old (c ∷ cs) new (inr (inr (mid, go, more))) = inr (inr (mid, follows old c GoOn mid go, some_weaker mid cs new more))

-- so are offers by one that may leave out candidates, if none was left out
module _ {T : Type 0} (May : Candidate → Type 0) (takes : T → Candidate → Flow → T → Type 0) where
  pub all_kept : (old : T) (cs : List Candidate) (new : T) → OffersAll takes old cs new → OffersAll (OrSkips May takes) old cs new
  all_kept = all_weaker takes (OrSkips May takes) (λ old c flow new taken. inl taken)

  pub some_kept : (old : T) (cs : List Candidate) (new : T) → OffersSome takes old cs new → OffersSome (OrSkips May takes) old cs new
  some_kept = some_weaker takes (OrSkips May takes) (λ old c flow new taken. inl taken)
