-- Candidates before a place may be left out, so offers from an earlier place on are offers from that place on.
use Rattle.std.proofs.Common.{◌≡◌, ℕ, ◌+◌, Bool, true, false, true≢false, ◌&&◌, cond, not, List, [], ◌∷◌, ◌++◌, refl, sym, ap₂, subst, ◌∙◌, inl, inr, arith, is_none}
use Rattle.std.specs.Prelude.{IsTrue}
use Rattle.std.proofs.lemmas.Bool.Decides.{nat_tests}
use Rattle.sched_book.specs.Count.{is_open}
use Rattle.sched_book.specs.Offers.{unsent, unsent_in, unsent_among, OffersAll, OffersSome, Leads}
use Rattle.sched_book.specs.Places.{is_before, status_of}
use Rattle.sched_book.specs.declared.desk.Candidate.{Candidate}
use Rattle.sched_book.specs.declared.desk.Flow.{Flow}
use Rattle.sched_book.specs.declared.desk.Flow.TheVariants.{GoOn}
use Rattle.sched_book.specs.declared.instance.Instance.{Instance}
use Rattle.sched_book.specs.declared.instance.Place.{Place}
use Rattle.sched_book.specs.declared.instance.UnitBook.{UnitBook}
use Rattle.sched_book.specs.declared.rows.Workunit.{Workunit}
use Rattle.sched_book.specs.declared.world.World.{World}
use Rattle.table_desk.specs.Skips.{covers, SkipPlaces, IsCovered}
use Rattle.sched_book.specs.Offers.{OrSkips}
use Rattle.table_desk.proofs.PagesOffered.{leads_on, leads_one}
use Rattle.table_desk.proofs.PlaceOrder.{not_before}

-- ---- offers by one relation are offers by another that it implies

module _ {T : Type 0} (one other : T → Candidate → Flow → T → Type 0) (implies : (old : T) (c : Candidate) (flow : Flow) (new : T) → one old c flow new → other old c flow new) where
  pub all_implied : (old : T) (cs : List Candidate) (new : T) → OffersAll one old cs new → OffersAll other old cs new
  all_implied old [] new all = all
  all_implied old (c ∷ cs) new (inl stopped) = inl (implies old c _ new stopped)
  all_implied old (c ∷ cs) new (inr (mid, taken, more)) = inr (mid, implies old c _ mid taken, all_implied mid cs new more)

  pub some_implied : (old : T) (cs : List Candidate) (new : T) → OffersSome one old cs new → OffersSome other old cs new
  some_implied old [] new some = some
  some_implied old (c ∷ cs) new (inl ended) = inl ended
  some_implied old (c ∷ cs) new (inr (inl stopped)) = inr (inl (implies old c _ new stopped))
  some_implied old (c ∷ cs) new (inr (inr (mid, taken, more))) = inr (inr (mid, implies old c _ mid taken, some_implied mid cs new more))

-- ---- places from an early one on

module _ (early late : Place) (no_earlier : is_before late early ≡ false) where
  not_early : (p : Place) → is_before p late ≡ false → is_before p early ≡ false
  not_early p from = not_before p late early from no_earlier

  next_number : (unit number : ℕ) → is_before (record { unit = unit; number = number }) late ≡ false → is_before (record { unit = unit; number = number + 1 }) late ≡ false
  next_number unit number from = grind (arith, nat_tests)

  next_unit : (unit number : ℕ) → is_before (record { unit = unit; number = number }) late ≡ false → is_before (record { unit = unit + 1; number = 0 }) late ≡ false
  next_unit unit number from = grind (arith, nat_tests)

  -- from the late one on the candidates are the same
  same_in : (place : ℕ) (unit : Workunit) (number : ℕ) (xs : List Instance) → is_before (record { unit = place; number = number }) late ≡ false
      → unsent_in early place unit number xs ≡ unsent_in late place unit number xs
  same_in place unit number [] from = refl
  same_in place unit number (x ∷ xs) from =
      ap₂ (λ b (cs : List Candidate). cond (is_none x.owner && not b) (record { place = here; unit = unit } ∷ cs) cs) (not_early here from ∙ sym from)
      (same_in place unit (number + 1) xs (next_number place number from))
    where
      here : Place
      here = record { unit = place; number = number }

  same_among : (w : World) (place : ℕ) (bs : List UnitBook) → is_before (record { unit = place; number = 0 }) late ≡ false → unsent_among w early place bs ≡ unsent_among w late place bs
  same_among w place [] from = refl
  same_among w place (b ∷ bs) from =
      ap₂ (λ (cs ds : List Candidate). cond (is_open (status_of w b)) (cs ++ ds) ds) (same_in place b.unit 0 b.instances from) (same_among w (place + 1) bs (next_unit place 0 from))

  -- Suppose each candidate from the early place on and before the late one leaves the taker as it is.
  module _ {T : Type 0} (takes : T → Candidate → Flow → T → Type 0) (now : T)
      (passed : (c : Candidate) → is_before c.place early ≡ false → is_before c.place late ≡ true → takes now c GoOn now) where
    same_leads : (all left : List Candidate) → all ≡ left → Leads takes now all now left
    same_leads all left same = subst (Leads takes now all now) same (record { to_all = λ last h. h; to_some = λ last h. h })

    leads_in : (place : ℕ) (unit : Workunit) (more fewer : List Candidate) → ((n : ℕ) → is_before (record { unit = place; number = n }) late ≡ false → more ≡ fewer)
        → Leads takes now more now fewer → (number : ℕ) (xs : List Instance) → Leads takes now (unsent_in early place unit number xs ++ more) now (unsent_in late place unit number xs ++ fewer)
    leads_in place unit more fewer same leads number [] = leads
    leads_in place unit more fewer same leads number (x ∷ xs) =
        by (is_none x.owner) (is_before here early) refl (is_before here late) refl (leads_in place unit more fewer same leads (number + 1) xs)
      where
        here : Place
        here = record { unit = place; number = number }

        c : Candidate
        c = record { place = here; unit = unit }

        after : List Candidate
        after = unsent_in early place unit (number + 1) xs

        left : List Candidate
        left = unsent_in late place unit (number + 1) xs

        by : (free t : Bool) → is_before here early ≡ t → (u : Bool) → is_before here late ≡ u → Leads takes now (after ++ more) now (left ++ fewer)
            → Leads takes now (cond (free && not t) (c ∷ after) after ++ more) now (cond (free && not u) (c ∷ left) left ++ fewer)
        by false t e u l rest = rest
        by true true e true l rest = rest
        by true true e false l rest = absurd (true≢false (sym e ∙ not_early here l))
        by true false e true l rest = leads_on takes now now now (c ∷ (after ++ more)) (after ++ more) (left ++ fewer) (leads_one takes now now c (after ++ more) (passed c e l)) rest
        by true false e false l rest =
            same_leads (c ∷ (after ++ more)) (c ∷ (left ++ fewer))
            (ap₂ (λ (cs ds : List Candidate). c ∷ (cs ++ ds)) (same_in place unit (number + 1) xs (next_number place number l)) (same number l))

    leads_among : (w : World) (place : ℕ) (bs : List UnitBook) → Leads takes now (unsent_among w early place bs) now (unsent_among w late place bs)
    leads_among w place [] = same_leads [] [] refl
    leads_among w place (b ∷ bs) = by (is_open (status_of w b)) (leads_among w (place + 1) bs)
      where
        more : List Candidate
        more = unsent_among w early (place + 1) bs

        fewer : List Candidate
        fewer = unsent_among w late (place + 1) bs

        by : (o : Bool) → Leads takes now more now fewer
            → Leads takes now (cond o (unsent_in early place b.unit 0 b.instances ++ more) more) now (cond o (unsent_in late place b.unit 0 b.instances ++ fewer) fewer)
        by false rest = rest
        by true rest = leads_in place b.unit more fewer (λ n from. same_among w (place + 1) bs (next_unit place n from)) rest 0 b.instances

    pub skipped : (w : World) → Leads takes now (unsent w early) now (unsent w late)
    skipped w = leads_among w 1 w.units

-- ---- what a skip covers

-- The skip covers each place from one place on and before the next one, so the offers continue at the next one.
module _ {T : Type 0} (takes : T → Candidate → Flow → T → Type 0) (skip : SkipPlaces) (from next : Place) (no_earlier : is_before next from ≡ false)
    (covered : (p : Place) → is_before p from ≡ false → IsTrue (is_before p next) → IsTrue (covers skip p)) where
  pub jumped : (w : World) (now : T) → Leads (OrSkips (IsCovered skip) takes) now (unsent w from) now (unsent w next)
  jumped w now = skipped from next no_earlier (OrSkips (IsCovered skip) takes) now (λ c e l. inr (covered c.place e l, refl, refl)) w
