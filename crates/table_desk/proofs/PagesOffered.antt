-- Offers of one candidate after another, and of one page after another, are offers of all.
use Rattle.std.proofs.Common.{◌≡◌, ◌<◌, ◌+◌, ℕ, List, [], ◌∷◌, ◌++◌, drop, length, get_or, Option, Some, None, Ok, Err, refl, sym, ap, subst, ◌∙◌, inl, inr}
use Rattle.std.specs.Prelude.{Result, OnOk, OnErr, option_map}
use Rattle.std.specs.List.{cons_option}
use Rattle.std.proofs.lemmas.List.{at_drop_more}
use Rattle.sched_book.specs.Offers.{OffersAll, OffersSome, Offered, OfferedSome, Leads}
use Rattle.sched_book.specs.declared.desk.Candidate.{Candidate}
use Rattle.sched_book.specs.declared.desk.Flow.{Flow}
use Rattle.sched_book.specs.declared.desk.Flow.TheVariants.{GoOn, Stop}
use Rattle.sched_book.specs.declared.instance.Place.{Place}
use Rattle.sched_book.specs.declared.rows.Workunit.{Workunit}
use Rattle.sched_book.specs.declared.world.World.{World}
use Rattle.sched_book.specs.Desk.{workunit_at}
use Rattle.sched_book.proofs.Offering.{offered_none}
use Rattle.table_desk.specs.Pages.{candidate_at, candidates_at}

-- what holds in any case holds if there is an error
pub on_any : {X E P : Type 0} (r : Result X E) → P → OnErr r P
on_any (Ok x) holds = tt
on_any (Err e) holds = holds

module _ {T : Type 0} (takes : T → Candidate → Flow → T → Type 0) where
  -- offers of all are offers of some
  all_is_some : (old new : T) (cs : List Candidate) → OffersAll takes old cs new → OffersSome takes old cs new
  all_is_some old new [] all = all
  all_is_some old new (c ∷ cs) all = elim all [
    | inl stopped ↦ inr (inl stopped)
    | inr more ↦ inr (inr (more.0, more.1, all_is_some more.0 new cs more.2))
  ]

  -- nothing more is offered
  pub none_offered : (t : T) (cs : List Candidate) → OffersSome takes t cs t
  none_offered t cs = offered_none takes t [] cs

  pub leads_on : (old mid new : T) (all more left : List Candidate) → Leads takes old all mid more → Leads takes mid more new left → Leads takes old all new left
  leads_on old mid new all more left first second = record { to_all = λ last h. first.to_all last (second.to_all last h); to_some = λ last h. first.to_some last (second.to_some last h) }

  -- one was offered, and the taker continues with the others
  pub leads_one : (old new : T) (c : Candidate) (cs : List Candidate) → takes old c GoOn new → Leads takes old (c ∷ cs) new cs
  leads_one old new c cs taken = record { to_all = λ last h. inr (new, taken, h); to_some = λ last h. inr (inr (new, taken, h)) }

  -- After offers that lead to the candidates that are left, these were offered.
  module _ (old mid new : T) (all left these : List Candidate) (leads : Leads takes old all mid left) (same : these ≡ left) {X E : Type 0} where
    pub then_all : (r : Result X E) → OnOk r (OffersAll takes mid these new) → OnOk r (OffersAll takes old all new)
    then_all (Ok x) offered = leads.to_all new (subst (λ (cs : List Candidate). OffersAll takes mid cs new) same offered)
    then_all (Err e) offered = tt

    pub then_some : (r : Result X E) → OnErr r (OffersSome takes mid these new) → OnErr r (OffersSome takes old all new)
    then_some (Ok x) offered = tt
    then_some (Err e) offered = leads.to_some new (subst (λ (cs : List Candidate). OffersSome takes mid cs new) same offered)

  -- all were offered, and nothing is left
  pub leads_to_end : (old new : T) (cs : List Candidate) → OffersAll takes old cs new → Leads takes old cs new []
  leads_to_end old new cs all = record {
    to_all = λ last same. subst (OffersAll takes old cs) (sym same) all;
    to_some = λ last same. subst (OffersSome takes old cs) (sym same) (all_is_some old new cs all);
  }

  -- the candidate at one place more was offered
  pub one_more : (w : World) (old now new : T) (places : List Place) (i : ℕ) (d : Place) (all more : List Candidate) (c : Candidate) → i < length places → candidate_at w (get_or places i d) ≡ Some c → takes now c GoOn new
      → Leads takes old all now (candidates_at w (drop i places) ++ more) → Leads takes old all new (candidates_at w (drop (i + 1) places) ++ more)
  one_more w old now new places i d all more c lt found taken before =
      let left = candidates_at w (drop (i + 1) places) ++ more in
      let here : candidates_at w (drop i places) ++ more ≡ c ∷ left = at_drop_more (λ ps. candidates_at w ps ++ more) places i d lt ∙ ap (λ o. cons_option o (candidates_at w (drop (i + 1) places)) ++ more) found in
      leads_on old now new all (c ∷ left) left (subst (Leads takes old all now) here before) (leads_one now new c left taken)

  -- the candidate at one place more, if there is such a workunit, was passed over
  pub one_passed : (w : World) (old now : T) (places : List Place) (i : ℕ) (d : Place) (all more : List Candidate) → i < length places → ((c : Candidate) → c.place ≡ get_or places i d → takes now c GoOn now)
      → Leads takes old all now (candidates_at w (drop i places) ++ more) → Leads takes old all now (candidates_at w (drop (i + 1) places) ++ more)
  one_passed w old now places i d all more lt passes before = by (workunit_at w place.unit) refl
    where
      place : Place
      place = get_or places i d

      by : (o : Option Workunit) → workunit_at w place.unit ≡ o → Leads takes old all now (candidates_at w (drop (i + 1) places) ++ more)
      by None none =
          let found : candidate_at w place ≡ None = ap (option_map (λ u. record { place = place; unit = u })) none in
          subst (Leads takes old all now) (at_drop_more (λ ps. candidates_at w ps ++ more) places i d lt ∙ ap (λ o. cons_option o (candidates_at w (drop (i + 1) places)) ++ more) found) before
      by (Some u) some = one_more w old now now places i d all more (record { place = place; unit = u }) lt (ap (option_map (λ u. record { place = place; unit = u })) some) (passes _ refl) before

  -- ---- a page, with others left after it

  module _ (old new : T) (these left all : List Candidate) (parts : all ≡ these ++ left) where
    pub page_passed : Offered takes old these new GoOn → Leads takes old all new left
    page_passed offered = subst (λ (cs : List Candidate). Leads takes old cs new left) (sym parts) (offered left)

    pub page_stopped : Offered takes old these new Stop → Leads takes old all new []
    page_stopped offered = leads_to_end old new all (subst (λ (cs : List Candidate). OffersAll takes old cs new) (sym parts) (offered left))

    pub page_ended : OfferedSome takes old these new → OffersSome takes old all new
    page_ended offered = subst (λ (cs : List Candidate). OffersSome takes old cs new) (sym parts) (offered left)
