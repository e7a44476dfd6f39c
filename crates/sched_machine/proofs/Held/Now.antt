-- How many instances a host still holds, by the states of their workunits.
use Rattle.std.proofs.Common.{◌≡◌, ℕ, Bool, true, false, cond, List, [], ◌∷◌, Option, Some, None, length, refl, sym, ap, ◌∙◌}
use Rattle.std.specs.Prelude.{filter, count_by, option_map, option_and_then, unwrap_or, slice_get}
use Rattle.std.proofs.lemmas.List.Sums.{length-filter}
use Rattle.sched_book.specs.Places.{is_held_by, held_by}
use Rattle.sched_book.specs.declared.instance.Place.{Place}
use Rattle.sched_book.specs.declared.instance.UnitBook.{UnitBook}
use Rattle.sched_book.specs.declared.world.World.{World}
use Rattle.call_working_set.specs.WorkingSets.{IsUnitStateAt}
use Rattle.call_working_set.specs.UnitState.{UnitState}
use Rattle.lost_jobs.specs.Holding.{HoldsNoMore}
use Rattle.lost_jobs.proofs.Holding as holding
use Rattle.sched_machine.specs.Asked.{holds, still_holds}

-- two tests that agree on what passes a third one
same_among : (t u g : Place → Bool) (ps : List Place) → ((p : Place) → g p ≡ true → t p ≡ u p) → filter t (filter g ps) ≡ filter u (filter g ps)
same_among t u g [] agree = refl
same_among t u g (p ∷ ps) agree = cases (g p) refl (same_among t u g ps agree)
  where
    cases : (b : Bool) → g p ≡ b → filter t (filter g ps) ≡ filter u (filter g ps)
        → filter t (cond b (p ∷ filter g ps) (filter g ps)) ≡ filter u (cond b (p ∷ filter g ps) (filter g ps))
    cases false is rest = rest
    cases true is rest =
        ap (λ (b : Bool). cond b (p ∷ filter t (filter g ps)) (filter t (filter g ps))) (agree p is) ∙ ap (λ qs. cond (u p) (p ∷ qs) qs) rest

module _ (entry present : World) (host : ℕ) (kept : ℕ → Option UnitState) (unit_states : (unit : ℕ) → IsUnitStateAt entry present unit (kept unit)) where
  abbrev held_in : ℕ → Option UnitBook → Bool
  held_in number o = unwrap_or (option_and_then (λ (b : UnitBook). option_map (is_held_by host) (slice_get b.instances number)) o) false

  -- the unit state says so of what the host held
  still_is : (p : Place) → holds entry host p ≡ true → still_holds (kept p.unit) host p.number ≡ holds present host p
  still_is p held = cases (kept p.unit) (unit_states p.unit)
    where
      cases : (o : Option UnitState) → IsUnitStateAt entry present p.unit o → still_holds o host p.number ≡ holds present host p
      cases None unit_state = sym (ap (held_in p.number) unit_state ∙ held)
      cases (Some k) unit_state = sym (ap (held_in p.number) unit_state.here)

  pub held_now_is : (held : List Place) → held ≡ held_by entry host → HoldsNoMore entry present host
      → count_by (λ (p : Place). still_holds (kept p.unit) host p.number) held ≡ length (held_by present host)
  held_now_is held is no_more =
      let still : Place → Bool = λ p. still_holds (kept p.unit) host p.number in
      let own = holding.held_after entry entry host (λ p known. known) in
      sym (length-filter still held)
      ∙ ap (λ ps. length (filter still ps)) (is ∙ own)
      ∙ ap length (same_among still (holds present host) (holds entry host) (held_by entry host) still_is)
      ∙ ap (λ ps. length (filter (holds present host) ps)) (sym own)
      ∙ ap length (sym (holding.held_after entry present host no_more))
