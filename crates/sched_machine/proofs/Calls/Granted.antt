-- A job given to a host, by the state of its workunit.
use Rattle.std.proofs.Common.{◌≡◌, ℕ, ◌+◌, ◌≤◌, Bool, true, false, cond, eqb, List, [], ◌∷◌, ◌++◌, Option, Some, None, sym, refl, ap, ◌∙◌, subst, arith}
use Rattle.std.specs.Prelude.{IsTrue, IsSome, All, is_some, option_map, option_and_then, unwrap_or, slice_get}
use Rattle.std.proofs.lemmas.List.Elements.{All-nil, All-cons, All-head, All-tail, All-weaker}
use Rattle.std.proofs.lemmas.List.Sums.{fold-append}
use Rattle.sched_book.specs.Places.{unit_at, instance_at, host_at, is_same}
use Rattle.sched_book.specs.Delta.{edited_one, edited, EditFits}
use Rattle.sched_book.specs.Lost.{delay_at}
use Rattle.sched_book.specs.Limits.{last_moment, last_deadline, most_delay}
use Rattle.sched_book.specs.Step.{with_owner, grant_one, granted}
use Rattle.sched_book.specs.Reports.{with_number}
use Rattle.sched_book.proofs.PlacesOf.{nth-modify_nth}
use Rattle.sched_book.proofs.Recording.{instance_at-with_changed}
use Rattle.sched_book.specs.declared.delta.Edit.{Edit}
use Rattle.sched_book.specs.declared.delta.Edit.TheVariants as edit
use Rattle.sched_book.specs.declared.instance.Instance.{Instance}
use Rattle.sched_book.specs.declared.instance.Place.{Place}
use Rattle.sched_book.specs.declared.instance.UnitBook.{UnitBook}
use Rattle.sched_book.specs.declared.world.World.{World}
use Rattle.call_working_set.specs.WorkingSets.{IsOfKnown, IsReadAt, book_before, book_now}
use Rattle.call_working_set.specs.UnitState.{UnitState}
use Rattle.quorum_credit.specs.Limited.{IsLimited}
use Rattle.quorum_credit.specs.Settling.{AreUnitsInLimits}
use Rattle.quorum_credit.proofs.FitReports.{done_fits, fit_more}
use Rattle.quorum_credit.proofs.Recorded.{with_changed-is}
use Rattle.sched_machine.specs.Granting.{owner_for, given_on, AreThere, FitWithHost}
use Rattle.job_choice.specs.Chosen.{places_of}
use Rattle.job_choice.specs.declared.granted.Granted.{Granted}

module _ (entry present : World) (p : Place) (host now : ℕ) (y : Instance) where
  -- the instance at a place, which is given
  record Stands : Type 0 where
    book : UnitBook
    x : Instance
    unit : unit_at present p.unit ≡ Some book
    number : slice_get book.instances p.number ≡ Some x
    given : with_owner (owner_for host now (delay_at present p)) x ≡ y
    short : AreUnitsInLimits entry → delay_at present p ≤ most_delay

  standing : (o : Option UnitState) → IsReadAt entry present p.unit o → Some y ≡ given_on o p.number host now → Stands
  standing None read puts = absurd cc
  standing (Some k) read puts = at_number (slice_get k.present p.number) refl (sym puts)
    where
      delay : delay_at present p ≡ k.unit.delay_bound
      delay = ap (λ b. unwrap_or (option_map (λ (b : UnitBook). b.unit.delay_bound) b) 0) read.here

      at_number : (q : Option Instance) → slice_get k.present p.number ≡ q
          → option_map (with_owner (owner_for host now k.unit.delay_bound)) q ≡ Some y → Stands
      at_number None is gives = absurd cc
      at_number (Some x) is gives = record {
        book = book_now k;
        x = x;
        unit = read.here;
        number = is;
        given = ap (λ d. with_owner (owner_for host now d) x) delay ∙ (let value : with_owner (owner_for host now k.unit.delay_bound) x ≡ y = cc in value);
        short = λ limits. subst (λ d. d ≤ most_delay) (sym delay) (limits p.unit (book_before k) read.before).delay.1;
      }

  -- it is given as a change of the world
  pub given_is : (o : Option UnitState) → IsReadAt entry present p.unit o → Some y ≡ given_on o p.number host now
      → edited_one present (edit.Instance p y) ≡ grant_one host now present p
  given_is o read puts =
      let at = standing o read puts in
      ap (λ z. edited_one present (edit.Instance p z)) (sym at.given)
      ∙ sym (with_changed-is (with_owner (owner_for host now (delay_at present p))) present p at.book at.x at.unit at.number)

  -- the change fits if the host exists and the moment is not too late
  one_fits : Stands → now ≤ last_moment → AreUnitsInLimits entry → IsTrue (is_some (host_at present host)) → IsLimited present
      → EditFits present (edit.Instance p y) × IsLimited (edited_one present (edit.Instance p y))
  one_fits at soon units stands limited =
      let here : instance_at present p ≡ Some at.x = ap (option_and_then (λ (u : UnitBook). slice_get u.instances p.number)) at.unit ∙ at.number in
      let few : delay_at present p ≤ most_delay = at.short units in
      let late : now + delay_at present p ≤ last_deadline = omega arith in
      subst (λ z. EditFits present (edit.Instance p z) × IsLimited (edited_one present (edit.Instance p z))) at.given
      (done_fits (with_owner (owner_for host now (delay_at present p))) present p at.book at.x limited at.unit at.number (
        stands,
        (λ none. absurd cc),
        record {
          sent = soon;
          deadline = late;
          output = (limited.each p at.x here).2.output;
          place = (limited.each p at.x here).2.place;
        },
      ))

  pub given_fits : (o : Option UnitState) → IsReadAt entry present p.unit o → Some y ≡ given_on o p.number host now
      → (cs more : List Edit) → now ≤ last_moment → present ≡ edited entry cs → more ≡ cs ++ edit.Instance p y ∷ []
      → FitWithHost entry host cs → FitWithHost entry host more
  given_fits o read puts cs more soon here pushed before =
      let stands = subst (λ w. IsTrue (is_some (host_at w host))) (sym here) before.stands in
      let after : edited entry more ≡ edited_one (edited entry cs) (edit.Instance p y) =
      ap (edited entry) pushed ∙ fold-append edited_one entry cs (edit.Instance p y ∷ []) in
      record {
        units = before.units;
        within = fit_more entry cs more (edit.Instance p y) pushed
            (subst (λ w. IsLimited w → EditFits w (edit.Instance p y) × IsLimited (edited_one w (edit.Instance p y))) here
            (one_fits (standing o read puts) soon before.units stands))
            before.within;
        stands = subst (λ w. IsTrue (is_some (host_at w host))) (sym after) before.stands;
      }

-- an instance that exists still does after a job was given, and so does its workunit
either : {X : Type 0} (b : Bool) (f : X → X) (o : Option X) → IsSome o → IsSome (cond b (option_map f o) o)
either {X} true f None some = some
either true f (Some x) some = refl
either false f o some = some

module _ (host now : ℕ) where
  there_stays : (w : World) (q p : Place) → IsSome (instance_at w p) → IsSome (instance_at (grant_one host now w q) p)
  there_stays w q p some =
      subst IsSome (sym (instance_at-with_changed (with_owner (owner_for host now (delay_at w q))) w q p))
      (either (is_same q p) (with_owner (owner_for host now (delay_at w q))) (instance_at w p) some)

  unit_stays : (w : World) (q : Place) (unit : ℕ) → IsSome (unit_at w unit) → IsSome (unit_at (grant_one host now w q) unit)
  unit_stays w q unit some =
      subst IsSome (sym (nth-modify_nth (with_number (with_owner (owner_for host now (delay_at w q))) q.number) w.units q.unit unit))
      (either (eqb q.unit unit) (with_number (with_owner (owner_for host now (delay_at w q))) q.number) (unit_at w unit) some)

  units_stay : (ps : List Place) (w : World) (unit : ℕ) → IsSome (unit_at w unit) → IsSome (unit_at (granted w host now ps) unit)
  units_stay [] w unit some = some
  units_stay (p ∷ ps) w unit some = units_stay ps (grant_one host now w p) unit (unit_stays w p unit some)

  pub there_next : (w v : World) (p : Place) (ps : List Place) → v ≡ grant_one host now w p → AreThere w (p ∷ ps) → AreThere v ps
  there_next w v p ps is there =
      subst (λ z. AreThere z ps) (sym is)
      (All-weaker (λ (q : Place). IsSome (instance_at w q)) (λ (q : Place). IsSome (instance_at (grant_one host now w p) q)) (there_stays w p) ps
      (All-tail (λ (q : Place). IsSome (instance_at w q)) p ps there))

  -- the workunits of given jobs exist
  in_unit : (w : World) (p : Place) → IsSome (instance_at w p) → IsSome (unit_at w p.unit)
  in_unit w p some = at (unit_at w p.unit) some
    where
      at : (o : Option UnitBook) → IsSome (option_and_then (λ (b : UnitBook). slice_get b.instances p.number) o) → IsSome o
      at None some = some
      at (Some b) some = refl

  pub classes_known : (w v : World) (ps : List Place) (jobs : List Granted) → v ≡ granted w host now ps → AreThere w (places_of jobs)
      → All (λ (j : Granted). IsOfKnown v (edit.Class j.place.unit j.version.class)) jobs
  classes_known w v ps jobs is there = each jobs there
    where
      one : (j : Granted) → IsSome (instance_at w j.place) → IsSome (unit_at v j.place.unit)
      one j some = subst (λ z. IsSome (unit_at z j.place.unit)) (sym is) (units_stay ps w j.place.unit (in_unit w j.place some))

      each : (js : List Granted) → AreThere w (places_of js) → All (λ (j : Granted). IsOfKnown v (edit.Class j.place.unit j.version.class)) js
      each [] some = All-nil (λ (j : Granted). IsOfKnown v (edit.Class j.place.unit j.version.class))
      each (j ∷ js) some =
          All-cons (λ (j : Granted). IsOfKnown v (edit.Class j.place.unit j.version.class)) j js
          (one j (All-head (λ (q : Place). IsSome (instance_at w q)) j.place (places_of js) some))
          (each js (All-tail (λ (q : Place). IsSome (instance_at w q)) j.place (places_of js) some))
