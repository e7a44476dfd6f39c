-- What happens to the instance at a place when reports are recorded.
use Rattle.std.proofs.Common.{◌≡◌, ℕ, ◌⊎◌, inl, inr, Bool, true, false, cond, eqb, not, List, [], ◌∷◌, Option, Some, None, sym, refl, ap, ◌∙◌, subst}
use Rattle.std.specs.Prelude.{◌&&◌, fold, option_map, option_and_then, unwrap_or, slice_get, is_some, Contains}
use Rattle.std.proofs.lemmas.Bool.{eqb-true}
use Rattle.std.proofs.Math.Bool.{and-false}
use borrow.Author.Tests.{eq-eqb}
use Rattle.rpc_records.specs.declared.request.Report.{Report}
use Rattle.sched_book.specs.Count.{has_failed}
use Rattle.sched_book.specs.Places.{unit_at, instance_at, passes, place_named, status_at, is_same, is_owned_by}
use Rattle.sched_book.specs.Reports.{with_number, with_changed, first_reports, awaits_report, with_report, judged_place, next_place, record_at, record_one, recorded}
use Rattle.sched_book.specs.Laws.{IsRecordedAt, ReportsAreRecordedByPlace}
use Rattle.sched_book.specs.declared.instance.Instance.{Instance}
use Rattle.sched_book.specs.declared.instance.Place.{Place}
use Rattle.sched_book.specs.declared.instance.UnitBook.{UnitBook}
use Rattle.sched_book.specs.declared.world.World.{World}
use Rattle.sched_book.proofs.PlacesOf.{nth-modify_nth, slice_get-modify_at, same_none}
use Rattle.sched_book.proofs.Newest.{none_in_nothing, in_front, behind, front_of}

-- the instance at a place after a change at the same place or another one
in_unit : (f : Instance → Instance) (m n : ℕ) (b : Bool) (o : Option UnitBook)
    → option_and_then (λ (u : UnitBook). slice_get u.instances n) (cond b (option_map (with_number f m) o) o)
    ≡ cond (b && eqb m n) (option_map f (option_and_then (λ (u : UnitBook). slice_get u.instances n) o)) (option_and_then (λ (u : UnitBook). slice_get u.instances n) o)
in_unit f m n true None = same_none (eqb m n) None
in_unit f m n true (Some u) = slice_get-modify_at f u.instances m n
in_unit f m n false o = refl

pub instance_at-with_changed : (f : Instance → Instance) (w : World) (q p : Place)
    → instance_at (with_changed f w q) p ≡ cond (is_same q p) (option_map f (instance_at w p)) (instance_at w p)
instance_at-with_changed f w q p =
    ap (option_and_then (λ (u : UnitBook). slice_get u.instances p.number)) (nth-modify_nth (with_number f q.number) w.units q.unit p.unit)
    ∙ in_unit f q.number p.number (eqb q.unit p.unit) (unit_at w p.unit)

-- places that compare as the same are equal
equal_fields : (a b c d : ℕ) (s t : Bool) → eqb a c ≡ s → eqb b d ≡ t → (s && t) ≡ true
    → ◌≡◌ {A = Place} (record { unit = a; number = b }) (record { unit = c; number = d })
equal_fields a b c d true true is also pass =
    ap (λ n. record { unit = n; number = b }) (eqb-true a c is) ∙ ap (λ n. record { unit = c; number = n }) (eqb-true b d also)
equal_fields a b c d true false is also pass = absurd cc
equal_fields a b c d false t is also pass = absurd cc

pub is_same-true : (q p : Place) → is_same q p ≡ true → q ≡ p
is_same-true q p pass = equal_fields q.unit q.number p.unit p.number (eqb q.unit p.unit) (eqb q.number p.number) refl refl pass

pub is_same-self : (p : Place) → is_same p p ≡ true
is_same-self p =
    ap (λ b. b && eqb p.number p.number) (eq-eqb p.unit p.unit refl) ∙ eq-eqb p.number p.number refl

-- a test at a place is a test of the instance there
passes_unit : (g : Instance → Bool) (n : ℕ) (o : Option UnitBook)
    → unwrap_or (option_and_then (λ (u : UnitBook). option_map g (slice_get u.instances n)) o) false
    ≡ unwrap_or (option_map g (option_and_then (λ (u : UnitBook). slice_get u.instances n) o)) false
passes_unit g n None = refl
passes_unit g n (Some u) = refl

pub passes-is : (w : World) (g : Instance → Bool) (p : Place) → passes w (λ b x. g x) p ≡ unwrap_or (option_map g (instance_at w p)) false
passes-is w g p = passes_unit g p.number (unit_at w p.unit)

-- One more report, and one place.
module _ (entry : World) (host : ℕ) (p : Place) where
  -- the report does not name the place, or the instance there does not await it
  abbrev Misses : World → Report → Type 0
  Misses w r = (x : Instance) → place_named entry r.name ≡ Some p → instance_at w p ≡ Some x → awaits_report host x ≡ true → ⊥

  record Hits (w : World) (r : Report) (v : World) : Type 0 where
    names : place_named entry r.name ≡ Some p
    before : Instance
    stood : instance_at w p ≡ Some before
    awaited : awaits_report host before ≡ true
    place : Option ℕ
    judged : is_some place ≡ not (has_failed (status_at entry p.unit))
    recorded : instance_at v p ≡ Some (with_report r place before)

  abbrev Goes : World → Report → World → Type 0
  Goes w r v = ((instance_at v p ≡ instance_at w p) × Misses w r) ⊎ Hits w r v

  abbrev Gone : World → Report → Place → World
  Gone w r q = with_changed (with_report r (judged_place entry w q.unit)) w q

judged_is : (failed : Bool) (n : ℕ) → is_some (cond failed None (Some n)) ≡ not failed
judged_is true n = refl
judged_is false n = refl

module _ (entry : World) (host : ℕ) (p : Place) where
  -- the instance at the place awaits the report
  hits : (w : World) (r : Report) → place_named entry r.name ≡ Some p → (o : Option Instance) → instance_at w p ≡ o
      → unwrap_or (option_map (awaits_report host) o) false ≡ true → Hits entry host p w r (Gone entry host p w r p)
  hits w r names None stands pass = absurd cc
  hits w r names (Some x) stands pass = record {
    names = names;
    before = x;
    stood = stands;
    awaited = pass;
    place = judged_place entry w p.unit;
    judged = judged_is (has_failed (status_at entry p.unit)) (next_place w p.unit);
    recorded =
        let f = with_report r (judged_place entry w p.unit) in
        instance_at-with_changed f w p p
        ∙ ap (λ b. cond b (option_map f (instance_at w p)) (instance_at w p)) (is_same-self p)
        ∙ ap (option_map f) stands;
  }

  -- the report names this place or another one
  at_place : (w : World) (r : Report) (q : Place) → place_named entry r.name ≡ Some q → passes w (λ b x. awaits_report host x) q ≡ true
      → (s : Bool) → is_same q p ≡ s → Goes entry host p w r (Gone entry host p w r q)
  at_place w r q names pass false other =
      let f = with_report r (judged_place entry w q.unit) in
      inl (
        instance_at-with_changed f w q p ∙ ap (λ b. cond b (option_map f (instance_at w p)) (instance_at w p)) other,
        λ x also stands awaits.
            let equal : q ≡ p = cc in
            let never : true ≡ false = sym (is_same-self p) ∙ ap (λ z. is_same z p) (sym equal) ∙ other in
            absurd cc,
      )
  at_place w r q names pass true same =
      let equal : q ≡ p = is_same-true q p same in
      let pass_here : passes w (λ b x. awaits_report host x) p ≡ true = subst (λ z. passes w (λ b x. awaits_report host x) z ≡ true) equal pass in
      subst (λ z. Goes entry host p w r (Gone entry host p w r z)) (sym equal)
      (inr (hits w r (names ∙ ap Some equal) (instance_at w p) refl (sym (passes-is w (awaits_report host) p) ∙ pass_here)))

  passes_or_not : (w : World) (r : Report) (q : Place) → place_named entry r.name ≡ Some q
      → (t : Bool) → passes w (λ b x. awaits_report host x) q ≡ t → Goes entry host p w r (cond t (Gone entry host p w r q) w)
  passes_or_not w r q names true pass = at_place w r q names pass (is_same q p) refl
  passes_or_not w r q names false fails =
      inl (
        refl,
        λ x also stands awaits.
            let equal : q ≡ p = cc in
            let holds : passes w (λ b y. awaits_report host y) p ≡ true =
            passes-is w (awaits_report host) p ∙ ap (λ o. unwrap_or (option_map (awaits_report host) o) false) stands ∙ awaits in
            let never : true ≡ false = sym holds ∙ ap (passes w (λ b y. awaits_report host y)) (sym equal) ∙ fails in
            absurd cc,
      )

  step : (w : World) (r : Report) → Goes entry host p w r (record_one entry host w r)
  step w r = at_name (place_named entry r.name) refl
    where
      at_name : (o : Option Place) → place_named entry r.name ≡ o → Goes entry host p w r (unwrap_or (option_map (record_at entry host r w) o) w)
      at_name None names = inl (refl, λ x also stands awaits. absurd cc)
      at_name (Some q) names = passes_or_not w r q names (passes w (λ b x. awaits_report host x) q) refl

  -- once reported, the instance stays as it is
  touched : (rs : List Report) (w : World) (x : Instance) → instance_at w p ≡ Some x → awaits_report host x ≡ false
      → instance_at (fold (record_one entry host) w rs) p ≡ Some x
  touched [] w x stands told = stands
  touched (r ∷ rs) w x stands told = elim (step w r) [
    | inl kept ↦ touched rs (record_one entry host w r) x (kept.0 ∙ stands) told
    | inr hit ↦ (
        let same : hit.before ≡ x = cc in
        let never : true ≡ false = sym hit.awaited ∙ ap (awaits_report host) same ∙ told in
        absurd cc)
  ]

  -- one of the reports is recorded at the place
  record Recorded (rs : List Report) (w v : World) : Type 0 where
    report : Report
    first : Contains rs report
    hit : Hits entry host p w report v

  untouched : (rs : List Report) (w : World)
      → ((instance_at (fold (record_one entry host) w rs) p ≡ instance_at w p) × ((r : Report) → Contains rs r → Misses entry host p w r))
      ⊎ Recorded rs w (fold (record_one entry host) w rs)
  untouched [] w = inl (refl, λ r none. absurd (none_in_nothing r none))
  untouched (r ∷ rs) w = elim (step w r) [
    | inl kept ↦ elim (untouched rs (record_one entry host w r)) [
      | inl rest ↦ inl (
        rest.0 ∙ kept.0,
        λ other among. elim (in_front r rs other among) [
          | inl same ↦ subst (Misses entry host p w) same kept.1
          | inr there ↦ λ x names stands awaits. rest.1 other there x names (kept.0 ∙ stands) awaits
        ],
      )
      | inr rest ↦ inr (record {
        report = rest.report;
        first = behind r rs rest.report rest.first;
        hit = record {
          names = rest.hit.names;
          before = rest.hit.before;
          stood = sym kept.0 ∙ rest.hit.stood;
          awaited = rest.hit.awaited;
          place = rest.hit.place;
          judged = rest.hit.judged;
          recorded = rest.hit.recorded;
        };
      })
    ]
    | inr hit ↦ inr (record {
      report = r;
      first = front_of r rs;
      hit = record {
        names = hit.names;
        before = hit.before;
        stood = hit.stood;
        awaited = hit.awaited;
        place = hit.place;
        judged = hit.judged;
        recorded = touched rs (record_one entry host w r) (with_report r hit.place hit.before) hit.recorded (and-false (is_owned_by host hit.before));
      };
    })
  ]

told_at : (entry : World) (host : ℕ) (reports : List Report) (p : Place)
    → Recorded entry host p (first_reports reports) entry (recorded entry host reports) → IsRecordedAt entry host reports p
told_at entry host reports p r = record {
  report = r.report;
  first = r.first;
  names = r.hit.names;
  before = r.hit.before;
  stood = r.hit.stood;
  awaited = r.hit.awaited;
  place = r.hit.place;
  judged = r.hit.judged;
  recorded = r.hit.recorded;
}

pub reports_are_recorded_by_place : ReportsAreRecordedByPlace
reports_are_recorded_by_place entry host reports p = record {
  stays_or_recorded = elim (untouched entry host p (first_reports reports) entry) [
    | inl kept ↦ inl kept.0
    | inr told ↦ inr (told_at entry host reports p told)
  ];
  not_missed = λ r x among names stands awaits. elim (untouched entry host p (first_reports reports) entry) [
    | inl kept ↦ absurd (kept.1 r among x names stands awaits)
    | inr told ↦ told_at entry host reports p told
  ];
}
