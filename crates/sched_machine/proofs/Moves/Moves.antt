-- What a step does to the instance at each place: it is reported, lapses, gets a new deadline, is given out, or stays.
-- New ones are made.
use Rattle.std.proofs.Common.{◌≡◌, ◌⊎◌, inl, inr, ℕ, zero, suc, ◌+◌, ◌-◌, ◌<◌, ◌≤◌, Bool, true, false, cond, eqb, List, [], ◌∷◌, ◌++◌, Option, Some, None, sym, refl, ap, ◌∙◌, subst, arith}
use Rattle.std.specs.Prelude.{◌&&◌, Contains, fold, map, count_by, is_none, is_some, replicate, option_map, option_and_then, unwrap_or, slice_get, ◌==◌}
use Rattle.std.proofs.lemmas.Bool.{and_parts, eqb-true}
use Rattle.std.proofs.lemmas.List.Elements.{All-contains}
use Rattle.rpc_records.specs.declared.request.Report.{Report}
use Rattle.rpc_records.specs.declared.request.Request.{Request}
use Rattle.sched_book.specs.Count.{is_judged, is_held, is_open, has_failed, need}
use Rattle.sched_book.specs.Fits.{is_eligible, is_for}
use Rattle.sched_book.specs.Grant.{Asking, IsGrant}
use Rattle.sched_book.specs.Imports.{new_unit, with_rows}
use Rattle.sched_book.specs.Lost.{is_resent, lost, with_deadline, with_lapse}
use Rattle.sched_book.specs.PlaceLaws.{ChangesInstancesAlone, IsLost, HasGranted, HasResentOrDropped, lapsed_if_overdue}
use Rattle.sched_book.specs.Places.{unit_at, instance_at, passes, place_named, book_status, status_at, is_owned_by, is_held_by, is_overdue, is_same, host_of}
use Rattle.sched_book.specs.Reports.{with_number, with_changed, first_reports, awaits_report, with_report, next_place, judged_place, record_at, record_one, modify_at}
use Rattle.sched_book.specs.Settle.{fresh, grown, settled}
use Rattle.sched_book.specs.Step.{Step, after_reports, after_lost, after_settlement, after_grant, asking_of, at_entry, host_at_entry, host_number, granted, lapsed, lost_of, resent_of, with_owner}
use Rattle.sched_book.specs.declared.instance.Instance.{Instance}
use Rattle.sched_book.specs.declared.instance.Lapse.{Lapse}
use Rattle.sched_book.specs.declared.instance.Lapse.TheVariants.{Late, Dropped}
use Rattle.sched_book.specs.declared.instance.Outcome.{Outcome}
use Rattle.sched_book.specs.declared.instance.Owner.{Owner}
use Rattle.sched_book.specs.declared.instance.Place.{Place}
use Rattle.sched_book.specs.declared.instance.UnitBook.{UnitBook}
use Rattle.sched_book.specs.declared.machine.Answered.{Answered}
use Rattle.sched_book.specs.declared.machine.Call.{Call}
use Rattle.sched_book.specs.declared.machine.Call.TheVariants as call
use Rattle.sched_book.specs.declared.machine.Caller.{Caller}
use Rattle.sched_book.specs.declared.rows.HostRow.{HostRow}
use Rattle.sched_book.specs.declared.rows.Rows.{Rows}
use Rattle.sched_book.specs.declared.rows.Rows.TheVariants as rows
use Rattle.sched_book.specs.declared.rows.Workunit.{Workunit}
use Rattle.sched_book.specs.declared.world.World.{World}
use Rattle.sched_book.proofs.LostPlaces.{lost_are_held_and_unlisted}
use Rattle.sched_book.proofs.Newest.{behind, front_of, in_front, none_in_nothing, passes_filter}
use Rattle.sched_book.proofs.PlaceChanges.{grants_are_by_place, lapses_are_by_place, lost_jobs_are_by_place, reports_change_instances_alone}
use Rattle.sched_book.proofs.PlacesOf.{nth-modify_nth}
use Rattle.sched_book.proofs.Recording.{instance_at-with_changed, passes-is, is_same-self, is_same-true}
use Rattle.sched_book.proofs.Settling.{nth-map}
use Rattle.job_choice.proofs.Candidates.{Stood, stood}
use Rattle.sched_machine.proofs.Classes.Left.{classed_like, instance_same}
use Rattle.sched_machine.proofs.OptionParts.{any_by, mapped_by}
use Rattle.sched_machine.proofs.Moves.Cases.{by_call}
use Rattle.sched_machine.proofs.Units.Alike.{count_same, count_more}

-- ---- the moves

-- before its grant a scheduler call changes only instances of its host; a tick may change any
abbrev pub IsOf : World → Call → Instance → Type 0
IsOf w (call.Rpc c r) x = is_owned_by (host_number w c) x ≡ true
IsOf w (call.Import new) x = ⊥
IsOf w call.Tick x = Unit {0}

-- the call sends the instance at a place again
abbrev pub IsResentBy : World → Call → Place → Type 0
IsResentBy w (call.Rpc c r) p = Contains (resent_of w c r) p
IsResentBy w (call.Import new) p = ⊥
IsResentBy w call.Tick p = ⊥

-- how many reports on the workunit at a place are judged
abbrev pub judged_at : World → ℕ → ℕ
judged_at w unit = unwrap_or (option_map (λ (b : UnitBook). count_by is_judged b.instances) (unit_at w unit)) 0

-- a newly judged report has a later place, and its workunit had not failed
abbrev pub IsLater : World → ℕ → Option ℕ → Type 0
IsLater w unit place = (n : ℕ) → place ≡ Some n → (judged_at w unit < n) × (has_failed (status_at w unit) ≡ false)

-- A relation between the instance at a place and the one there later. It lasts through each of these changes: a report,
-- a lapse, and a new deadline, under what is known of the instance when a step makes the change.
pub record Lasts (w : World) (c : Call) (p : Place) (R : Option Instance → Option Instance → Type 0) : Type 0 where
  pub same : (o : Option Instance) → R o o
  pub chain : (o q s : Option Instance) → R o q → R q s → R o s
  pub reported : (r : Report) (place : Option ℕ) (x : Instance) → x.report ≡ None → IsOf w c x → IsLater w p.unit place
      → R (Some x) (Some (with_report r place x))
  pub lapses : (lapse : Lapse) (x : Instance) → x.lapse ≡ None → IsOf w c x → R (Some x) (Some (with_lapse lapse x))
  pub moved : (f : ℕ → ℕ) (o : Owner) (x : Instance) → x.owner ≡ Some o → IsOf w c x → IsResentBy w c p
      → R (Some x) (Some (with_owner (record o { deadline = f o.deadline }) x))

-- it also lasts if an instance without owner is given to a host
abbrev pub Gives : (Option Instance → Option Instance → Type 0) → Type 0
Gives R = (o : Owner) (x : Instance) → x.owner ≡ None → R (Some x) (Some (with_owner o x))

-- ---- conditions of the moves

pub none_of : {X : Type 0} (o : Option X) → is_none o ≡ true → o ≡ None
none_of None is = refl
none_of (Some x) is = absurd cc

-- an instance that is held has not lapsed
no_lapse : (x : Instance) → is_held x ≡ true → x.lapse ≡ None
no_lapse x held = none_of x.lapse (and_parts (is_some x.owner && is_none x.report) (is_none x.lapse) held).1

-- an eligible instance has no owner
pub free_first : (o : Option Owner) (b : Bool) → (is_none o && b) ≡ true → o ≡ None
free_first o b is = none_of o (and_parts (is_none o) b is).0

pub eligible_is_free : (w : World) (h : HostRow) (p : Place) → is_eligible w h p ≡ true → (x : Instance) → instance_at w p ≡ Some x → x.owner ≡ None
eligible_is_free w h p eligible x stands =
    let at : Stood w (λ b x. is_none x.owner && is_for w h b) p = stood w (λ b x. is_none x.owner && is_for w h b) p eligible in
    let also : instance_at w p ≡ Some at.x = ap (option_and_then (λ (b : UnitBook). slice_get b.instances p.number)) at.at ∙ at.stands in
    let same : at.x ≡ x = (let both : Some at.x ≡ Some x = sym also ∙ stands in cc) in
    ap (λ (z : Instance). z.owner) (sym same) ∙ free_first at.x.owner (is_for w h at.book) at.passed

-- a host holds the jobs that it lost
pub lost_is_held : (w : World) (host : ℕ) (names : Option (List (List ℕ))) (p : Place) → Contains (lost w host names) p
    → passes w (λ b x. is_held_by host x) p ≡ true
lost_is_held w host names p there =
    (All-contains (IsLost w host names) (lost w host names) p (lost_are_held_and_unlisted w host names).each there).held

-- a place is in a list, or is not
pub among : (p : Place) (qs : List Place) → Contains qs p ⊎ (Contains qs p → ⊥)
among p [] = inr (none_in_nothing p)
among p (q ∷ qs) = cases (is_same q p) refl (among p qs)
  where
    cases : (b : Bool) → is_same q p ≡ b → Contains qs p ⊎ (Contains qs p → ⊥) → Contains (q ∷ qs) p ⊎ (Contains (q ∷ qs) p → ⊥)
    cases true is rest = inl (subst (λ z. Contains (q ∷ qs) z) (is_same-true q p is) (front_of q qs))
    cases false is (inl there) = inl (behind q qs p there)
    cases false is (inr nowhere) =
        inr (λ h. elim (in_front q qs p h) [
          | inl same ↦ (let never : false ≡ true = sym is ∙ ap (λ z. is_same z p) same ∙ is_same-self p in absurd cc)
          | inr there ↦ nowhere there
        ])

-- ---- reports, one after the other

-- what each report keeps if its instance awaits it, all reports keep
pub reports_keep : (P : World → Type 0) (entry : World) (host : ℕ) (rs : List Report)
    → ((r : Report) → Contains rs r → (v : World) (q : Place) (x : Instance) → instance_at v q ≡ Some x → awaits_report host x ≡ true → P v
    → P (with_changed (with_report r (judged_place entry v q.unit)) v q))
    → (v : World) → P v → P (fold (record_one entry host) v rs)
reports_keep P entry host [] one v was = was
reports_keep P entry host (r ∷ rs) one v was =
    reports_keep P entry host rs (λ t there. one t (behind r rs t there)) (record_one entry host v r) (named (place_named entry r.name))
  where
    put : Place → World
    put q = with_changed (with_report r (judged_place entry v q.unit)) v q

    at_place : (q : Place) (o : Option Instance) → instance_at v q ≡ o → (b : Bool) → unwrap_or (option_map (awaits_report host) o) false ≡ b → P (cond b (put q) v)
    at_place q o stands false fails = was
    at_place q None stands true pass = absurd cc
    at_place q (Some x) stands true pass = one r (front_of r rs) v q x stands pass was

    named : (o : Option Place) → P (unwrap_or (option_map (record_at entry host r v) o) v)
    named None = was
    named (Some q) =
        at_place q (instance_at v q) refl (passes v (λ b x. awaits_report host x) q) (sym (passes-is v (awaits_report host) q))

-- after a report on an instance that had none, at least as many are judged
judged_more : (f : Instance → Instance) (v : World) (q : Place) (x : Instance) → instance_at v q ≡ Some x → x.report ≡ None → (unit : ℕ)
    → judged_at v unit ≤ judged_at (with_changed f v q) unit
judged_more f v q x stands none unit =
    subst (λ o. judged_at v unit ≤ judged o) (sym (nth-modify_nth (with_number f q.number) v.units q.unit unit))
    (cases (eqb q.unit unit) refl (unit_at v unit) refl)
  where
    judged : Option UnitBook → ℕ
    judged o = unwrap_or (option_map (λ (b : UnitBook). count_by is_judged b.instances) o) 0

    not_yet : is_judged x ≡ false
    not_yet = ap (λ r. is_some (option_and_then (λ (t : Outcome). t.place) r)) none

    count : (xs : List Instance) → slice_get xs q.number ≡ Some x → (t : Bool) → is_judged (f x) ≡ t
        → count_by is_judged xs ≤ count_by is_judged (modify_at f xs q.number)
    count xs there true now =
        let more : count_by is_judged (modify_at f xs q.number) ≡ count_by is_judged xs + 1 = count_more is_judged f xs q.number x there not_yet now in
        omega arith
    count xs there false now =
        let same : count_by is_judged (modify_at f xs q.number) ≡ count_by is_judged xs = count_same is_judged f xs q.number x there (now ∙ sym not_yet) in
        omega arith

    cases : (t : Bool) → eqb q.unit unit ≡ t → (o : Option UnitBook) → unit_at v unit ≡ o → judged o ≤ judged (cond t (option_map (with_number f q.number) o) o)
    cases false is o at = omega arith
    cases true is None at = omega arith
    cases true is (Some b) at =
        count b.instances
        (sym (ap (option_and_then (λ (b : UnitBook). slice_get b.instances q.number)) (ap (unit_at v) (eqb-true q.unit unit is) ∙ at)) ∙ stands)
        (is_judged (f x)) refl

-- the place that a report gets is later
is_later : (w v : World) (unit : ℕ) → judged_at w unit ≤ judged_at v unit → IsLater w unit (judged_place w v unit)
is_later w v unit more n is = cases (has_failed (status_at w unit)) refl is
  where
    next : (o : Option UnitBook) → unwrap_or (option_map (λ (b : UnitBook). 1 + count_by is_judged b.instances) o) 1
        ≡ 1 + unwrap_or (option_map (λ (b : UnitBook). count_by is_judged b.instances) o) 0
    next None = refl
    next (Some b) = refl

    cases : (t : Bool) → has_failed (status_at w unit) ≡ t → cond t None (Some (next_place v unit)) ≡ Some n
        → (judged_at w unit < n) × (has_failed (status_at w unit) ≡ false)
    cases true failed is = absurd cc
    cases false not_failed is =
        let value : next_place v unit ≡ n = cc in
        let at : next_place v unit ≡ 1 + judged_at v unit = next (unit_at v unit) in
        let low : judged_at w unit ≤ judged_at v unit = more in
        (omega arith, not_failed)

-- ---- the parts of a step

-- the instance of a workunit at the number of a place
abbrev in_unit : Place → Option UnitBook → Option Instance
in_unit p o = option_and_then (λ (b : UnitBook). slice_get b.instances p.number) o

-- a change, a grant, and new instances
module _ (R : Option Instance → Option Instance → Type 0) (same : (o : Option Instance) → R o o) where
  -- a change of an instance, if there is one
  pub mapped : (f : Instance → Instance) (o : Option Instance) → ((x : Instance) → o ≡ Some x → R (Some x) (Some (f x))) → R o (option_map f o)
  mapped f None one = same None
  mapped f (Some x) one = one x refl

  -- a grant
  pub granted_lasts : Gives R → (w : World) (a : Asking) (jobs : List Place) → IsGrant w a jobs → (p : Place)
      → R (instance_at w p) (instance_at (granted w a.number a.now jobs) p)
  granted_lasts gives w a jobs grant p = elim (among p jobs) [
    | inl there ↦
        subst (R (instance_at w p)) (sym (given.job p there))
        (mapped (with_owner _) (instance_at w p)
        (λ x stands. gives _ x
        (eligible_is_free w a.host p (All-contains (λ q. is_eligible w a.host q ≡ true) jobs p grant.eligible there) x stands)))
    | inr nowhere ↦ subst (R (instance_at w p)) (sym (given.other p nowhere)) (same (instance_at w p))
  ]
    where
      given : HasGranted w a.number a.now jobs (granted w a.number a.now jobs)
      given = grants_are_by_place w a.number a.now jobs

  module _ (made : R None (Some fresh)) where
    -- fresh instances after the others
    pub fresh_behind : (many : ℕ) (xs : List Instance) (i : ℕ) → R (slice_get xs i) (slice_get (xs ++ replicate many fresh) i)
    fresh_behind zero [] i = same None
    fresh_behind (suc many) [] zero = made
    fresh_behind (suc many) [] (suc i) = fresh_behind many [] i
    fresh_behind many (x ∷ xs) zero = same (Some x)
    fresh_behind many (x ∷ xs) (suc i) = fresh_behind many xs i

    -- settlement
    pub settled_lasts : (old v : World) (p : Place) → R (instance_at v p) (instance_at (settled old v) p)
    settled_lasts old v p =
        subst (λ o. R (instance_at v p) (in_unit p o)) (sym (nth-map (grown v.apps) v.units p.unit)) (cases (unit_at v p.unit))
      where
        in_grown : (b : UnitBook) (t : Bool) (many : ℕ)
            → R (slice_get b.instances p.number) (slice_get (cond t (record b { instances = b.instances ++ replicate many fresh }) b).instances p.number)
        in_grown b true many = fresh_behind many b.instances p.number
        in_grown b false many = same (slice_get b.instances p.number)

        cases : (o : Option UnitBook) → R (in_unit p o) (in_unit p (option_map (grown v.apps) o))
        cases None = same None
        cases (Some b) = in_grown b (is_open (book_status v.apps b)) (need b.unit b.instances)

    -- an import
    new_units : (us : List Workunit) (p : Place) (i : ℕ) → R None (in_unit p (slice_get (map new_unit us) i))
    new_units [] p i = same None
    new_units (u ∷ us) p zero = fresh_behind u.target_nresults [] p.number
    new_units (u ∷ us) p (suc i) = new_units us p i

    more_units : (bs : List UnitBook) (us : List Workunit) (p : Place) (i : ℕ)
        → R (in_unit p (slice_get bs i)) (in_unit p (slice_get (bs ++ map new_unit us) i))
    more_units [] us p i = new_units us p i
    more_units (b ∷ bs) us p zero = same (slice_get b.instances p.number)
    more_units (b ∷ bs) us p (suc i) = more_units bs us p i

    pub rows_last : (w : World) (new : Rows) (p : Place) → R (instance_at w p) (instance_at (with_rows w new) p)
    rows_last w (rows.Accounts xs) p = same (instance_at w p)
    rows_last w (rows.Apps xs) p = same (instance_at w p)
    rows_last w (rows.Versions xs) p = same (instance_at w p)
    rows_last w (rows.Workunits us) p = cases (eqb p.unit 0)
      where
        cases : (t : Bool) → R (in_unit p (cond t None (slice_get w.units (p.unit - 1)))) (in_unit p (cond t None (slice_get (w.units ++ map new_unit us) (p.unit - 1))))
        cases true = same None
        cases false = more_units w.units us p (p.unit - 1)

-- lapses at a deadline
pub lapses_last : (R : Option Instance → Option Instance → Type 0) (w : World) (now : ℕ) (p : Place) → Lasts w call.Tick p R
    → R (instance_at w p) (instance_at (lapsed w now) p)
lapses_last R w now p lasts =
    subst (R (instance_at w p)) (sym ((lapses_are_by_place w now).instance p))
    (mapped R lasts.same (lapsed_if_overdue now) (instance_at w p) (λ x stands. cases x (is_overdue now x) refl))
  where
    cases : (x : Instance) (t : Bool) → is_overdue now x ≡ t → R (Some x) (Some (cond t (with_lapse Late x) x))
    cases x true is = lasts.lapses Late x (no_lapse x (and_parts (is_held x) _ is).0) tt
    cases x false is = lasts.same (Some x)

-- reports and lost jobs change only instances
pub left_alone : (w : World) (c : Caller) (r : Request) (now : ℕ) → ChangesInstancesAlone (at_entry w c r) (after_lost w c r now)
left_alone w c r now = record {
  settings = lost.settings ∙ reported.settings;
  accounts = lost.accounts ∙ reported.accounts;
  apps = lost.apps ∙ reported.apps;
  versions = lost.versions ∙ reported.versions;
  hosts = lost.hosts ∙ reported.hosts;
  units = lost.units ∙ reported.units;
}
  where
    reported : ChangesInstancesAlone (at_entry w c r) (after_reports w c r)
    reported = reports_change_instances_alone (at_entry w c r) (host_number w c) r.results

    lost : ChangesInstancesAlone (after_reports w c r) (after_lost w c r now)
    lost = (lost_jobs_are_by_place (at_entry w c r) (host_at_entry w c r) now (after_reports w c r) (lost_of w c r)).rest

-- a scheduler call
module _ (R : Option Instance → Option Instance → Type 0) (w : World) (c : Caller) (r : Request) (p : Place) (lasts : Lasts w (call.Rpc c r) p R) where
  -- its reports
  pub reported_lasts : R (instance_at w p) (instance_at (after_reports w c r) p)
  reported_lasts =
      (reports_keep Known (at_entry w c r) (host_number w c) (first_reports r.results) report (at_entry w c r)
      (lasts.same (instance_at w p), (let same : judged_at w p.unit ≤ judged_at w p.unit = omega arith in same))).0
    where
      Known : World → Type 0
      Known v = R (instance_at w p) (instance_at v p) × (judged_at w p.unit ≤ judged_at v p.unit)

      report : (t : Report) → Contains (first_reports r.results) t → (v : World) (q : Place) (x : Instance) → instance_at v q ≡ Some x
          → awaits_report (host_number w c) x ≡ true → Known v → Known (with_changed (with_report t (judged_place (at_entry w c r) v q.unit)) v q)
      report t there v q x stands awaits known = (
        subst (R (instance_at w p)) (sym (instance_at-with_changed f v q p)) (cases (is_same q p) refl),
        (let more : judged_at v p.unit ≤ judged_at (with_changed f v q) p.unit = judged_more f v q x stands none p.unit in
            let before : judged_at w p.unit ≤ judged_at v p.unit = known.1 in
            omega arith),
      )
        where
          f : Instance → Instance
          f = with_report t (judged_place w v q.unit)

          none : x.report ≡ None
          none = none_of x.report (and_parts (is_owned_by (host_number w c) x) (is_none x.report) awaits).1

          cases : (b : Bool) → is_same q p ≡ b → R (instance_at w p) (cond b (option_map f (instance_at v p)) (instance_at v p))
          cases false other = known.0
          cases true is =
              let equal : q ≡ p = is_same-true q p is in
              let here : instance_at v p ≡ Some x = ap (instance_at v) (sym equal) ∙ stands in
              subst (λ o. R (instance_at w p) (option_map f o)) (sym here)
              (lasts.chain (instance_at w p) (Some x) (Some (f x)) (subst (R (instance_at w p)) here known.0)
              (lasts.reported t (judged_place w v q.unit) x none (and_parts (is_owned_by (host_number w c) x) (is_none x.report) awaits).0
              (subst (λ z. IsLater w p.unit (judged_place w v z.unit)) (sym equal) (is_later w v p.unit known.1))))

  module _ (now : ℕ) where
    -- its lost jobs
    pub lost_last : R (instance_at (after_reports w c r) p) (instance_at (after_lost w c r now) p)
    lost_last = elim (among p (lost_of w c r)) [
      | inl there ↦ cases there (is_resent entry caller p) refl
      | inr nowhere ↦ subst (R (instance_at reported p)) (sym (left.other p nowhere)) (lasts.same (instance_at reported p))
    ]
      where
        entry : World
        entry = at_entry w c r

        caller : HostRow
        caller = host_at_entry w c r

        reported : World
        reported = after_reports w c r

        left : HasResentOrDropped entry caller now reported (lost_of w c r) (after_lost w c r now)
        left = lost_jobs_are_by_place entry caller now reported (lost_of w c r)

        own : Contains (lost_of w c r) p → (x : Instance) → instance_at reported p ≡ Some x → (is_owned_by (host_number w c) x ≡ true) × (is_held x ≡ true)
        own there x stands =
            and_parts (is_owned_by (host_number w c) x) (is_held x)
            (sym (passes-is reported (is_held_by (host_number w c)) p ∙ ap (λ o. unwrap_or (option_map (is_held_by (host_number w c)) o) false) stands)
            ∙ lost_is_held reported (host_number w c) r.other_results p there)

        moved : (f : ℕ → ℕ) (x : Instance) → is_owned_by (host_number w c) x ≡ true → Contains (resent_of w c r) p → R (Some x) (Some (with_deadline f x))
        moved f x own again =
            let n = any_by (λ n. n == host_number w c) (host_of x) own in
            let o = mapped_by (λ (o : Owner). o.host) x.owner n.0 n.1 in
            subst (λ q. R (Some x) (Some (record x { owner = option_map (λ (o : Owner). record o { deadline = f o.deadline }) q }))) (sym o.1)
            (lasts.moved f o.0 x o.1 own again)

        cases : Contains (lost_of w c r) p → (b : Bool) → is_resent entry caller p ≡ b → R (instance_at reported p) (instance_at (after_lost w c r now) p)
        cases there true is =
            subst (R (instance_at reported p)) (sym (left.resent p there is))
            (mapped R lasts.same (with_deadline _) (instance_at reported p)
            (λ x stands. moved _ x (own there x stands).0 (passes_filter (is_resent entry caller) (lost_of w c r) p there is)))
        cases there false is =
            subst (R (instance_at reported p)) (sym (left.dropped p there is))
            (mapped R lasts.same (with_lapse Dropped) (instance_at reported p)
            (λ x stands. lasts.lapses Dropped x (no_lapse x (own there x stands).1) (own there x stands).0))

    -- what reports and lost jobs leave, and what settlement makes of it
    pub left_lasts : R (instance_at w p) (instance_at (after_lost w c r now) p)
    left_lasts =
        lasts.chain (instance_at w p) (instance_at (after_reports w c r) p) (instance_at (after_lost w c r now) p) reported_lasts lost_last

    pub settlement_lasts : R None (Some fresh) → R (instance_at w p) (instance_at (after_settlement w c r now) p)
    settlement_lasts made =
        lasts.chain (instance_at w p) (instance_at (after_lost w c r now) p) (instance_at (after_settlement w c r now) p) left_lasts
        (settled_lasts R lasts.same made (at_entry w c r) (after_lost w c r now) p)

    -- the grant, and the classes that workunits take
    call_lasts : R None (Some fresh) → Gives R → (jobs : List Place) → IsGrant (after_settlement w c r now) (asking_of w c r now) jobs
        → R (instance_at w p) (instance_at (after_grant w c r now jobs) p)
    call_lasts made gives jobs grant =
        let settlement : World = after_settlement w c r now in
        let given : World = granted settlement (host_number w c) now jobs in
        subst (R (instance_at w p)) (sym (instance_same given (after_grant w c r now jobs) (classed_like w (host_at_entry w c r) jobs given) p))
        (lasts.chain (instance_at w p) (instance_at settlement p) (instance_at given p) (settlement_lasts made)
        (granted_lasts R lasts.same gives settlement (asking_of w c r now) jobs grant p))

-- Each step, in one walk through its parts.
pub step_lasts : (R : Option Instance → Option Instance → Type 0) → R None (Some fresh) → Gives R → (w after : World) (c : Call) (now : ℕ)
    (answer : Answered) (p : Place) → Lasts w c p R → Step w c now after answer → R (instance_at w p) (instance_at after p)
step_lasts R made gives w after c now answer p lasts step =
    by_call w after now (λ c answer. Lasts w c p R → R (instance_at w p) (instance_at after p))
    (λ c r reply step lasts. subst (λ v. R (instance_at w p) (instance_at v p)) (sym step.left) (call_lasts R w c r p lasts now made gives step.jobs step.grant))
    (λ new count step lasts. subst (λ v. R (instance_at w p) (instance_at v p)) (sym step.left) (rows_last R lasts.same made w new p))
    (λ count step lasts.
    subst (λ v. R (instance_at w p) (instance_at v p)) (sym step.left)
    (lasts.chain (instance_at w p) (instance_at (lapsed w now) p) (instance_at (settled w (lapsed w now)) p) (lapses_last R w now p lasts)
    (settled_lasts R lasts.same made w (lapsed w now) p)))
    c answer step lasts
