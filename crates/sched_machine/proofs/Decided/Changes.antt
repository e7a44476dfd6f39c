-- What the parts of a step do to the workunits: each newly judged report has a later place, and is of no failed workunit.
use Rattle.std.proofs.Common.{◌≡◌, ℕ, suc, ◌<◌, ◌≤◌, inl, inr, Bool, true, false, cond, List, [], ◌∷◌, ◌++◌, length, Option, Some, None, sym, refl, ap, ◌∙◌, subst}
use Rattle.std.proofs.Math.Bool.{and-false}
use Rattle.std.specs.Prelude.{◌&&◌, ◌||◌, ◌==◌, map, count_by, is_some, is_none, option_map, option_and_then, unwrap_or, replicate, slice_get}
use Rattle.rpc_records.specs.declared.request.Report.{Report}
use Rattle.sched_book.specs.Count.{tells_success, is_judged, reported_place, is_live, is_held, is_open, has_failed, need, status}
use Rattle.sched_book.specs.Classes.{imported}
use Rattle.sched_book.specs.Lost.{with_lapse}
use Rattle.sched_book.specs.Places.{nth, instance_at, agreement_by, book_status, status_at, option_any}
use Rattle.sched_book.specs.Reports.{with_report}
use Rattle.sched_book.specs.Settle.{fresh, grown}
use Rattle.sched_book.specs.Step.{with_owner}
use Rattle.sched_book.specs.declared.instance.Instance.{Instance}
use Rattle.sched_book.specs.declared.instance.Lapse.{Lapse}
use Rattle.sched_book.specs.declared.instance.Outcome.{Outcome}
use Rattle.sched_book.specs.declared.instance.Owner.{Owner}
use Rattle.sched_book.specs.declared.instance.Place.{Place}
use Rattle.sched_book.specs.declared.instance.Status.{Status}
use Rattle.sched_book.specs.declared.instance.Status.TheVariants.{Open, Done, FailedErrors, FailedSuccess, FailedTotal}
use Rattle.sched_book.specs.declared.instance.UnitBook.{UnitBook}
use Rattle.sched_book.specs.declared.machine.Call.{Call}
use Rattle.sched_book.specs.declared.rows.App.{App}
use Rattle.sched_book.specs.declared.world.World.{World}
use Rattle.sched_book.proofs.Settling.{nth-map}
use Rattle.sched_machine.proofs.Decided.Good.{IsLate, Became, BecameAt, AllBecame}
use Rattle.sched_machine.proofs.Decided.Units.{status_stays}
use Rattle.sched_machine.proofs.Moves.Moves.{Lasts, judged_at, fresh_behind}

-- A workunit and what it became: only its instances and its class change. If it had failed, there are as many instances
-- as before.
pub record UnitBecame (apps : List App) (b c : UnitBook) : Type 0 where
  pub row : imported c.unit ≡ imported b.unit
  pub became : AllBecame (count_by is_judged b.instances) (has_failed (book_status apps b)) b.instances c.instances
  pub many : has_failed (book_status apps b) ≡ true → length c.instances ≡ length b.instances

abbrev pub UnitBecameAt : List App → Option UnitBook → Option UnitBook → Type 0
UnitBecameAt apps None o = Unit {0}
UnitBecameAt apps (Some b) None = ⊥
UnitBecameAt apps (Some b) (Some c) = UnitBecame apps b c

abbrev pub UnitsBecame : List App → List UnitBook → List UnitBook → Type 0
UnitsBecame apps bs cs = (k : ℕ) → UnitBecameAt apps (nth bs k) (nth cs k)

-- with the same report its place is as late
late_kept : (n : ℕ) (failed : Bool) (y z : Instance) → z.report ≡ y.report → IsLate n failed y → IsLate n failed z
late_kept n failed y z same late judged =
    let late_y = late (ap (λ r. is_some (option_and_then (λ (t : Outcome). t.place) r)) (sym same) ∙ judged) in
    (subst (λ r. n < reported_place r) (sym same) late_y.0, late_y.1)

-- an instance without owner is live
free_live : (y : Instance) → is_none y.owner ≡ true → is_live y ≡ true
free_live y free = ap (λ t. t || is_held y) free

left_free : (o : Option Owner) (s t : Bool) → (s && t) ≡ false → (is_none o || (is_some o && s && t)) ≡ true → is_none o ≡ true
left_free None s t never is = refl
left_free (Some o) s t never is = sym never ∙ is

-- What each change does to an instance.
module _ (n : ℕ) (failed : Bool) where
  became_self : (o : Option Instance) → BecameAt n failed o o
  became_self None = tt
  became_self (Some x) = record { report = inl refl; live = λ is. is; owned = λ host is. is }

  became_then : (o q s : Option Instance) → BecameAt n failed o q → BecameAt n failed q s → BecameAt n failed o s
  became_then None None s first second = second
  became_then None (Some y) None first second = absurd second
  became_then None (Some y) (Some z) first second = elim second.report [ inl same ↦ late_kept n failed y z same first | inr new ↦ new.1 ]
  became_then (Some x) None s first second = absurd first
  became_then (Some x) (Some y) None first second = absurd second
  became_then (Some x) (Some y) (Some z) first second = record {
    report = elim second.report [
      | inl same ↦ elim first.report [ inl also ↦ inl (same ∙ also) | inr new ↦ inr (new.0, late_kept n failed y z same new.1) ]
      | inr new ↦ inr (elim first.report [ inl also ↦ sym also ∙ new.0 | inr older ↦ older.0 ], new.1)
    ];
    live = λ is. first.live (second.live is);
    owned = λ host is. second.owned host (first.owned host is);
  }

  -- a lapse, and a new deadline
  lapse_became : (lapse : Lapse) (x : Instance) → Became n failed x (with_lapse lapse x)
  lapse_became lapse x = record {
    report = inl refl;
    live = λ is. free_live x (left_free x.owner (is_none x.report) false (and-false (is_none x.report)) is);
    owned = λ host is. is;
  }

  deadline_became : (f : ℕ → ℕ) (o : Owner) (x : Instance) → x.owner ≡ Some o → Became n failed x (with_owner (record o { deadline = f o.deadline }) x)
  deadline_became f o x is = record {
    report = inl refl;
    live = λ live. ap (λ q. is_none q || (is_some q && is_none x.report && is_none x.lapse)) is ∙ live;
    owned = λ host owned. sym (ap (λ q. option_any (λ n. n == host) (option_map (λ (o : Owner). o.host) q)) is) ∙ owned;
  }

  -- an instance without owner, given to a host
  pub owner_became : (o : Owner) (x : Instance) → x.owner ≡ None → Became n failed x (with_owner o x)
  owner_became o x free = record {
    report = inl refl;
    live = λ is. free_live x (ap is_none free);
    owned = λ host is. (let never : false ≡ true = sym (ap (λ q. option_any (λ n. n == host) (option_map (λ (o : Owner). o.host) q)) free) ∙ is in absurd cc);
  }

  -- a report that has a later place, or is not judged
  report_became : (r : Report) (place : Option ℕ) (x : Instance) → x.report ≡ None → ((m : ℕ) → place ≡ Some m → (n < m) × (failed ≡ false))
      → Became n failed x (with_report r place x)
  report_became r place x none later = record {
    report = inr (none, late place later);
    live = λ is. free_live x (left_free x.owner false (is_none x.lapse) refl is);
    owned = λ host is. is;
  }
    where
      late : (place : Option ℕ) → ((m : ℕ) → place ≡ Some m → (n < m) × (failed ≡ false)) → IsLate n failed (with_report r place x)
      late None later judged = absurd cc
      late (Some m) later judged = later m refl

  -- an instance that exists still exists, and there is no new one
  abbrev pub Extends : Option Instance → Option Instance → Type 0
  Extends o q = BecameAt n failed o q × (is_some q ≡ is_some o)

  pub goes_self : (o : Option Instance) → Extends o o
  goes_self o = (became_self o, refl)

  pub goes_given : (o : Owner) (x : Instance) → x.owner ≡ None → Extends (Some x) (Some (with_owner o x))
  goes_given o x free = (owner_became o x free, refl)

-- so through the changes of a call before settlement, and of a tick
pub goes_on : (w : World) (c : Call) (p : Place) → Lasts w c p (Extends (judged_at w p.unit) (has_failed (status_at w p.unit)))
goes_on w c p =
    let n : ℕ = judged_at w p.unit in
    let failed : Bool = has_failed (status_at w p.unit) in
    record {
      same = goes_self n failed;
      chain = λ o q s first second. (became_then n failed o q s first.0 second.0, second.1 ∙ first.1);
      reported = λ r place x none own later. (report_became n failed r place x none later, refl);
      lapses = λ lapse x none own. (lapse_became n failed lapse x, refl);
      moved = λ f o x is own again. (deadline_became n failed f o x is, refl);
    }

pub units_same : (apps : List App) (bs : List UnitBook) → UnitsBecame apps bs bs
units_same apps bs k = cases (nth bs k)
  where
    cases : (o : Option UnitBook) → UnitBecameAt apps o o
    cases None = tt
    cases (Some b) = record {
      row = refl;
      became = λ i. became_self (count_by is_judged b.instances) (has_failed (book_status apps b)) (slice_get b.instances i);
      many = λ failed. refl;
    }

-- lists with instances at the same indices are equally long
same_length : (xs ys : List Instance) → ((i : ℕ) → is_some (slice_get ys i) ≡ is_some (slice_get xs i)) → length ys ≡ length xs
same_length [] [] same = refl
same_length [] (y ∷ ys) same = absurd (let never : true ≡ false = same 0 in cc)
same_length (x ∷ xs) [] same = absurd (let never : false ≡ true = same 0 in cc)
same_length (x ∷ xs) (y ∷ ys) same = ap suc (same_length xs ys (λ i. same (suc i)))

-- what happens to the workunits of a world, by what happens to the instance at each place
pub units_on : (w v u : World) → UnitsBecame w.apps w.units v.units → map (λ (b : UnitBook). b.unit) u.units ≡ map (λ (b : UnitBook). b.unit) v.units
    → ((p : Place) → Extends (judged_at w p.unit) (has_failed (status_at w p.unit)) (instance_at v p) (instance_at u p)) → UnitsBecame w.apps w.units u.units
units_on w v u was rows each k =
    cases (nth w.units k) (nth v.units k) (nth u.units k) (was k)
    (sym (nth-map (λ (b : UnitBook). b.unit) u.units k) ∙ ap (λ us. nth us k) rows ∙ nth-map (λ (b : UnitBook). b.unit) v.units k)
    (λ i. each (record { unit = k; number = i }))
  where
    at : ℕ → Option UnitBook → Option Instance
    at i o = option_and_then (λ (b : UnitBook). slice_get b.instances i) o

    cases : (o q s : Option UnitBook) → UnitBecameAt w.apps o q → option_map (λ (b : UnitBook). b.unit) s ≡ option_map (λ (b : UnitBook). b.unit) q
        → ((i : ℕ) → Extends (unwrap_or (option_map (λ (b : UnitBook). count_by is_judged b.instances) o) 0)
        (has_failed (unwrap_or (option_map (book_status w.apps) o) FailedTotal)) (at i q) (at i s)) → UnitBecameAt w.apps o s
    cases None q s before row goes = tt
    cases (Some b) None s before row goes = absurd before
    cases (Some b) (Some c) None before row goes = absurd cc
    cases (Some b) (Some c) (Some d) before row goes = record {
      row = ap imported (let same : d.unit ≡ c.unit = cc in same) ∙ before.row;
      became = λ i.
          became_then (count_by is_judged b.instances) (has_failed (book_status w.apps b)) (slice_get b.instances i) (slice_get c.instances i) (slice_get d.instances i)
          (before.became i) (goes i).0;
      many = λ failed. same_length c.instances d.instances (λ i. (goes i).1) ∙ before.many failed;
    }

-- the places of a workunit's judged successes are in range
abbrev pub IsInRange : UnitBook → Type 0
IsInRange b = (i : ℕ) (x : Instance) → slice_get b.instances i ≡ Some x → tells_success x.report ≡ true → reported_place x.report ≤ count_by is_judged b.instances

-- a workunit that failed is not open
not_open : (s : Status) → has_failed s ≡ true → is_open s ≡ false
not_open Open is = absurd cc
not_open Done is = refl
not_open FailedErrors is = refl
not_open FailedSuccess is = refl
not_open FailedTotal is = refl

-- a workunit with the instances that it needs; one that had failed needs none
pub unit_grown : (apps : List App) (b c : UnitBook) → IsInRange b → UnitBecame apps b c → UnitBecame apps b (grown apps c)
unit_grown apps b c low was = cases (is_open (book_status apps c)) refl
  where
    n : ℕ
    n = count_by is_judged b.instances

    failed : Bool
    failed = has_failed (book_status apps b)

    stays : has_failed (book_status apps b) ≡ true → is_open (book_status apps c) ≡ false
    stays failed =
        ap (λ u. is_open (status (agreement_by apps u.app) u c.instances)) was.row
        ∙ ap is_open (status_stays (agreement_by apps b.unit.app) b.unit (count_by is_judged b.instances) b.instances c.instances low was.became was.many (not_open (book_status apps b) failed))
        ∙ not_open (book_status apps b) failed

    cases : (t : Bool) → is_open (book_status apps c) ≡ t
        → UnitBecame apps b (cond t (record c { instances = c.instances ++ replicate (need c.unit c.instances) fresh }) c)
    cases false is = was
    cases true is = record {
      row = was.row;
      became = λ i.
          became_then n failed (slice_get b.instances i) (slice_get c.instances i) (slice_get (c.instances ++ replicate (need c.unit c.instances) fresh) i) (was.became i)
          (fresh_behind (BecameAt n failed) (became_self n failed) (λ judged. absurd cc) (need c.unit c.instances) c.instances i);
      many = λ failed. absurd (let never : true ≡ false = sym is ∙ stays failed in cc);
    }

-- the same of all workunits
pub units_grown : (apps : List App) (bs cs : List UnitBook) → ((k : ℕ) (b : UnitBook) → nth bs k ≡ Some b → IsInRange b) → UnitsBecame apps bs cs
    → UnitsBecame apps bs (map (grown apps) cs)
units_grown apps bs cs low was k =
    subst (UnitBecameAt apps (nth bs k)) (sym (nth-map (grown apps) cs k)) (cases (nth bs k) refl (nth cs k) (was k))
  where
    cases : (o : Option UnitBook) → nth bs k ≡ o → (q : Option UnitBook) → UnitBecameAt apps o q → UnitBecameAt apps o (option_map (grown apps) q)
    cases None is q before = tt
    cases (Some b) is None before = before
    cases (Some b) is (Some c) before = unit_grown apps b c (low k b is) before
