-- Classes that are taken, as changes of a world.
use Rattle.std.proofs.Common.{◌≡◌, ℕ, ◌+◌, ◌<◌, ◌≤◌, Bool, true, false, cond, eqb, List, [], ◌∷◌, ◌++◌, drop, Option, Some, None, sym, refl, ap, ◌∙◌, subst}
use Rattle.std.specs.Prelude.{IsTrue, is_some, get_or, option_map, unwrap_or, length}
use Rattle.std.proofs.lemmas.List.{drop_more}
use Rattle.std.proofs.lemmas.List.Elements.{All-head, All-tail}
use Rattle.std.proofs.lemmas.List.Sums.{fold-append}
use Rattle.sched_book.specs.Classes.{with_class}
use Rattle.sched_book.specs.Delta.{with_instance, edited_one, edited, EditFits}
use Rattle.sched_book.specs.Fits.{version_for, version_at_unit}
use Rattle.sched_book.specs.Limits.{most_instances}
use Rattle.sched_book.specs.Places.{unit_at, host_at}
use Rattle.sched_book.specs.Sound.{Sound}
use Rattle.sched_book.specs.Step.{class_granted, class_one, classed}
use Rattle.sched_book.specs.UnitChanges.{book_by, book_after}
use Rattle.sched_book.specs.declared.delta.Edit.{Edit}
use Rattle.sched_book.specs.declared.delta.Edit.TheVariants as edit
use Rattle.sched_book.specs.declared.instance.UnitBook.{UnitBook}
use Rattle.sched_book.specs.declared.rows.HostRow.{HostRow}
use Rattle.sched_book.specs.declared.rows.Version.{Version}
use Rattle.sched_book.specs.declared.world.World.{World}
use Rattle.sched_book.proofs.UnitChanges.{unit_at-edited}
use Rattle.job_choice.specs.Chosen.{places_of}
use Rattle.job_choice.specs.declared.granted.Granted.{Granted}
use Rattle.quorum_credit.specs.Limited.{IsLimited}
use Rattle.quorum_credit.proofs.FitReports.{fit_more}
use Rattle.sched_machine.specs.Classes.{as_imported}
use Rattle.sched_machine.specs.Granting.{with_classes, AreRunBy, CanTake, FitWithHost}
use Rattle.sched_machine.proofs.Classes.Words.{version_word}
use Rattle.sched_machine.proofs.Classes.Left.{granted_like, plain_same, instance_same}
use Rattle.sched_machine.proofs.OptionParts.{mapped_by, then_by}

-- ---- changes that fit

-- a workunit that exists still exists after any edit
stands_by : (unit : ℕ) (c : Edit) (b : UnitBook) → is_some (book_by unit (Some b) c) ≡ true
stands_by unit (edit.Host number h) b = refl
stands_by unit (edit.Instance p x) b = cases (eqb p.unit unit)
  where
    cases : (t : Bool) → is_some (cond t (Some (with_instance p.number x b)) (Some b)) ≡ true
    cases true = refl
    cases false = refl
stands_by unit (edit.Class place class) b = cases (eqb place unit)
  where
    cases : (t : Bool) → is_some (cond t (Some (with_class class b)) (Some b)) ≡ true
    cases true = refl
    cases false = refl

still_stands : (unit : ℕ) (cs : List Edit) (o : Option UnitBook) → is_some o ≡ true → is_some (book_after unit o cs) ≡ true
still_stands unit [] o is = is
still_stands unit (c ∷ cs) None is = absurd cc
still_stands unit (c ∷ cs) (Some b) is = still_stands unit cs (book_by unit (Some b) c) (stands_by unit c b)

stands_after : (w : World) (cs : List Edit) (unit : ℕ) → is_some (unit_at w unit) ≡ true → is_some (unit_at (edited w cs) unit) ≡ true
stands_after w cs unit is = ap is_some (unit_at-edited w unit cs) ∙ still_stands unit cs (unit_at w unit) is

-- a class keeps instances within limits
class_limited : (w : World) (unit : ℕ) (class : List ℕ) → IsLimited w → IsLimited (class_granted w unit class)
class_limited w unit class limited = record {
  few = λ n b stands.
      (let c = mapped_by as_imported (unit_at w n) (as_imported b)
      (sym (plain_same w (class_granted w unit class) (granted_like w unit class) n) ∙ ap (option_map as_imported) stands) in
      subst (λ (z : UnitBook). length z.instances ≤ most_instances) c.2 (limited.few n c.0 c.1));
  each = λ p x stands. limited.each p x (sym (instance_same w (class_granted w unit class) (granted_like w unit class) p) ∙ stands);
}

class_fits : (w : World) (host : ℕ) (cs more : List Edit) (unit : ℕ) (class : List ℕ) → EditFits w (edit.Class unit class)
    → more ≡ cs ++ edit.Class unit class ∷ [] → FitWithHost w host cs → FitWithHost w host more
class_fits w host cs more unit class can pushed before = record {
  units = before.units;
  within = fit_more w cs more (edit.Class unit class) pushed
      (λ limited. ((stands_after w cs unit can.0, can.1), class_limited (edited w cs) unit class limited)) before.within;
  stands = subst (λ (v : World). IsTrue (is_some (host_at v host))) (sym after) before.stands;
}
  where
    after : edited w more ≡ edited_one (edited w cs) (edit.Class unit class)
    after = ap (edited w) pushed ∙ fold-append edited_one w cs (edit.Class unit class ∷ [])

-- so does that of one of these jobs
pub job_fits : (w : World) (host : ℕ) (cs more : List Edit) (jobs : List Granted) (i : ℕ) (j : Granted) → CanTake w jobs → i < length jobs
    → j ≡ get_or jobs i j → more ≡ cs ++ edit.Class j.place.unit j.version.class ∷ [] → FitWithHost w host cs → FitWithHost w host more
job_fits w host cs more jobs i j can within is pushed before =
    class_fits w host cs more j.place.unit j.version.class
    (subst (λ (k : Granted). EditFits w (edit.Class k.place.unit k.version.class)) (sym is) (can i j within)) pushed before

-- what is done and what is left are together everything
pub next_taken : (v u : World) (jobs : List Granted) (i : ℕ) (j : Granted) → i < length jobs → j ≡ get_or jobs i j
    → u ≡ edited_one v (edit.Class j.place.unit j.version.class) → with_classes u (drop (i + 1) jobs) ≡ with_classes v (drop i jobs)
next_taken v u jobs i j within is made =
    ap (λ (z : World). with_classes z (drop (i + 1) jobs)) made
    ∙ sym (ap (with_classes v) (drop_more jobs i j within ∙ ap (λ (k : Granted). k ∷ drop (i + 1) jobs) (sym is)))

-- ---- the versions that the host runs

-- the classes of the versions of these jobs are those that the host runs
pub taken_is : (w : World) (h : HostRow) (jobs : List Granted) (v : World) → AreRunBy w h jobs → with_classes v jobs ≡ classed w h v (places_of jobs)
taken_is w h [] v runs = refl
taken_is w h (j ∷ js) v runs =
    let first : class_granted v j.place.unit j.version.class ≡ class_one w h v j.place =
    ap (λ (o : Option Version). unwrap_or (option_map (λ (x : Version). class_granted v j.place.unit x.class) o) v)
    (All-head (λ (k : Granted). Some k.version ≡ version_at_unit w h k.place.unit) j js runs) in
    ap (λ (z : World). with_classes z js) first
    ∙ taken_is w h js (class_one w h v j.place) (All-tail (λ (k : Granted). Some k.version ≡ version_at_unit w h k.place.unit) j js runs)

-- in a sound world they can be taken
pub can_take : (w : World) (h : HostRow) (jobs : List Granted) → Sound w → AreRunBy w h jobs → CanTake w jobs
can_take w h jobs sound runs = λ k d within. one (get_or jobs k d) (runs k d within)
  where
    one : (j : Granted) → Some j.version ≡ version_at_unit w h j.place.unit → EditFits w (edit.Class j.place.unit j.version.class)
    one j run = (
      ap is_some (then_by (λ (b : UnitBook). version_for w h b.unit.app) (unit_at w j.place.unit) j.version (sym run)).1,
      version_word w sound h j.place.unit j.version (sym run),
    )
