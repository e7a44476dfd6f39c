-- What a grant leaves of the class of each workunit.
use Rattle.std.proofs.Common.{◌≡◌, ℕ, Bool, true, false, cond, eqb, eqb-true, List, [], ◌∷◌, Option, Some, None, refl, ap, ◌∙◌}
use Rattle.std.specs.Prelude.{◌||◌, option_map, unwrap_or}
use Rattle.sched_book.specs.Classes.{rule_after}
use Rattle.sched_book.specs.Fits.{version_at_unit}
use Rattle.sched_book.specs.Grant.{has_unit}
use Rattle.sched_book.specs.Step.{class_granted, class_one, classed}
use Rattle.sched_book.specs.declared.instance.Place.{Place}
use Rattle.sched_book.specs.declared.rows.ClassRule.{ClassRule}
use Rattle.sched_book.specs.declared.rows.ClassRule.TheVariants.{Any, OfFirst, Only}
use Rattle.sched_book.specs.declared.rows.HostRow.{HostRow}
use Rattle.sched_book.specs.declared.rows.Version.{Version}
use Rattle.sched_book.specs.declared.world.World.{World}
use Rattle.sched_machine.specs.Classes.{rule_at, ClassesAreByPlace}
use Rattle.sched_machine.proofs.Classes.Kept.{rule_granted}
use Rattle.sched_machine.proofs.Classes.Left.{classed_like}

-- the rule of a workunit, if it exists, after a grant with a version, if there is one
abbrev taken_by : Option Version → Option ClassRule → Option ClassRule
taken_by None rule = rule
taken_by (Some v) rule = option_map (λ rule. rule_after rule v.class) rule

-- the first grant decides
taken_twice : (o : Option Version) (rule : Option ClassRule) → taken_by o (taken_by o rule) ≡ taken_by o rule
taken_twice None rule = refl
taken_twice (Some v) None = refl
taken_twice (Some v) (Some Any) = refl
taken_twice (Some v) (Some OfFirst) = refl
taken_twice (Some v) (Some (Only class)) = refl

module _ (entry : World) (h : HostRow) (n : ℕ) where
  abbrev runs : Option Version
  runs = version_at_unit entry h n

  -- a job
  one_takes : (w : World) (q : Place) → rule_at (class_one entry h w q) n ≡ cond (eqb q.unit n) (taken_by runs (rule_at w n)) (rule_at w n)
  one_takes w q = by_version (version_at_unit entry h q.unit) ∙ same_unit (eqb q.unit n) refl
    where
      by_version : (o : Option Version) → rule_at (unwrap_or (option_map (λ (v : Version). class_granted w q.unit v.class) o) w) n
          ≡ cond (eqb q.unit n) (taken_by o (rule_at w n)) (rule_at w n)
      by_version None = either (eqb q.unit n)
        where
          either : (t : Bool) → rule_at w n ≡ cond t (rule_at w n) (rule_at w n)
          either true = refl
          either false = refl
      by_version (Some v) = rule_granted w q.unit v.class n

      same_unit : (t : Bool) → eqb q.unit n ≡ t
          → cond t (taken_by (version_at_unit entry h q.unit) (rule_at w n)) (rule_at w n) ≡ cond t (taken_by runs (rule_at w n)) (rule_at w n)
      same_unit true same = ap (λ m. taken_by (version_at_unit entry h m) (rule_at w n)) (eqb-true q.unit n same)
      same_unit false other = refl

  -- all jobs
  all_take : (jobs : List Place) (w : World)
      → rule_at (classed entry h w jobs) n ≡ cond (has_unit n jobs) (taken_by runs (rule_at w n)) (rule_at w n)
  all_take [] w = refl
  all_take (q ∷ jobs) w =
      all_take jobs (class_one entry h w q)
      ∙ ap (λ rule. cond (has_unit n jobs) (taken_by runs rule) rule) (one_takes w q)
      ∙ join (eqb q.unit n) (has_unit n jobs)
    where
      join : (t b : Bool) → cond b (taken_by runs (cond t (taken_by runs (rule_at w n)) (rule_at w n))) (cond t (taken_by runs (rule_at w n)) (rule_at w n))
          ≡ cond (t || b) (taken_by runs (rule_at w n)) (rule_at w n)
      join true true = taken_twice runs (rule_at w n)
      join true false = refl
      join false b = refl

-- the law
pub classes_are_by_place : ClassesAreByPlace
classes_are_by_place entry h w jobs = record {
  job = λ n v there known.
      all_take entry h n jobs w
      ∙ ap (λ t. cond t (taken_by (version_at_unit entry h n) (rule_at w n)) (rule_at w n)) there
      ∙ ap (λ o. taken_by o (rule_at w n)) known;
  no_version = λ n none.
      all_take entry h n jobs w
      ∙ ap (λ o. cond (has_unit n jobs) (taken_by o (rule_at w n)) (rule_at w n)) none
      ∙ either (has_unit n jobs) (rule_at w n);
  other = λ n nowhere.
      all_take entry h n jobs w ∙ ap (λ t. cond t (taken_by (version_at_unit entry h n) (rule_at w n)) (rule_at w n)) nowhere;
  rest = classed_like entry h jobs w;
}
  where
    either : (t : Bool) (rule : Option ClassRule) → cond t rule rule ≡ rule
    either true rule = refl
    either false rule = refl
