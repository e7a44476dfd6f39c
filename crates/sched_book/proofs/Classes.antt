-- Limits of a row under another rule of its class.
use Rattle.std.proofs.Common.{◌≡◌, ℕ, List, refl}
use Rattle.std.specs.Prelude.{IfSome}
use Rattle.sched_book.specs.Classes.{class_of, rule_after, first_rule, imported}
use Rattle.sched_book.specs.Limits.{IsUnitInLimits}
use Rattle.sched_book.specs.declared.rows.ClassRule.{ClassRule}
use Rattle.sched_book.specs.declared.rows.ClassRule.TheVariants.{Any, OfFirst, Only}
use Rattle.sched_book.specs.declared.rows.Workunit.{Workunit}
use Rattle.texts.specs.Words.{IsWord}

-- granting a class does not change the rule that a workunit was imported with
pub first_stays : (rule : ClassRule) (class : List ℕ) → first_rule (rule_after rule class) ≡ first_rule rule
first_stays Any class = refl
first_stays OfFirst class = refl
first_stays (Only own) class = refl

-- a row stays within limits under another rule that is within them
pub limits_with_rule : (u : Workunit) (rule : ClassRule) → IfSome (class_of rule) IsWord → IsUnitInLimits u → IsUnitInLimits (record u { class_rule = rule })
limits_with_rule u rule ruled limits = record {
  name = limits.name;
  app = limits.app;
  quorum = limits.quorum;
  target = limits.target;
  errors = limits.errors;
  total = limits.total;
  successes = limits.successes;
  delay = limits.delay;
  work = limits.work;
  memory = limits.memory;
  disk = limits.disk;
  credit = limits.credit;
  rule = ruled;
}

-- the rule that a workunit was imported with has no class
first_in_limits : (rule : ClassRule) → IfSome (class_of (first_rule rule)) IsWord
first_in_limits Any = tt
first_in_limits OfFirst = tt
first_in_limits (Only class) = tt

pub imported_in_limits : (u : Workunit) → IsUnitInLimits u → IsUnitInLimits (imported u)
imported_in_limits u limits = limits_with_rule u (first_rule u.class_rule) (first_in_limits u.class_rule) limits
