-- Rule. A workunit in a call state.
use Rattle.std.specs.Prelude.{List}
use Rattle.sched_book.specs.declared.instance.Instance.{Instance}
use Rattle.sched_book.specs.declared.rows.Agreement.{Agreement}
use Rattle.sched_book.specs.declared.rows.ClassRule.{ClassRule}
use Rattle.sched_book.specs.declared.rows.Workunit.{Workunit}

-- A workunit as it was before the call, with its class rule as it is now, how its application compares outputs, and its
-- instances before the call and now.
pub record UnitState : Type 0 where
  pub unit : Workunit
  pub rule : ClassRule
  pub agreement : Agreement
  pub before : List Instance
  pub present : List Instance
