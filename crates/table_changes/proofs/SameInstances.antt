-- What `==` means for two instances: they are equal.
use Rattle.std.proofs.Common.{◌≡◌, rules}
use Rattle.std.specs.Bool.{Decides}
use Rattle.std.specs.Cmp.Rules.{hashing}
use Rattle.sched_book.specs.declared.instance.Owner.{Owner}
use Rattle.sched_book.specs.declared.instance.Outcome.{Outcome}
use Rattle.sched_book.specs.declared.instance.Instance.{Instance}
use Rattle.sched_book.specs.contracts.instance.OwnerPartialEq.TheImpl as owner
use Rattle.sched_book.specs.contracts.instance.OutcomePartialEq.TheImpl as outcome
use Rattle.sched_book.specs.contracts.instance.InstancePartialEq.TheImpl as instance

owner_same : (x y : Owner) → Decides ((owner.ghosts).eq x y) (x ≡ y)
owner_same x y = search (hashing, rules)

outcome_same : (x y : Outcome) → Decides ((outcome.ghosts).eq x y) (x ≡ y)
outcome_same x y = search (hashing, rules)

pub instance_same : (x y : Instance) → Decides ((instance.ghosts).eq x y) (x ≡ y)
instance_same x y = search (hashing, owner_same, outcome_same, rules)
