use Rattle.std.proofs.Common.{◌≡◌, ◌++◌, [], drop, map}
use Rattle.texts.specs.SeenSet.{has_text}
use Rattle.sched_book.specs.Firsts.{first_unseen}
use Rattle.sched_book.specs.Reports.{first_of_each}
use Rattle.sched_book.proofs.first_names.first_of_each.Given as goal

-- the first ones so far, and those among the items that are left
abbrev pub invariant-loop-item : goal.invariant-loop-item
invariant-loop-item g l =
    map (λ x. x.now) l.firsts.items ++ first_unseen g.T.Named.name_of (has_text l.seen) (drop l.item-index l.items)
    ≡ first_of_each g.T.Named.name_of [] l.items
