use Rattle.std.proofs.Common.{◌-◌}
use Rattle.sched_book.specs.Limits.{IsInstanceInLimits}
use Rattle.table_meaning.specs.Worlds.{instance_row}
use Rattle.table_worlds.proofs.ByPlace.{all_nth}
use Rattle.table_decoding.proofs.instances.instances.Goals as goal

pub returns : goal.returns
returns c = λ w b unit all are.
    c.each.ensures (λ n x. instance_row w b unit (n - 1) x) b.instances
    (λ id x told_as stands called. called.says.met.0 w b unit (id - 1) x (all_nth IsInstanceInLimits b.instances id x stands all) called.shows)
    are
