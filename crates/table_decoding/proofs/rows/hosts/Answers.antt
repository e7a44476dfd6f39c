use Rattle.std.proofs.Common.{rules}
use Rattle.sched_book.specs.Limits.{most_quota, IsHostInLimits}
use Rattle.table_decoding.specs.Decoding.{of_host}
use Rattle.table_worlds.proofs.ByPlace.{all_nth}
use Rattle.table_decoding.proofs.rows.hosts.Goals as goal

pub returns : goal.returns
returns c = λ held credit xs all are.
    c.each.ensures (of_host held credit) xs
    (λ id h told_as stands called. let limits : IsHostInLimits most_quota h = all_nth (IsHostInLimits most_quota) xs id h stands all in search rules)
    are
