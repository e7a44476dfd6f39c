use Rattle.std.proofs.Common.{rules}
use Rattle.sched_book.specs.Limits.{IsAccountInLimits}
use Rattle.table_decoding.specs.Decoding.{of_account}
use Rattle.table_worlds.proofs.ByPlace.{all_nth}
use Rattle.table_decoding.proofs.rows.accounts.Goals as goal

pub returns : goal.returns
returns c = λ xs all are.
    c.each.ensures of_account xs
    (λ id a told_as stands called. let limits : IsAccountInLimits a = all_nth IsAccountInLimits xs id a stands all in search rules)
    are
