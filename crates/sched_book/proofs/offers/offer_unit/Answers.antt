use Rattle.std.proofs.Common.{rules}
use Rattle.sched_book.specs.Offers.{unsent_in}
use Rattle.sched_book.proofs.Offering.{offered_none}
use Rattle.sched_book.proofs.offers.offer_unit.Goals as goal

-- there was no memory to copy the workunit, and nothing was offered yet
pub returns-in_err-clone-clause-err : goal.returns-in_err-clone-clause-err
returns-in_err-clone-clause-err g c =
    let book = c.args.book.now in
    let none = offered_none (g.T.Taker.takes) c.args.taker.now (unsent_in c.args.from c.args.unit book.unit 0 book.instances) in
    search rules
