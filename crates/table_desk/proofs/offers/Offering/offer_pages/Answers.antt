use Rattle.table_desk.specs.Skips.{IsCovered}
use Rattle.sched_book.specs.Offers.{OrSkips}
use Rattle.table_desk.specs.Pages.{unsent_on}
use Rattle.table_desk.proofs.PagesOffered.{none_offered}
use Rattle.table_desk.proofs.offers.Offering.offer_pages.Goals as goal

pub returns-clause-some : goal.returns-clause-some
returns-clause-some g c = λ clean is_open rests w tell same known.
    let now = c.loop-turn.taker in
    (c.loop-turn.invariant.1 clean is_open rests w tell same known).to_some now (none_offered (OrSkips (IsCovered c.args.self.now.skip.now) g.T.Taker.takes) now (unsent_on w c.loop-turn.next))
