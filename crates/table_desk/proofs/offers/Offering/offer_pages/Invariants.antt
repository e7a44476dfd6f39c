use Rattle.std.proofs.Common.{◌≡◌}
use Rattle.sqlite.specs.Held.{state}
use Rattle.sched_book.specs.Offers.{Leads}
use Rattle.table_meaning.specs.Reads.{Reads}
use Rattle.table_desk.specs.Asked.{LooksUp}
use Rattle.table_desk.specs.Skips.{IsCovered}
use Rattle.sched_book.specs.Offers.{OrSkips}
use Rattle.table_desk.specs.Pages.{unsent_on}
use Rattle.table_desk.proofs.offers.Offering.offer_pages.Given as goal

-- the offers so far lead to those from the next page on
abbrev pub invariant-loop-turn : goal.invariant-loop-turn
invariant-loop-turn g l =
    Reads (state g.S.Store l.fn.conn) (state g.S.Store l.conn)
    × LooksUp g.S.Store l.fn.conn l.conn (λ w. l.self.apps.now ≡ w.apps → g.K.KnownUnits.are_of w l.self.known.now → Leads (OrSkips (IsCovered l.self.skip.now) g.T.Taker.takes) l.fn.taker (unsent_on w l.fn.from) l.taker (unsent_on w l.next))
