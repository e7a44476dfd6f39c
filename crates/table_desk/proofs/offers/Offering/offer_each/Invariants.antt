use Rattle.std.proofs.Common.{◌≡◌, ◌++◌, List, drop}
use Rattle.sqlite.specs.Held.{state}
use Rattle.sched_book.specs.Offers.{Leads}
use Rattle.sched_book.specs.declared.desk.Candidate.{Candidate}
use Rattle.table_meaning.specs.Reads.{Reads}
use Rattle.table_desk.specs.Asked.{LooksUp}
use Rattle.table_desk.specs.Skips.{IsCovered}
use Rattle.sched_book.specs.Offers.{OrSkips}
use Rattle.table_desk.specs.Pages.{candidates_at}
use Rattle.table_desk.proofs.offers.Offering.offer_each.Given as goal

-- the offers so far lead to those of the places that are left
abbrev pub invariant-loop-place : goal.invariant-loop-place
invariant-loop-place g l =
    Reads (state g.S.Store l.fn.conn) (state g.S.Store l.conn)
    × LooksUp g.S.Store l.fn.conn l.conn (λ w. l.self.apps.now ≡ w.apps → g.K.KnownUnits.are_of w l.self.known.now → (more : List Candidate)
    → Leads (OrSkips (IsCovered l.self.skip.now) g.T.Taker.takes) l.fn.taker (candidates_at w l.places ++ more) l.taker (candidates_at w (drop l.place-index l.places) ++ more))
