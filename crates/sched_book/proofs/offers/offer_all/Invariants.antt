use Rattle.std.proofs.Common.{◌+◌, drop}
use Rattle.sched_book.specs.Offers.{unsent, unsent_among, Leads}
use Rattle.sched_book.proofs.offers.offer_all.Given as goal

-- the offers so far lead to those of the workunits that are left
abbrev pub invariant-loop-index : goal.invariant-loop-index
invariant-loop-index g l =
    Leads (g.T.Taker.takes) l.fn.taker (unsent l.world l.from) l.taker (unsent_among l.world l.from (l.index + 1) (drop l.index l.world.units))
