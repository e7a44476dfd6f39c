use Rattle.std.proofs.Common.{◌≡◌, ◌++◌, List, drop}
use Rattle.sched_book.specs.Offers.{unsent_in, Leads}
use Rattle.sched_book.specs.declared.desk.Candidate.{Candidate}
use Rattle.sched_book.proofs.offers.offer_unit.Given as goal

-- the offers so far lead to those of the instances that are left
abbrev pub invariant-loop-number : goal.invariant-loop-number
invariant-loop-number g l = record {
  unit : l.candidate.unit ≡ l.book.unit;
  leads : (more : List Candidate)
      → Leads (g.T.Taker.takes) l.fn.taker (unsent_in l.from l.unit l.book.unit 0 l.book.instances ++ more) l.taker
      (unsent_in l.from l.unit l.book.unit l.number (drop l.number l.book.instances) ++ more);
}
