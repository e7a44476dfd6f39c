use Rattle.std.proofs.Common.{All, Bor, sym, subst}
use Rattle.rpc_records.specs.Ranges.{IsReport}
use Rattle.rpc_records.specs.declared.request.Report.{Report}
use Rattle.quorum_credit.proofs.FirstNames.{firsts_in_range}
use Rattle.quorum_credit.proofs.reports.record_on.Goals as goal

pub returns-clause-fits : goal.returns-clause-fits
returns-clause-fits g c = λ honest kept told.
    c.in_ok-take_in_turn.ensures.fits honest kept
    (subst (All (λ (r : Bor Report). IsReport r.now)) (sym c.as_slice-3.ensures.value)
    (firsts_in_range c.as_slice.result.now c.in_ok-firsts.firsts.items c.in_ok-firsts.ensures (subst (All IsReport) (sym c.as_slice.ensures) told)))
