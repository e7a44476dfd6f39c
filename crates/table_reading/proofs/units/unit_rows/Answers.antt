use Rattle.std.proofs.Common.{inr}
use Rattle.sqlite.specs.Held.{state}
use Rattle.table_meaning.proofs.StepLemmas.{reads_on}
use Rattle.table_reading.proofs.ReadsOn.{refused_on}
use Rattle.table_reading.proofs.units.unit_rows.Goals as goal

pub returns-in_err-instances-clause-bad : goal.returns-in_err-instances-clause-bad
returns-in_err-instances-clause-bad g c = λ was.
    refused_on c.from_residual.result _ c.in_err-instances.field-0.0 c.from_residual.ensures.1 (λ is. inr (c.in_err-instances.ensures.bad was is))

pub returns-clause-reads : goal.returns-clause-reads
returns-clause-reads g c =
    reads_on (state g.S.Store c.args.conn.now) (state g.S.Store c.instance_rows.new.conn) (state g.S.Store c.unit_and_mark.new.conn) c.instance_rows.ensures.reads c.unit_and_mark.ensures.reads
