use Rattle.table_decoding.proofs.Refusals.{passed_on}
use Rattle.table_decoding.proofs.units.workunit.Goals as goal

pub returns-in_err-rule-clause-given : goal.returns-in_err-rule-clause-given
returns-in_err-rule-clause-given c = λ w id b apps has limits row mark.
    passed_on c.from_residual-in_err-rule.result b.unit c.in_err-rule.field-0.0 c.from_residual-in_err-rule.ensures.1 (c.in_err-rule.ensures.given id b mark)
