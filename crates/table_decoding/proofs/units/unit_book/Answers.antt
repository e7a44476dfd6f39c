use Rattle.std.proofs.Common.{ap, ◌∙◌}
use Rattle.table_worlds.specs.declared.unit_rows.UnitRows.{UnitRows}
use Rattle.table_decoding.proofs.Refusals.{passed_on}
use Rattle.table_decoding.proofs.units.unit_book.Goals as goal

pub returns-in_err-workunit : goal.returns-in_err-workunit
returns-in_err-workunit c = λ w id b apps sound are.
    passed_on c.from_residual.result b c.in_err-workunit.field-0.0 c.from_residual.ensures.1
    (c.in_err-workunit.ensures.given w id b apps sound.well.app sound.well.limits (ap (λ (r : UnitRows). r.unit) are) (ap (λ (r : UnitRows). r.mark) are))

pub returns-in_err-instances : goal.returns-in_err-instances
returns-in_err-instances c = λ w id b apps sound are.
    passed_on c.from_residual-in_err-instances.result b c.in_err-instances.field-0.0 c.from_residual-in_err-instances.ensures.1
    (c.in_err-instances.ensures w b id sound.well.instances (c.as_slice.ensures ∙ ap (λ (r : UnitRows). r.instances) are))

pub returns : goal.returns
returns c = λ w id b apps sound are.
    let unit = c.in_ok-workunit.ensures.given w id b apps sound.well.app sound.well.limits (ap (λ (r : UnitRows). r.unit) are) (ap (λ (r : UnitRows). r.mark) are) in
    let instances = c.in_ok-instances.ensures w b id sound.well.instances (c.as_slice.ensures ∙ ap (λ (r : UnitRows). r.instances) are) in
    λ i. record { unit = unit i; instances = instances i }
