use Rattle.std.proofs.Common.{ap, ◌∙◌}
use Rattle.lost_jobs.specs.UnitStates.{change_on}
use Rattle.lost_jobs.proofs.OnUnitStates.{change_known}
use Rattle.lost_jobs.proofs.changes.add_change.Goals as goal

pub returns-clause-known : goal.returns-clause-known
returns-clause-known g c honest kept =
    change_known (g.S.Draft.entry c.args.working_set.now) (g.S.Units.world c.args.working_set.now) c.args.fate _ c.in_ok-change.change
    (c.in_ok-read.ensures.answer honest kept) (c.in_ok-change.ensures.value ∙ ap (λ o. change_on o c.args.fate) c.unit_state.ensures)
    c.in_ok-change.ensures.there
