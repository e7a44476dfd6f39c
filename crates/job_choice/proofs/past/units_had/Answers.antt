use Rattle.std.proofs.Common.{◌∙◌}
use Rattle.job_choice.proofs.Looked.{whole_is}
use Rattle.job_choice.proofs.past.units_had.Goals as goal

pub returns-clause-answer : goal.returns-clause-answer
returns-clause-answer g c = λ honest kept.
    whole_is (g.D.Units.world c.args.desk.now) c.args.account c.as_slice.result.now c.in_ok-of.field-0
    (c.as_slice.ensures ∙ c.in_ok-units.ensures.answer honest kept) c.in_ok-of.ensures
