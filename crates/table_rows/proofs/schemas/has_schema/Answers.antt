use Rattle.std.proofs.Common.{sym, subst, ◌∙◌}
use Rattle.table_rows.specs.Plain.{IsPlain}
use Rattle.table_rows.proofs.PlainSchema.{each_is_plain}
use Rattle.table_rows.proofs.schemas.has_schema.Goals as goal

pub returns-in-Ok-clause-has : goal.returns-in-Ok-clause-has
returns-in-Ok-clause-has g c = (
  λ yes. sym c.schema.ensures.value ∙ (c.is_alike.ensures.0 yes).0 ∙ c.in-Ok.ensures,
  λ same. c.is_alike.ensures.1 (c.schema.ensures.value ∙ same ∙ sym c.in-Ok.ensures, subst IsPlain (sym c.in-Ok.ensures) (each_is_plain c.args.schema)),
)
