use Rattle.std.proofs.Common.{sym, ap, ◌∙◌}
use Rattle.std.specs.Prelude.{option_map}
use Rattle.sched_book.specs.Names.{small_number}
use Rattle.sched_book.proofs.SplitNames.{name_parts-some}
use Rattle.sched_book.proofs.names.split_name.Goals as goal

-- what follows the last underscore is no number, or is one
pub returns-in-None : goal.returns-in-None
returns-in-None c =
    sym (name_parts-some _ _ _ c.in-Some.ensures.cases
    ∙ ap (option_map (λ number. (c.in-Some.unit.now, number)))
    (ap small_number (sym c.as_bytes.ensures.value) ∙ sym c.small_number_of.ensures ∙ c.in-None.is))

pub returns-in-Some-small_number_of : goal.returns-in-Some-small_number_of
returns-in-Some-small_number_of c =
    sym (name_parts-some _ _ _ c.in-Some.ensures.cases
    ∙ ap (option_map (λ number. (c.in-Some.unit.now, number)))
    (ap small_number (sym c.as_bytes.ensures.value) ∙ sym c.small_number_of.ensures ∙ c.in-Some-small_number_of.is))
