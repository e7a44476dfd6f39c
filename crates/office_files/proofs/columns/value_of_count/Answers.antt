use Rattle.texts.proofs.Digits.{same_text, some_text, digits_read}
use Rattle.office_files.proofs.CountTexts.{are_digits, is_some_text}
use Rattle.office_files.proofs.columns.value_of_count.Goals as goal

pub returns-in-Err : goal.returns-in-Err
returns-in-Err c =
    let same = same_text c.args.field.now c.in-Some.text.now (c.in-Some.ensures) (are_digits c.args.field.now c.requires) in
    let value = rw same at c.parse.ensures.value.0 in
    rw c.in-Err.is at (digits_read 64 c.args.field.now c.parse.result value (is_some_text c.args.field.now c.requires) (are_digits c.args.field.now c.requires))

pub returns-in_default : goal.returns-in_default
returns-in_default c = absurd (some_text c.args.field.now (c.in_default.ensures) (are_digits c.args.field.now c.requires))
