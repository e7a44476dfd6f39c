use Rattle.command_line.proofs.NumberTexts.{unread_value}
use Rattle.command_line.proofs.number.value_of.Goals as goal

pub returns-in-Err : goal.returns-in-Err
returns-in-Err c = unread_value c.args.text.now c.in-Err.field-0 (c.in-Err.ensures.value.0) c.requires
