use Rattle.reply_register.proofs.Calls.{get_other}
use Rattle.reply_register.proofs.laws.keeps_other_keys.Goals as goal

pub returns : goal.returns
returns c = get_other
