use Rattle.reply_register.proofs.Calls.{get_kept}
use Rattle.reply_register.proofs.laws.keeps_at_one_key.Goals as goal

pub returns : goal.returns
returns c = get_kept
