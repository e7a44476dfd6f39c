use Rattle.reply_register.proofs.Numbers.{greatest_is_greatest}
use Rattle.reply_register.proofs.laws.greatest_is_greatest.Goals as goal

pub returns : goal.returns
returns c = greatest_is_greatest
