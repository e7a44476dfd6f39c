use Rattle.reply_register.proofs.Falling.{keeps_the_latest}
use Rattle.reply_register.proofs.laws.keeps_the_latest.Goals as goal

pub returns : goal.returns
returns c = keeps_the_latest
