use Rattle.table_cache.proofs.SkipMoves.{skip_came}
use Rattle.table_cache.proofs.skips.UserSkip.add.Goals as goal

pub returns : goal.returns
returns c = λ waiting jobs hosts is. skip_came jobs hosts waiting c.args.self.now.account c.args.place c.args.self.now.skip is c.add.new.self c.add.ensures
