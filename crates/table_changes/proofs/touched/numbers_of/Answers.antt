use Rattle.std.proofs.Common.{rules}
use Rattle.table_changes.proofs.Numbers.{collected}
use Rattle.table_changes.proofs.touched.numbers_of.Goals as goal

pub returns : goal.returns
returns g c = collected c.args.map.now c.collect.result (search rules)
