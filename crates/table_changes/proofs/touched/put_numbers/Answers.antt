use Rattle.std.proofs.Common.{rules, ◌<◌, length, get_or, refl}
use Rattle.table_changes.proofs.Numbers.{put_next}
use Rattle.table_changes.proofs.touched.put_numbers.Goals as goal

pub loop-number-preserved : goal.loop-number-preserved
loop-number-preserved c =
    let numbers = c.args.numbers.now in
    let i = c.loop-number.number-index in
    let within : i < length numbers = search rules in
    put_next numbers i (get_or numbers i 0) c.loop-number.set c.insert.new.self c.args.set.now within refl c.in_ok-insert.ensures.updates.0 c.loop-number.invariant
