use Rattle.std.proofs.Common.{rules}
use Rattle.table_cache.proofs.SentMoves.{no_jobs_at, no_jobs_past, none_listed}
use Rattle.table_cache.proofs.sent.note_unit.Goals as goal

pub returns-then-is_past : goal.returns-then-is_past
returns-then-is_past c = λ jobs before.
    let read = c.args.read.now in
    let past = c.is_past.ensures (search rules) in
    record {
      each = none_listed jobs c.args.unit read.instances c.put.new.self c.new.result before.each c.put.ensures c.new.ensures (no_jobs_at jobs read.last c.args.unit past before.none_past);
      units = before.units;
      numbers = before.numbers;
      counted = before.counted;
      none_past = no_jobs_past jobs read.last c.args.unit past before.none_past;
    }
