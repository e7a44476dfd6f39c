use Rattle.table_desk.specs.Columns.{counted_host_at}
use Rattle.table_cache.specs.Covering.{jobs_of}
use Rattle.table_desk.specs.WaitingWindow.{waiting_of}
use Rattle.table_cache.proofs.cache.Cache.skip_of.Goals as goal

pub returns : goal.returns
returns c = λ w calls read. c.of.ensures (waiting_of w) (jobs_of w) (counted_host_at w) read.skips
