use Rattle.std.proofs.Common.{refl}
use Rattle.table_desk.specs.Columns.{counted_host_at}
use Rattle.table_cache.specs.Covering.{jobs_of}
use Rattle.table_desk.specs.WaitingWindow.{waiting_of}
use Rattle.table_cache.proofs.HadBy.{given_before}
use Rattle.table_cache.proofs.Remembered.{found_too}
use Rattle.table_cache.proofs.cache.Cache.remember_had.Goals as goal

pub returns : goal.returns
returns c = λ w calls read is.
    let skips = c.raise.ensures (waiting_of w) (jobs_of w) (counted_host_at w) (given_before w c.args.account c.args.place is) read.skips in
    found_too w calls _ _ refl read read.units read.names read.accounts read.keys skips
