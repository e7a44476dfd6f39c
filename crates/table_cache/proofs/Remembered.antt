-- What is remembered after a row more was.
use Rattle.std.proofs.Common.{◌≡◌, sym, subst}
use Rattle.std.specs.Cmp.Lexicographic.{slice_cmp}
use Rattle.std.specs.Ordering.{nat_cmp}
use Rattle.sched_book.specs.declared.world.World.{World}
use Rattle.table_desk.specs.Columns.{counted_host_at}
use Rattle.table_desk.specs.WaitingWindow.{waiting_of}
use Rattle.table_meaning.specs.Worlds.{SlotCalls}
use Rattle.table_cache.specs.Covering.{jobs_of, AreSkipsFor}
use Rattle.table_cache.specs.Remembering.{AreUnitsOf, IsAccountOf, IsKeyOf, IsNameOf, IsCacheOf}
use Rattle.table_cache.specs.RowsRead.{HoldOfEach}
use Rattle.table_cache.specs.declared.cache.Cache.{Cache}

-- a cache as it was, but with the workunits, names, accounts, keys and skips of another one
abbrev with_found : Cache → Cache → Cache
with_found old new = record old { units = record old.units { rows = new.units.rows; names = new.units.names }; accounts = new.accounts; keys = new.keys; skips = new.skips }

-- if these are the world's, and all else is as it was, what is remembered is what the world has
pub found_too : (w : World) (calls : SlotCalls) (old new : Cache) → new ≡ with_found old new → IsCacheOf w calls old
    → AreUnitsOf w new.units.rows → HoldOfEach (slice_cmp nat_cmp) (IsNameOf w) new.units.names → HoldOfEach (slice_cmp nat_cmp) (IsAccountOf w) new.accounts → HoldOfEach (slice_cmp nat_cmp) (IsKeyOf w) new.keys
    → AreSkipsFor (waiting_of w) (jobs_of w) (counted_host_at w) new.skips → IsCacheOf w calls new
found_too w calls old new same read units names accounts keys skips = subst (IsCacheOf w calls) (sym same) then
  where
    then : IsCacheOf w calls (with_found old new)
    then = record {
      units = units;
      instances = read.instances;
      hosts = read.hosts;
      credits = read.credits;
      last_host = read.last_host;
      sent = read.sent;
      held = read.held;
      accounts = accounts;
      keys = keys;
      names = names;
      last_unit = read.last_unit;
      last_jobs = read.last_jobs;
      versions = read.versions;
      slot = read.slot;
      window = read.window;
      skips = skips;
    }
