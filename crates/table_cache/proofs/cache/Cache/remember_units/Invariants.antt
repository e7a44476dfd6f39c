use Rattle.std.specs.Prelude.{All}
use Rattle.sched_book.specs.declared.world.World.{World}
use Rattle.table_meaning.specs.Worlds.{SlotCalls}
use Rattle.table_cache.specs.Remembering.{IsCacheOf, IsUnitOf}
use Rattle.table_cache.proofs.cache.Cache.remember_units.Given as goal

-- what is remembered so far is the world's
abbrev pub invariant-loop-unit : goal.invariant-loop-unit
invariant-loop-unit l = (w : World) (calls : SlotCalls) → IsCacheOf w calls l.fn.self → All (IsUnitOf w) l.read → IsCacheOf w calls l.self
