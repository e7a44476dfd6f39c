-- Promise. What a stop may leave of tables.
use Rattle.std.specs.Prelude.{◌≡◌, ℕ, List}
use Rattle.sqlite.specs.State.{State, HasCleanDisk}
use Rattle.sqlite_trees.specs.Tree.{Trees}
use Rattle.stores.specs.Held.{Held}
use Rattle.stores.specs.declared.kind.Kind.{Kind}
use Rattle.table_reading.specs.Reading.{ReadFrom}
use Rattle.sched_tables.specs.Entries.{calls_of, batches_of}

-- What a stop may leave of tables, if the disk returned what was written: rows that a later opening may find. The world is read from these
-- rows, and so is what is kept.
pub record MayBeFound (s : State) (held : Held) : Type 0 where
  pub trees : Trees
  pub clean : HasCleanDisk s
  pub left : s.may_leave trees
  pub read : ReadFrom trees held.world
  pub calls_are : (host : ℕ) → held.calls host ≡ calls_of trees host
  pub batches_are : (kind : Kind) (batch : List ℕ) → held.batches kind batch ≡ batches_of trees kind batch
