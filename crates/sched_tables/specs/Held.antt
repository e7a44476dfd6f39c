-- Promise. When tables represent a world.
use Rattle.std.specs.Prelude.{◌≡◌, ℕ, false, List, IsTrue}
use Rattle.sqlite.specs.State.{State, HasCleanDisk}
use Rattle.sqlite_trees.specs.View.{doubt}
use Rattle.sqlite_trees.specs.declared.store.Store as store
use Rattle.sched_book.specs.declared.rows.App.{App}
use Rattle.sched_book.specs.declared.settings.Settings.{Settings}
use Rattle.sched_book.specs.declared.world.World.{World}
use Rattle.table_meaning.specs.Worlds.{SlotCalls, HoldWorld}
use Rattle.table_meaning.specs.Kept.{calls_in, batches_in}
use Rattle.table_worlds.specs.Readable.{IsReadable}
use Rattle.sched_tables.specs.DueFrom.{NothingIsDueBefore}
use Rattle.table_cache.specs.Remembering.{IsCacheOf}
use Rattle.table_cache.specs.declared.cache.Cache.{Cache}

-- the disk returned what was written, and no fault of it has shut the connection
abbrev pub IsHonest : State → Type 0
IsHonest s = HasCleanDisk s × IsTrue s.is_open

-- No transaction is open, and no change waits for a commit. The tables hold the world with what they keep, and its rows determine it.
pub record AreWellKept (s : State) (w : World) : Type 0 where
  pub idle : s.in_transaction ≡ false
  pub rests : s.now ≡ s.committed
  pub holds : HoldWorld s.now w (calls_in s.now.trees) (batches_in s.now.trees)
  pub readable : IsReadable w

-- What is in memory agrees with the tables. The settings and the applications are the world's, what is remembered is what the tables
-- hold, and nothing is due in the world before `due_from`.
pub record AreInMemory (w : World) (calls : SlotCalls) (settings : Settings) (apps : List App) (cache : Cache) (due_from : ℕ) : Type 0 where
  pub settings_are : settings ≡ w.settings
  pub apps_are : apps ≡ w.apps
  pub rows_are : IsCacheOf w calls cache
  pub due_from_is : NothingIsDueBefore w due_from

-- The store under the tables never fails: it counts no fault, and it is clean.
abbrev pub NeverFails : {S : Type 0} → store.Ghosts S → Type 0
NeverFails {S} g = (s : S) → (g.faults s ≡ 0) × (doubt (g.view s).is_clean ≡ 0)
