-- Promise. New tables, and what is left if they could not be made. (This project's own.)
use Rattle.std.specs.Prelude.{◌≡◌, ◌⊎◌}
use Rattle.sqlite.specs.Effect.{Database}
use Rattle.sqlite.specs.State.{State, HasCleanDisk}
use Rattle.sqlite_trees.specs.Tree.{Trees}
use Rattle.sqlite_trees.specs.View.{IsClean}
use Rattle.sqlite_trees.specs.declared.store.Store.{Ghosts}
use Rattle.sched_book.specs.Sound.{Sound}
use Rattle.sched_book.specs.Step.{empty_world}
use Rattle.sched_book.specs.declared.settings.Settings.{Settings}
use Rattle.stores.specs.Held.{IsNew}
use Rattle.table_meaning.specs.Schema.{no_schema}
use Rattle.sched_tables.specs.Reopening.{CanBeOpened}
use Rattle.sched_tables.specs.Views.{held_in}

-- New tables with these settings: they hold the empty world, and nothing was heard. They can be opened.
pub record AreNewTables (settings : Settings) (db : Database) : Type 0 where
  pub new : IsNew settings (held_in db.trees)
  pub opens : CanBeOpened db

-- The database was empty, and these are the trees of new tables with these settings.
abbrev pub MadeInEmpty : Settings → Database → Trees → Type 0
MadeInEmpty settings old trees = (old.schema ≡ no_schema) × (db : Database) × (db.trees ≡ trees) × AreNewTables settings db

-- Tables could not be made, and a store is left of the connection. No wrong answer of the disk is forgotten. What a stop leaves of the store
-- is what it could leave of the connection. If the database was empty, it may be new tables.
pub record IsRestOfMaking {S : Type 0} (g : Ghosts S) (settings : Settings) (old : State) (rest : S) : Type 0 where
  pub clean : IsClean (g.view rest) → HasCleanDisk old
  pub left : Sound (empty_world settings) → IsClean (g.view rest) → (trees : Trees) → g.recovers rest trees
      → old.may_leave trees ⊎ MadeInEmpty settings old.now trees
