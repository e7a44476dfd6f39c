-- Words. What is known while the rows of an import are made, one after another.
use Rattle.std.specs.Prelude.{◌≡◌, List, ◌++◌}
use Rattle.sched_book.specs.Desk.{counts}
use Rattle.sched_book.specs.declared.desk.Counts.{Counts}
use Rattle.sched_book.specs.declared.rows.App.{App}
use Rattle.sched_book.specs.declared.world.World.{World}
use Rattle.table_meaning.specs.declared.rows.StoredRow.{StoredRow}
use Rattle.table_worlds.specs.Changes.{AreChanges}
use Rattle.table_worlds.specs.Readable.{IsReadable}

-- The rows change the world before the import into the present one. The present world has `count` rows of each kind, and its rows determine it.
-- Its list of applications begins with that of the world before.
pub record AreImported (before present : World) (count : Counts) (rows : List StoredRow) : Type 0 where
  pub counted : count ≡ counts present
  pub apps : (more : List App) × (present.apps ≡ before.apps ++ more)
  pub readable : IsReadable present
  pub changes : AreChanges before present rows

-- The rows change the world before the import into the present one, which its rows determine.
abbrev pub HaveImported : World → World → List StoredRow → Type 0
HaveImported before present rows = AreImported before present (counts present) rows
