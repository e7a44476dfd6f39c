use Rattle.std.proofs.Common.{take}
use Rattle.sched_book.specs.Imports.{with_rows}
use Rattle.sched_book.specs.declared.rows.Rows.TheVariants as kinds
use Rattle.sched_book.specs.declared.world.World.{World}
use Rattle.table_changes.specs.Imported.{AreImported}
use Rattle.table_changes.proofs.imports.import_apps.Given as goal

-- the rows so far are imported
abbrev pub invariant-loop-app : goal.invariant-loop-app
invariant-loop-app l =
    (w v : World) → AreImported w v l.initial.counted l.initial.rows → AreImported w (with_rows v (kinds.Apps (take l.app-index l.apps))) l.counted l.rows
