use Rattle.std.proofs.Common.{take}
use Rattle.sched_book.specs.Imports.{with_rows}
use Rattle.sched_book.specs.declared.rows.Rows.TheVariants as kinds
use Rattle.sched_book.specs.declared.world.World.{World}
use Rattle.table_changes.specs.Imported.{AreImported}
use Rattle.table_changes.proofs.imports.import_accounts.Given as goal

-- the rows so far are imported
abbrev pub invariant-loop-account : goal.invariant-loop-account
invariant-loop-account l =
    (w v : World) → AreImported w v l.initial.counted l.initial.rows → AreImported w (with_rows v (kinds.Accounts (take l.account-index l.accounts))) l.counted l.rows
