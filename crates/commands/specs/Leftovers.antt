-- Promise. What is left of the files of a database that could not be opened. (This project's own; the library's words are SQLite's: its file
-- format, sections 1 and 4.)
use Rattle.std.specs.Prelude.{◌≡◌, ◌⊎◌}
use Rattle.sqlite.specs.Files.{HoldsDatabase, AreFoundIn, IsCleanLeft}
use Rattle.sqlite.specs.declared.file.Leftover.{Leftover}
use Rattle.sqlite.specs.declared.file.Leftover.TheVariants as rest
use Rattle.sqlite_disk.specs.declared.Disk as disk
use Rattle.sqlite_pool.specs.Stored.{StandsAs}
use Rattle.sqlite_store.specs.FileStore.{view, recovers}
use Rattle.sqlite_store.specs.Unopened.{state_of}
use Rattle.sqlite_trees.specs.Tree.{Trees}
use Rattle.sqlite_trees.specs.View.{IsClean}
use Rattle.sqlite_wal.specs.Files.{outcomes}
use Rattle.sqlite_wal.specs.Recovery.{Image}

-- These are the trees that the files held. (No trees, if they held no database.)
abbrev pub AreHeld : Image → Trees → Type 0
AreHeld before trees = AreFoundIn before trees × ((db : Trees) → HoldsDatabase before db → trees ≡ db)

module _ {D : Type 0} {g : disk.Ghosts D} where
  -- Files that held these contents were opened, and this is left: no tables could be opened. Suppose that the disk returned what was written.
  -- Then a stop leaves of the files what they held. (An opening may write sums of the pages that the log has. Then a stop may leave the same
  -- pages with their sums.) Of a store that is left, an opening after a stop finds the trees that the files held, or trees for which Or is
  -- true.
  abbrev pub LeavesAsHeld : (Trees → Type 0) → Image → Leftover D g → Type 0
  LeavesAsHeld Or before (rest.Files now) = IsCleanLeft {g = g} (rest.Files now) → (image : Image) → outcomes g now.log now.db image → image ≡ before
  LeavesAsHeld Or before (rest.Unopened now) =
      IsCleanLeft {g = g} (rest.Unopened now) → (db : Trees) → HoldsDatabase before db → (image : Image) → (state_of now).may_leave image
      → (image ≡ before) ⊎ StandsAs (state_of now).page_size before image
  LeavesAsHeld Or before (rest.Store it) = IsClean (view it) → (found : Trees) → recovers it found → AreHeld before found ⊎ Or found
