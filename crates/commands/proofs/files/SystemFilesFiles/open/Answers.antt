use Rattle.std.proofs.Common.{ℕ, Bool, true, false, cond, List, ap₂}
use Rattle.sqlite_disk.specs.Events.{Event, replay}
use Rattle.sqlite_wal.specs.Files.{image_at}
use Rattle.sqlite_wal.specs.Recovery.{Image}
use Rattle.commands.proofs.Leftovers.{left_as_held, leaves_held, some_map}
use Rattle.commands.specs.Leftovers.{LeavesAsHeld}
use Rattle.commands.proofs.files.SystemFilesFiles.open.Goals as goal

abbrev image : List ℕ → List ℕ → Image
image log db = record { log = log; db = db }

abbrev seen : List ℕ → List ℕ → Bool → List Event → List ℕ
seen log db is_log history = (replay (cond is_log log db) history).seen

pub returns-in-Err-open_from-clause-left : goal.returns-in-Err-open_from-clause-left
returns-in-Err-open_from-clause-left g c =
    let log = g.B.Start.log in
    let db = g.B.Start.db in
    some_map _ (LeavesAsHeld (λ _. ⊥) (image_at g.B.Start)) c.in-Err-open_from.left
    (λ last cause.
    let files = cause.0 in
    left_as_held files (image_at g.B.Start)
    (ap₂ image (ap₂ (seen log db) cause.1.0 cause.1.1) (ap₂ (seen log db) cause.2.0 cause.2.1))
    (λ left may.
    ap₂ image
    (leaves_held g.B.Start.is_mixing log db files.log.is_log true _ files.log.calls.log.events left.log cause.1.0 cause.1.1 may.0)
    (leaves_held g.B.Start.is_mixing log db files.db.is_log false _ files.db.calls.log.events left.db cause.2.0 cause.2.1 may.1))
    last (λ clean. (cause.3 clean).1))
    c.in-Err-open_from.ensures.cause
