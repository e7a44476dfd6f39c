-- What a stop leaves of a commit: what it could leave before, or the whole of it.
use Rattle.std.proofs.Common.{◌≡◌, ◌⊎◌, IsTrue, ap, ◌∙◌, inl, inr, arith}
use Rattle.sqlite.specs.Effect.{Database}
use Rattle.sqlite.specs.State.{State, HasCleanDisk, Survives}
use Rattle.sqlite_trees.specs.Tree.{Trees}
use Rattle.stores.specs.Held.{Held, IsKeptSoundly}
use Rattle.stores.specs.declared.entry.Entry.{Entry}
use Rattle.sched_book.specs.Delta.{applied}
use Rattle.sched_book.specs.declared.delta.Delta.{Delta}
use Rattle.sched_book.specs.declared.world.World.{World}
use Rattle.sched_tables.specs.Entries.{MakesWith, calls_of, batches_of}
use Rattle.sched_tables.specs.Held.{IsHonest, AreWellKept}
use Rattle.sched_tables.specs.Stops.{MayBeFound}
use Rattle.sched_tables.specs.StopLaws.{found_before, read_as_held}
use Rattle.sched_tables.proofs.EntriesKept.{now_held, calls_then, batches_then}

-- During a commit, a stop leaves what it could leave before or, if the connection was open, the whole of the commit.
pub found_is_ahead : (old new : State) (w : World) (held : Held) (cs : Delta) (e : Entry) (Kept : Type 0) → (Kept → AreWellKept old w)
    → Survives old new (λ trees. IsTrue old.is_open × (Kept → (db : Database) × MakesWith w cs e old.now db × (trees ≡ db.trees))) → MayBeFound new held
    → MayBeFound old held ⊎ (IsHonest old × (Kept → IsKeptSoundly cs e (record { world = w; calls = calls_of old.now.trees; batches = batches_of old.now.trees }) held))
found_is_ahead old new w held cs e Kept well survives found =
    let clean : HasCleanDisk old = omega (arith, survives.clean, found.clean) in
    elim (survives.crash found.clean found.trees found.left) [
      | inl before ↦ inl (found_before old new held found clean before)
      | inr ahead ↦ inr (
        (clean, ahead.0),
        λ kept may sound.
            let made = ahead.1 kept in
            let holds = (well kept).holds in
            record {
              world_is = read_as_held found.trees made.0 (applied w cs) held.world _ _ made.2 sound (now_held old.now made.0 w cs e holds made.1) found.read;
              calls_are = λ host. found.calls_are host ∙ ap (λ (t : Trees). calls_of t host) made.2 ∙ calls_then old.now made.0 w cs e holds made.1 may.newest host;
              batches_are = λ kind batch. found.batches_are kind batch ∙ ap (λ (t : Trees). batches_of t kind batch) made.2 ∙ batches_then old.now made.0 w cs e holds made.1 kind batch;
            },
      )
    ]
