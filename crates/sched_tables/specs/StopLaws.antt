-- Rule. What a stop leaves after a read, and with no open transaction. The tables owe this as a store. It is proved from the definitions
-- alone.
use Rattle.std.proofs.Common.{◌≡◌, refl, sym, ap, subst, ◌∙◌, inl, inr, arith}
use Rattle.sqlite.specs.Effect.{Database}
use Rattle.sqlite.specs.State.{State, HasCleanDisk, Survives}
use Rattle.sqlite_trees.specs.Tree.{Trees}
use Rattle.stores.specs.Held.{Held, IsLeft}
use Rattle.sched_book.specs.Sound.{Sound}
use Rattle.sched_book.specs.declared.world.World.{World}
use Rattle.table_meaning.specs.Worlds.{SlotCalls, HoldWorld}
use Rattle.table_reading.specs.Reading.{ReadFrom}
use Rattle.table_reading.proofs.KeptRows.{held_by_rows}
use Rattle.table_worlds.proofs.OneWorld.{one_world}
use Rattle.sched_tables.specs.Commits.{Imports}
use Rattle.sched_tables.specs.Entries.{calls_of, batches_of}
use Rattle.sched_tables.specs.Held.{AreWellKept}
use Rattle.sched_tables.specs.Stops.{MayBeFound}

-- what may be found after a call could be found before it, if a stop before the call could leave the same rows
pub found_before : (old new : State) (held : Held) (found : MayBeFound new held) → HasCleanDisk old → old.may_leave found.trees → MayBeFound old held
found_before old new held found clean left =
    record { trees = found.trees; clean = clean; left = left; read = found.read; calls_are = found.calls_are; batches_are = found.batches_are }

-- If a call commits nothing, what may be found after it could be found before it.
pub stays_found : (old new : State) (held : Held) → Survives old new (λ _. ⊥) → MayBeFound new held → MayBeFound old held
stays_found old new held survives found = elim (survives.crash found.clean found.trees found.left) [
  | inl before ↦ found_before old new held found (omega (arith, survives.clean, found.clean)) before
  | inr none ↦ absurd none
]

-- the world that is read from rows is the sound one that they hold
pub read_as_held : (trees : Trees) (db : Database) (w v : World) (calls : SlotCalls) (batches : Imports) → trees ≡ db.trees → Sound w → HoldWorld db w calls batches → ReadFrom trees v → v ≡ w
read_as_held trees db w v calls batches same sound holds read =
    let here : ReadFrom db.trees v = subst (λ (t : Trees). ReadFrom t v) same read in
    one_world db db v w _ calls _ batches refl here.2.sound sound (held_by_rows db v here.0 holds.known here.1 here.2) holds

-- What is found is what tables with the same rows hold.
pub found_is_held : (s t : State) (w : World) (held : Held) → AreWellKept t w → Sound w → (found : MayBeFound s held) → found.trees ≡ t.now.trees
    → IsLeft (record { world = w; calls = calls_of t.now.trees; batches = batches_of t.now.trees }) held
found_is_held s t w held kept sound found same = record {
  world_is = read_as_held found.trees t.now w held.world _ _ same sound kept.holds found.read;
  calls_are = λ host. found.calls_are host ∙ ap (λ (t : Trees). calls_of t host) same;
  batches_are = λ kind batch. found.batches_are kind batch ∙ ap (λ (t : Trees). batches_of t kind batch) same;
}

-- With no open transaction, a stop leaves what was committed.
pub found_is_committed : (s : State) (w : World) (held : Held) → AreWellKept s w → Sound w → ((trees : Trees) → s.may_leave trees → trees ≡ s.committed.trees) → MayBeFound s held
    → IsLeft (record { world = w; calls = calls_of s.now.trees; batches = batches_of s.now.trees }) held
found_is_committed s w held kept sound settled found =
    found_is_held s s w held kept sound found (settled found.trees found.left ∙ ap (λ (db : Database). db.trees) (sym kept.rests))
