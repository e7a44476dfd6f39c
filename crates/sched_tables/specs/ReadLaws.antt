-- Rule. What a read leaves of tables, proved from the definitions alone.
use Rattle.std.proofs.Common.{◌≡◌, ℕ, false, List, sym, ap, subst, ◌∙◌, inl, inr, arith}
use Rattle.sqlite.specs.Effect.{Database}
use Rattle.sqlite.specs.State.{State, HasCleanDisk, Survives}
use Rattle.sqlite_disk.specs.Disk.{MoreFaults}
use Rattle.sqlite_trees.specs.Tree.{Trees}
use Rattle.sched_book.specs.declared.rows.App.{App}
use Rattle.sched_book.specs.declared.settings.Settings.{Settings}
use Rattle.table_meaning.specs.Kept.{calls_in, batches_in}
use Rattle.table_meaning.specs.Reads.{Reads}
use Rattle.table_meaning.specs.Worlds.{HoldWorld}
use Rattle.table_worlds.specs.Readable.{IsReadable}
use Rattle.table_worlds.specs.StoredWorld.{world_in}
use Rattle.stores.specs.Held.{IsLeft}
use Rattle.sched_tables.specs.Entries.{calls_of, batches_of}
use Rattle.sched_tables.specs.Views.{held_in}
use Rattle.sched_tables.specs.Held.{IsHonest, AreWellKept, AreInMemory}
use Rattle.sched_tables.specs.DueFrom.{NothingIsDueBefore}
use Rattle.table_cache.specs.Remembering.{IsCacheOf}
use Rattle.table_cache.specs.declared.cache.Cache.{Cache}

-- ---- tables whose rows stay as they are

module _ (old new : State) (shown : new.now ≡ old.now) (committed : new.committed ≡ old.committed) (kept : AreWellKept old (world_in old.now.trees)) where
  -- the world that they hold stays the same
  pub left_world : world_in new.now.trees ≡ world_in old.now.trees
  left_world = ap (λ (db : Database). world_in db.trees) shown

  -- they stay well kept
  pub left_kept : new.in_transaction ≡ false → AreWellKept new (world_in new.now.trees)
  left_kept idle = record {
    idle = idle;
    rests = shown ∙ kept.rests ∙ sym committed;
    holds = subst (λ (db : Database). HoldWorld db (world_in db.trees) (calls_in db.trees) (batches_in db.trees)) (sym shown) kept.holds;
    readable = subst (λ (db : Database). IsReadable (world_in db.trees)) (sym shown) kept.readable;
  }

  -- and what is in memory still agrees with the world
  pub left_in_memory : (settings settings' : Settings) (apps apps' : List App) (read read' : Cache) (due_from due_from' : ℕ) → settings' ≡ settings → apps' ≡ apps → IsCacheOf (world_in old.now.trees) (calls_in old.now.trees) read'
      → NothingIsDueBefore (world_in old.now.trees) due_from' → AreInMemory (world_in old.now.trees) (calls_in old.now.trees) settings apps read due_from → AreInMemory (world_in new.now.trees) (calls_in new.now.trees) settings' apps' read' due_from'
  left_in_memory settings settings' apps apps' read read' due_from due_from' same also rows marked beside = record {
    settings_are = same ∙ beside.settings_are ∙ sym (ap (λ w. w.settings) left_world);
    apps_are = also ∙ beside.apps_are ∙ sym (ap (λ w. w.apps) left_world);
    rows_are = subst (λ (db : Database). IsCacheOf (world_in db.trees) (calls_in db.trees) read') (sym shown) rows;
    due_from_is = subst (λ w. NothingIsDueBefore w due_from') (sym left_world) marked;
  }

-- ---- a read

module _ (old new : State) (reads : Reads old new) (honest : IsHonest new) (kept : AreWellKept old (world_in old.now.trees)) where
  -- it leaves the rows as they are
  pub stays_shown : new.now ≡ old.now
  stays_shown = (reads.same honest.0 honest.1 kept.rests).0

  stays_committed : new.committed ≡ old.committed
  stays_committed = (reads.same honest.0 honest.1 kept.rests).1

  pub stays_same : world_in new.now.trees ≡ world_in old.now.trees
  stays_same = left_world old new stays_shown stays_committed kept

  pub stays_kept : AreWellKept new (world_in new.now.trees)
  stays_kept = left_kept old new stays_shown stays_committed kept (reads.idle kept.idle)

  pub stays_in_memory : (settings settings' : Settings) (apps apps' : List App) (read read' : Cache) (due_from due_from' : ℕ) → settings' ≡ settings → apps' ≡ apps → IsCacheOf (world_in old.now.trees) (calls_in old.now.trees) read'
      → NothingIsDueBefore (world_in old.now.trees) due_from' → AreInMemory (world_in old.now.trees) (calls_in old.now.trees) settings apps read due_from → AreInMemory (world_in new.now.trees) (calls_in new.now.trees) settings' apps' read' due_from'
  stays_in_memory = left_in_memory old new stays_shown stays_committed kept

-- ---- tables after a read

-- what is honest after a read was honest before it
pub was_honest : (old new : State) → Reads old new → IsHonest new → IsHonest old
was_honest old new reads honest = (omega (arith, reads.survives.clean, honest.0), reads.was_open honest.0 honest.1)

-- and what is clean after it was clean before it
pub was_clean : (old new : State) → Reads old new → HasCleanDisk new → HasCleanDisk old
was_clean old new reads clean = omega (arith, reads.survives.clean, clean)

-- tables hold what they held before
pub reads_hold : (old new : State) → Reads old new → IsHonest new → AreWellKept old (world_in old.now.trees) → IsLeft (held_in old.now.trees) (held_in new.now.trees)
reads_hold old new reads honest kept =
    let shown = stays_shown old new reads honest kept in record {
      world_is = ap (λ (db : Database). world_in db.trees) shown;
      calls_are = λ host. ap (λ (db : Database). calls_of db.trees host) shown;
      batches_are = λ kind batch. ap (λ (db : Database). batches_of db.trees kind batch) shown;
    }

-- well kept tables stay so, if what was read is the world's and nothing is due before `due_from`
pub stays_both : (old new : State) → Reads old new → IsHonest new → (settings settings' : Settings) (apps apps' : List App) (read read' : Cache) (due_from due_from' : ℕ) → settings' ≡ settings → apps' ≡ apps
    → IsCacheOf (world_in old.now.trees) (calls_in old.now.trees) read' → NothingIsDueBefore (world_in old.now.trees) due_from' → AreWellKept old (world_in old.now.trees) × AreInMemory (world_in old.now.trees) (calls_in old.now.trees) settings apps read due_from
    → AreWellKept new (world_in new.now.trees) × AreInMemory (world_in new.now.trees) (calls_in new.now.trees) settings' apps' read' due_from'
stays_both old new reads honest settings settings' apps apps' read read' due_from due_from' same also rows marked kept =
    (stays_kept old new reads honest kept.0, stays_in_memory old new reads honest kept.0 settings settings' apps apps' read read' due_from due_from' same also rows marked kept.1)

-- what was read later is what the tables held before, and a later `due_from` is one for the world before
pub rows_before : (old new : State) → Reads old new → IsHonest new → AreWellKept old (world_in old.now.trees) → (read : Cache) → IsCacheOf (world_in new.now.trees) (calls_in new.now.trees) read
    → IsCacheOf (world_in old.now.trees) (calls_in old.now.trees) read
rows_before old new reads honest kept read rows = subst (λ (db : Database). IsCacheOf (world_in db.trees) (calls_in db.trees) read) (stays_shown old new reads honest kept) rows

pub due_from_before : (old new : State) → Reads old new → IsHonest new → AreWellKept old (world_in old.now.trees) → (due_from : ℕ) → NothingIsDueBefore (world_in new.now.trees) due_from → NothingIsDueBefore (world_in old.now.trees) due_from
due_from_before old new reads honest kept due_from marked = subst (λ w. NothingIsDueBefore w due_from) (stays_same old new reads honest kept) marked

-- if the store under the tables never fails, it is never shut
pub never_shut : (old new : State) (Commits : Trees → Type 0) → old.faults ≡ 0 → new.faults ≡ 0 → HasCleanDisk new → Survives old new Commits → IsHonest old → IsHonest new
never_shut old new Commits none none_later clean survives honest = elim (survives.closes clean honest.1) [
  | inl is_open ↦ (clean, is_open)
  | inr more ↦ absurd (no_more old.faults new.faults none none_later more)
]
  where
    no_more : (before later : ℕ) → before ≡ 0 → later ≡ 0 → MoreFaults before later → ⊥
    no_more before later first second more = grind (arith)
