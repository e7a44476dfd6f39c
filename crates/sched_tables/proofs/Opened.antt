-- Tables that were read as those of a world are well kept.
use Rattle.std.proofs.Common.{◌≡◌, ℕ, List, sym, ap, subst, ◌∙◌, arith}
use Rattle.sqlite.specs.Effect.{Database}
use Rattle.sqlite.specs.State.{State, HasCleanDisk, Opens}
use Rattle.sched_book.specs.Sound.{Sound}
use Rattle.sched_book.specs.declared.rows.App.{App}
use Rattle.sched_book.specs.declared.settings.Settings.{Settings}
use Rattle.sched_book.specs.declared.world.World.{World}
use Rattle.table_meaning.specs.Holding.{AreKnown}
use Rattle.table_meaning.specs.Kept.{calls_in, batches_in}
use Rattle.table_meaning.specs.Reads.{Reads}
use Rattle.table_meaning.specs.Worlds.{SlotCalls, HoldWorld}
use Rattle.table_reading.specs.Reading.{WereKnown, ReadFrom}
use Rattle.table_worlds.specs.StoredWorld.{world_in}
use Rattle.table_worlds.proofs.StaysReadable.{sound_is_readable}
use Rattle.sched_tables.specs.Held.{IsHonest, AreWellKept, AreInMemory}
use Rattle.sched_tables.specs.DueFrom.{NothingIsDueBefore}
use Rattle.table_cache.specs.Remembering.{IsCacheOf}
use Rattle.table_cache.specs.declared.cache.Cache.{Cache}

-- a connection as it was taken, and as a reading left it
module _ (taken read : State) (opens : HasCleanDisk taken → Opens taken) (known : HasCleanDisk taken → AreKnown taken.now) (reads : Reads taken read) (honest : IsHonest read) where
  abbrev pub early : HasCleanDisk taken
  early = omega (arith, reads.survives.clean, honest.0)

  pub was_known : WereKnown taken read
  was_known = record { clean = honest.0; is_open = honest.1; rests = (opens early).clean; known = known early }

  pub shows_the_same : read.now ≡ taken.now
  shows_the_same = (reads.same honest.0 honest.1 (opens early).clean).0

  module _ (from : ReadFrom taken.now.trees (world_in taken.now.trees)) (holds : HoldWorld taken.now (world_in taken.now.trees) (calls_in taken.now.trees) (batches_in taken.now.trees)) where
    sound : Sound (world_in taken.now.trees)
    sound = from.2.sound

    -- the rows represent the world that was read
    pub opened_world : world_in read.now.trees ≡ world_in taken.now.trees
    opened_world = ap (λ (db : Database). world_in db.trees) shows_the_same

    pub opened_sound : Sound (world_in read.now.trees)
    opened_sound = subst Sound (sym opened_world) sound

    pub opened_kept : AreWellKept read (world_in read.now.trees)
    opened_kept = record {
      idle = reads.idle (opens early).autocommit;
      rests = shows_the_same ∙ (opens early).clean ∙ sym (reads.same honest.0 honest.1 (opens early).clean).1;
      holds = subst (λ (db : Database). HoldWorld db (world_in db.trees) (calls_in db.trees) (batches_in db.trees)) (sym shows_the_same) holds;
      readable = sound_is_readable (world_in read.now.trees) opened_sound;
    }

    pub opened_beside : (settings : Settings) (apps : List App) (rows : Cache) (due_from : ℕ) → settings ≡ (world_in taken.now.trees).settings → apps ≡ (world_in taken.now.trees).apps → ((v : World) (calls : SlotCalls) → IsCacheOf v calls rows)
        → NothingIsDueBefore (world_in taken.now.trees) due_from → AreInMemory (world_in read.now.trees) (calls_in read.now.trees) settings apps rows due_from
    opened_beside settings apps rows due_from of_world also nothing none = record {
      settings_are = of_world ∙ sym (ap (λ (v : World). v.settings) opened_world);
      apps_are = also ∙ sym (ap (λ (v : World). v.apps) opened_world);
      rows_are = nothing _ _;
      due_from_is = subst (λ (v : World). NothingIsDueBefore v due_from) (sym opened_world) none;
    }

    pub opened_rows : ReadFrom read.now.trees (world_in read.now.trees)
    opened_rows = subst (λ (db : Database). ReadFrom db.trees (world_in db.trees)) (sym shows_the_same) from
