-- New tables hold the empty world, and keep nothing.
use Rattle.std.proofs.Common.{◌≡◌, List, [], None, false, option_map, refl, subst, sym, ap, ◌∙◌, inl, inr, arith}
use Rattle.stores.specs.Held.{IsNew}
use Rattle.stores.specs.Kinds.{kind_name}
use Rattle.sched_tables.specs.Entries.{kept_batch}
use Rattle.sched_tables.specs.Slots.{calls_in_slots}
use Rattle.sched_tables.specs.Views.{held_in}
use Rattle.std.proofs.lemmas.List.Elements.{All-nil}
use Rattle.sqlite.specs.Effect.{Database}
use Rattle.sqlite.specs.Held.{Held, state}
use Rattle.sqlite.specs.State.{State, Survives}
use Rattle.sqlite_trees.specs.View.{IsQuiet}
use Rattle.sqlite_trees.specs.declared.store.Store.{Ghosts}
use Rattle.table_meaning.specs.Schema.{no_schema}
use Rattle.sched_tables.specs.Making.{AreNewTables, IsRestOfMaking}
use Rattle.sched_book.specs.Sound.{Sound}
use Rattle.sched_book.specs.Step.{empty_world}
use Rattle.sched_book.specs.declared.rows.App.{App}
use Rattle.sched_book.specs.declared.settings.Settings.{Settings}
use Rattle.table_worlds.specs.Readable.{IsReadable}
use Rattle.table_worlds.specs.StoredWorld.{world_in}
use Rattle.table_worlds.proofs.WorldReadBack.{held_is_read_back}
use Rattle.table_meaning.specs.Steps.{HoldJust}
use Rattle.table_meaning.specs.Worlds.{SlotCalls, HoldWorld}
use Rattle.table_worlds.specs.RowsOf.{setting_rows}
use Rattle.table_worlds.proofs.NewWorld.{new_world}
use Rattle.sched_book.specs.declared.world.World.{World}
use Rattle.sched_tables.specs.Held.{AreWellKept, AreInMemory}
use Rattle.table_cache.specs.Remembering.{IsCacheOf}
use Rattle.sched_tables.specs.Reopening.{CanBeOpened}
use Rattle.table_cache.specs.declared.cache.Cache.{Cache}
use Rattle.table_meaning.specs.Kept.{calls_in, batches_in}
use Rattle.table_meaning.proofs.UpgradedWorlds.{hold_same}
use Rattle.sched_tables.proofs.EntriesKept.{calls_back, batches_back, held_with_kept}
use Rattle.sched_tables.proofs.DueFromStays.{none_before}
use Rattle.sched_tables.proofs.Reopened.{held_can_be_opened}
use Rattle.sched_tables.proofs.TextsKept.{just_utf8}
use Rattle.table_reading.specs.Reading.{AreUtf8}
use Rattle.table_rows.specs.Utf8.{HaveUtf8}

nothing_held : (s : Settings) (db : Database) → HoldJust db (setting_rows s) → HoldWorld db (empty_world s) (λ _ _. None) (λ _ _. None)
nothing_held s db just = hold_same db _ _ (new_world s) just

-- the rows of the empty world determine it
empty_readable : (s : Settings) → IsReadable (empty_world s)
empty_readable s = record { versions = All-nil _; units = All-nil _; hosts = All-nil _ }

module _ (s : Settings) (st : State) (rests : st.now ≡ st.committed) (just : HoldJust st.committed (setting_rows s)) where
  held : HoldWorld st.now (empty_world s) (λ _ _. None) (λ _ _. None)
  held = nothing_held s st.now (subst (λ db. HoldJust db (setting_rows s)) (sym rests) just)

  -- the rows represent that world
  pub new_world_is : world_in st.now.trees ≡ empty_world s
  new_world_is = held_is_read_back st.now (empty_world s) (λ _ _. None) (λ _ _. None) held (empty_readable s)

  pub new_kept : st.in_transaction ≡ false → AreWellKept st (world_in st.now.trees)
  new_kept idle = record {
    idle = idle;
    rests = rests;
    holds = subst (λ v. HoldWorld st.now v (calls_in st.now.trees) (batches_in st.now.trees)) (sym new_world_is) (held_with_kept st.now (empty_world s) (λ _ _. None) (λ _ _. None) held);
    readable = subst IsReadable (sym new_world_is) (empty_readable s);
  }

  -- if that world is sound, and the texts of its settings are in UTF-8, the tables can be opened again
  pub new_can_be_opened : Sound (empty_world s) → HaveUtf8 (setting_rows s) → CanBeOpened st.now
  new_can_be_opened sound utf8 =
      held_can_be_opened st.now (empty_world s) (λ _ _. None) (λ _ _. None) sound (record { calls_fit = λ host slot. tt; imports_fit = λ kind text. tt }) held
      (subst (λ (db : Database). AreUtf8 db.trees) (sym rests) (just_utf8 st.committed (setting_rows s) just utf8))

  pub new_beside : (settings : Settings) (apps : List App) (read : Cache) → settings ≡ s → apps ≡ [] → ((w : World) (calls : SlotCalls) → IsCacheOf w calls read) → AreInMemory (world_in st.now.trees) (calls_in st.now.trees) settings apps read 0
  new_beside settings apps read same none nothing = record { settings_are = same ∙ sym (ap (λ w. w.settings) new_world_is); apps_are = none ∙ sym (ap (λ w. w.apps) new_world_is); rows_are = nothing _ _; due_from_is = none_before (world_in st.now.trees) }

  pub new_held : IsNew s (held_in st.now.trees)
  new_held = record {
    world_is = new_world_is;
    calls_are = λ host. ap calls_in_slots (λ i slot. calls_back st.now (empty_world s) (λ _ _. None) (λ _ _. None) held host slot i);
    batches_are = λ kind batch. ap (option_map kept_batch) (batches_back st.now (empty_world s) (λ _ _. None) (λ _ _. None) held (kind_name kind) batch);
  }

-- ---- tables that could not be made

-- a database with just the rows of the settings is new tables
new_tables : (s : Settings) (some : State) (db : Database) → HoldJust db (setting_rows s) → Sound (empty_world s) → HaveUtf8 (setting_rows s) → AreNewTables s db
new_tables s some db just sound utf8 =
    let st : State = record some { now = db; committed = db } in record { new = new_held s st refl just; opens = new_can_be_opened s st refl just sound utf8 }

module _ {S : Type 0} (g : Ghosts S) (s : Settings) (old new : Held S) (rest : S) (quiet : IsQuiet g.view g.faults g.recovers g.is_shielded new.store rest) where
  -- the rest of a connection in which tables were made, or not
  pub rest_of_making : Survives (state g old) (state g new)
      (λ trees. ((state g old).now.schema ≡ no_schema) × HaveUtf8 (setting_rows s) × (db : Database) × HoldJust db (setting_rows s) × (trees ≡ db.trees))
      → IsRestOfMaking g s (state g old) rest
  rest_of_making survives = record {
    clean = λ clean. omega (arith, survives.clean, quiet.clean, clean);
    left = λ sound clean trees may. elim (survives.crash (omega (arith, quiet.clean, clean)) trees (quiet.outcomes trees may)) [
      | inl before ↦ inl before
      | inr made ↦ inr (made.0, made.2, sym made.4, new_tables s (state g old) made.2 made.3 sound made.1)
    ];
  }

-- a connection in which nothing was done
pub rest_of_none : {S : Type 0} (g : Ghosts S) (s : Settings) (conn : Held S) (rest : S) → IsQuiet g.view g.faults g.recovers g.is_shielded conn.store rest → IsRestOfMaking g s (state g conn) rest
rest_of_none g s conn rest quiet = record { clean = λ clean. omega (arith, quiet.clean, clean); left = λ sound clean trees may. inl (quiet.outcomes trees may) }
