-- Promise. What an order leaves of the database of its file, and of what a stop may leave of it. (This project's own.)
use Rattle.std.specs.Prelude.{◌≡◌, ◌⊎◌, ◌-◌, ℕ, List, [], ◌++◌, Result, OnOk, IsTrue}
use Rattle.sqlite.specs.Effect.{Database}
use Rattle.sqlite.specs.Held.{AreDatabases}
use Rattle.sqlite.specs.State.{State, HasCleanDisk, Opens}
use Rattle.sqlite_trees.specs.Tree.{Trees}
use Rattle.sqlite_trees.specs.View.{IsClean}
use Rattle.sqlite_trees.specs.declared.store.Store.{Ghosts}
use Rattle.sched_book.specs.Limits.{AreSettingsInLimits}
use Rattle.sched_book.specs.declared.settings.Settings.{Settings}
use Rattle.sched_book.specs.declared.world.World.{World}
use Rattle.stores.specs.Acting.{Parts}
use Rattle.stores.specs.Eras.{this_era, new_upgrade_points}
use Rattle.sched_server.specs.Arrivals.{Came, StandsFor, StandsIn, StoreStandsFor}
use Rattle.sched_server.specs.Laws.{AllStay}
use Rattle.sched_server.specs.Serving.{HasResponse}
use Rattle.stores.specs.Held.{Held}
use Rattle.sched_tables.specs.Commits.{Imports}
use Rattle.sched_tables.specs.Laws.{AreUtf8At, AreCallsUtf8}
use Rattle.sched_tables.specs.Reopening.{CanBeOpened}
use Rattle.sched_tables.specs.Upgrading.{held_with}
use Rattle.sched_tables.specs.Views.{held_in}
use Rattle.table_meaning.specs.Schema.{no_schema, newest, schema_at}
use Rattle.table_meaning.specs.Schemas.{IsSchema}
use Rattle.table_meaning.specs.Upgrades.{HoldWorldAt}
use Rattle.table_meaning.specs.Worlds.{SlotCalls}
use Rattle.table_reading.specs.Reading.{MayBeKeptWith}
use Rattle.table_pasts.specs.Stops.{OpensAndStands, StandSince}
use Rattle.commands.specs.Endings.{LeavesBy}
use Rattle.commands.specs.Messages.{AreOf, ServedSo}
use Rattle.commands.specs.declared.answering.Task.{Task}
use Rattle.commands.specs.declared.database.Action.{Action}
use Rattle.commands.specs.declared.database.Action.TheVariants as action
use Rattle.commands.specs.declared.ending.Failure.{Failure}
use Rattle.commands.specs.declared.ending.Ending.{Ending}
use Rattle.commands.specs.declared.ending.Left.{Left}
use Rattle.commands.specs.declared.files.Files as files

-- A store that a connection gave back. If the disk returned what was written, whatever a stop may leave is a database.
pub record IsGivenBack {S : Type 0} (g : Ghosts S) (s : S) : Type 0 where
  pub numbered : IsClean (g.view s) → IsTrue (g.view s).is_numbered
  pub databases : IsClean (g.view s) → AreDatabases (g.recovers s)

-- a database with these trees, for which P is true
abbrev pub HasDatabase : (Database → Type 0) → Trees → Type 0
HasDatabase P trees = (db : Database) × (db.trees ≡ trees) × P db

-- P holds of each database that a stop may leave of a store, if the disk returned what was written
abbrev pub HoldsOverAStop : {S : Type 0} → Ghosts S → (Database → Type 0) → S → Type 0
HoldsOverAStop g P s = IsClean (g.view s) → (trees : Trees) → g.recovers s trees → HasDatabase P trees

-- ---- tables that could not be opened

-- The tables of a connection could not be opened, and this store is left. No wrong answer of the disk is forgotten. If the connection was
-- open, what a stop leaves of the store is what was committed there.
pub record KeepsDatabase {S : Type 0} (g : Ghosts S) (old : State) (s : S) : Type 0 where
  pub was_clean : IsClean (g.view s) → HasCleanDisk old
  pub same : IsTrue old.is_open → IsClean (g.view s) → (trees : Trees) → g.recovers s trees → trees ≡ old.committed.trees

-- ---- new tables

-- a database of new tables with these settings, which agrees with no messages
abbrev pub AgreesWithNone : Settings → Database → Type 0
AgreesWithNone settings = OpensAndStands settings.operator_key (new_upgrade_points this_era) []

-- The store has new tables with these settings, which were made in an empty database. What a stop leaves agrees with no messages.
pub record MakesTables {S : Type 0} (g : Ghosts S) (settings : Settings) (old : State) (s : S) : Type 0 where
  pub back : IsGivenBack g s
  pub was_clean : IsClean (g.view s) → HasCleanDisk old
  pub was_empty : old.now.schema ≡ no_schema
  pub stands : AreSettingsInLimits settings → HoldsOverAStop g (AgreesWithNone settings) s

-- Tables with these settings could not be made, and this store is left. What a stop leaves of it is what was committed. If the database was
-- empty, it may be new tables.
pub record KeepsOrMakes {S : Type 0} (g : Ghosts S) (settings : Settings) (old : State) (s : S) : Type 0 where
  pub was_clean : IsClean (g.view s) → HasCleanDisk old
  pub left : AreSettingsInLimits settings → IsTrue old.is_open → IsClean (g.view s) → (trees : Trees) → g.recovers s trees
      → (trees ≡ old.committed.trees) ⊎ ((old.now.schema ≡ no_schema) × HasDatabase (AgreesWithNone settings) trees)

-- ---- tables that handle messages

-- A store was handed these messages, the newest first, by a service with this key of the operator. If it agreed with some arrivals, it agrees
-- with these in front of them. If one of these got a response, the key is that of the settings. Everything that lasts over messages stays.
pub record ServesStore {S : Type 0} (store : Parts S) (key : List ℕ) (came : List Came) (old new : S) : Type 0 where
  pub was_clean : store.clean new → store.clean old
  pub keyed : (operator upgrade_points : List ℕ) (before : List Came) → StoreStandsFor store operator upgrade_points before old → store.clean new
      → HasResponse came → key ≡ operator
  pub stands : (key upgrade_points : List ℕ) (before : List Came) → StoreStandsFor store key upgrade_points before old → store.clean new
      → StoreStandsFor store key upgrade_points (came ++ before) new
  pub stays : (operator upgrade_points : List ℕ) (before : List Came) → StoreStandsFor store operator upgrade_points before old → store.honest old
      → (h : Held) → store.may_leave new h → AllStay (store.holds old).world h.world
  pub reopens : (store.honest old → store.well_kept old) → store.reopens old → store.reopens new

-- A database that is left agrees with the arrivals and can be opened. Everything that lasts over messages stays since this world.
pub record StandsLater (w : World) (key upgrade_points : List ℕ) (came : List Came) (db : Database) : Type 0 where
  pub stands : OpensAndStands key upgrade_points came db
  pub stays : AllStay w (held_in db.trees).world

-- So it is with tables: suppose that what was committed agreed with some arrivals. Then what a stop leaves agrees with these messages in
-- front of them, or with these and one message in doubt, and can be opened.
pub record ServesTables {S : Type 0} (g : Ghosts S) (key : List ℕ) (came : List Came) (old : State) (s : S) : Type 0 where
  pub back : IsGivenBack g s
  pub was_clean : IsClean (g.view s) → HasCleanDisk old
  pub keyed : (operator upgrade_points : List ℕ) (before : List Came) → StandsFor operator (held_in old.committed.trees) upgrade_points before
      → IsClean (g.view s) → HasResponse came → key ≡ operator
  pub newest_was : IsClean (g.view s) → old.committed.schema ≡ schema_at newest
  pub stands : (key upgrade_points : List ℕ) (before : List Came) → StandsFor key (held_in old.committed.trees) upgrade_points before
      → HoldsOverAStop g (StandsLater (held_in old.committed.trees).world key upgrade_points (came ++ before)) s

-- ---- upgraded tables

-- They agree since schema n, as an upgrade that ended so leaves them. If it ended well, they are of the newest schema.
abbrev pub StandAsEnded : Result Ending Failure → ℕ → World → SlotCalls → Imports → List ℕ → List ℕ → List Came → Database → Type 0
StandAsEnded ended n w calls batches key upgrade_points before db =
    (since : StandSince n w calls batches key upgrade_points before db) × OnOk ended (since.0 ≡ newest)

-- The tables of schema n held a sound world with what may be kept with it, and their texts are in UTF-8 (RFC 3629).
pub record CouldBeOpenedAt (n : ℕ) (w : World) (calls : SlotCalls) (batches : Imports) (trees : Trees) : Type 0 where
  pub kept : MayBeKeptWith w calls batches
  pub texts : AreUtf8At n trees
  pub call_texts : n ≡ 1 → AreCallsUtf8 trees

-- Suppose that the connection was opened anew, and that tables of some schema agreed with some arrivals, in the era of that schema. Then what
-- a stop leaves of their upgrade agrees with the same arrivals. If the upgrade ended well, what a stop leaves can be opened. Tables of the
-- newest schema stay as they were.
pub record UpgradesTables {S : Type 0} (g : Ghosts S) (ended : Result Ending Failure) (old : State) (s : S) : Type 0 where
  pub back : IsGivenBack g s
  pub was_clean : IsClean (g.view s) → HasCleanDisk old
  pub stands : Opens old → (n : ℕ) → IsSchema n → (w : World) (calls : SlotCalls) (batches : Imports) (key upgrade_points : List ℕ) (before : List Came)
      → HoldWorldAt n old.committed w calls batches → StandsIn (n - 1) key (held_with w calls batches) upgrade_points before
      → HoldsOverAStop g (StandAsEnded ended n w calls batches key upgrade_points before) s
  pub opens : Opens old → (n : ℕ) → IsSchema n → (w : World) (calls : SlotCalls) (batches : Imports) (key upgrade_points : List ℕ) (before : List Came)
      → HoldWorldAt n old.committed w calls batches → StandsIn (n - 1) key (held_with w calls batches) upgrade_points before
      → CouldBeOpenedAt n w calls batches old.committed.trees → OnOk ended (HoldsOverAStop g CanBeOpened s)
  pub stays : Opens old → old.committed.schema ≡ schema_at newest → HoldsOverAStop g (λ db. db ≡ old.committed) s

-- ---- what an action leaves

-- these messages of a task were handled over tables
abbrev pub ServesTask : {F S : Type 0} → files.Ghosts F → ServedSo → Ghosts S → Task → Result Ending Failure → State → S → Type 0
ServesTask f served g task ended old s = (key : List ℕ) × (came : List Came) × AreOf f served key task ended came × ServesTables g key came old s

abbrev pub LeavesDatabase : {F S : Type 0} → files.Ghosts F → ServedSo → Ghosts S → Action → Result Ending Failure → State → Left S S → Type 0
LeavesDatabase f served g (action.Create settings) ended old = LeavesBy (KeepsOrMakes g settings.now old) (MakesTables g settings.now old) ended
LeavesDatabase f served g action.Upgrade ended old = LeavesBy (λ s. ⊥) (UpgradesTables g ended old) ended
LeavesDatabase f served g (action.Handle task) ended old = LeavesBy (KeepsDatabase g old) (ServesTask f served g task ended old) ended
