-- Promise. What a stop leaves of tables can be opened, and what is opened agrees with the messages that came. (This project's own.)
use Rattle.std.specs.Prelude.{◌≡◌, ◌⊎◌, ◌≤◌, ◌-◌, ℕ, List, []}
use Rattle.sqlite.specs.Effect.{Database, IsDatabase}
use Rattle.sqlite.specs.State.{State, HasCleanDisk}
use Rattle.sqlite_trees.specs.declared.store.Store.{Ghosts}
use Rattle.sched_book.specs.Limits.{AreSettingsInLimits}
use Rattle.sched_book.specs.declared.settings.Settings.{Settings}
use Rattle.sched_book.specs.declared.world.World.{World}
use Rattle.stores.specs.Acting.{Parts}
use Rattle.stores.specs.Eras.{this_era, new_upgrade_points}
use Rattle.table_meaning.specs.Schemas.{IsSchema}
use Rattle.table_meaning.specs.Upgrades.{HoldWorldAt, IsLeftBehindWorld}
use Rattle.table_meaning.specs.Worlds.{SlotCalls}
use Rattle.sched_tables.specs.Commits.{Imports}
use Rattle.sched_tables.specs.Held.{IsHonest}
use Rattle.sched_tables.specs.Making.{AreNewTables}
use Rattle.sched_tables.specs.Reopening.{CanBeOpened, Reopens}
use Rattle.sched_tables.specs.Upgrading.{held_with}
use Rattle.sched_tables.specs.Views.{state_of, held_in, AreKept}
use Rattle.sched_tables.specs.declared.tables.Tables.{Tables}
use Rattle.sched_server.specs.Arrivals.{Came, StandsFor, StandsIn, StandsAtAStop, StoreStandsFor}
use Rattle.table_pasts.specs.Laws.{with_upgrade_points}

-- Nothing in the database prevents an opening. What its rows hold agrees with the arrivals, or with them and one message in doubt.
pub record OpensAndStands (key upgrade_points : List ℕ) (before : List Came) (db : Database) : Type 0 where
  pub opens : CanBeOpened db
  pub stands : StandsAtAStop key (held_in db.trees) upgrade_points before

-- So it is with each database that a stop may leave now, if the disk returned what was written.
abbrev pub StandsOverAStop : List ℕ → List ℕ → List Came → State → Type 0
StandsOverAStop key upgrade_points before s =
    HasCleanDisk s → (db : Database) → IsDatabase db → s.may_leave db.trees → OpensAndStands key upgrade_points before db

-- Suppose that tables agree with the arrivals, and can be opened again. Then it is so with what a stop leaves of them.
abbrev pub StoppedTablesStand : {S : Type 0} → Ghosts S → Parts (Tables S) → Type 0
StoppedTablesStand {S} store parts =
    (t : Tables S) (key upgrade_points : List ℕ) (before : List Came) → Reopens (state_of store t) → StoreStandsFor parts key upgrade_points before t
    → StandsOverAStop key upgrade_points before (state_of store t)

-- Tables were opened from a database, as the clauses of `Tables::adopt` say.
pub record AreOpenedFrom {S : Type 0} (store : Ghosts S) (db : Database) (t : Tables S) : Type 0 where
  pub honest : HasCleanDisk (state_of store t) → IsHonest (state_of store t)
  pub kept : HasCleanDisk (state_of store t) → AreKept store t
  pub same : HasCleanDisk (state_of store t) → (state_of store t).now ≡ db

-- Then they agree with what the rows of the database agree with.
abbrev pub OpenedTablesStand : {S : Type 0} → Ghosts S → Parts (Tables S) → Type 0
OpenedTablesStand {S} store parts =
    (db : Database) (t : Tables S) → AreOpenedFrom store db t → (key upgrade_points : List ℕ) (before : List Came)
    → StandsFor key (held_in db.trees) upgrade_points before → StoreStandsFor parts key upgrade_points before t

-- Tables of this schema, or of a later one, hold this world, with these calls and imports. They agree with the arrivals in the era of their
-- schema. (The number of an era is that of its schema minus one.) There is one more upgrade point for each upgrade since this schema.
abbrev pub StandSince : ℕ → World → SlotCalls → Imports → List ℕ → List ℕ → List Came → Database → Type 0
StandSince n w calls batches key upgrade_points before db =
    (m : ℕ) × IsSchema m × (n ≤ m) × HoldWorldAt m db w calls batches
    × StandsIn (m - 1) key (held_with w calls batches) (with_upgrade_points (m - n) upgrade_points before) before

-- Suppose that tables of a schema held a world, and agreed with arrivals in the era of that schema. Then it is so with the tables as they were,
-- and with the tables of a later schema that a stop may leave of their upgrade.
abbrev pub StoppedUpgradesStand : Type 0
StoppedUpgradesStand =
    (old db : Database) → (db ≡ old) ⊎ IsLeftBehindWorld old db
    → (n : ℕ) → IsSchema n → (w : World) (calls : SlotCalls) (batches : Imports) (key upgrade_points : List ℕ) (before : List Came)
    → HoldWorldAt n old w calls batches → StandsIn (n - 1) key (held_with w calls batches) upgrade_points before
    → StandSince n w calls batches key upgrade_points before db

-- A database of new tables can be opened, and agrees with no arrivals.
abbrev pub NewDatabasesStand : Type 0
NewDatabasesStand =
    (settings : Settings) (db : Database) → AreSettingsInLimits settings → AreNewTables settings db → OpensAndStands settings.operator_key (new_upgrade_points this_era) [] db
