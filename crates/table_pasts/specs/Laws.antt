-- Rule. Tables of an earlier schema, upgraded and opened, agree with what they agreed with. (This project's own.)
use Rattle.std.specs.Prelude.{ℕ, ◌-◌, List, ◌++◌, length, replicate}
use Rattle.sqlite.specs.Effect.{Database}
use Rattle.sqlite_trees.specs.declared.store.Store.{Ghosts}
use Rattle.sched_book.specs.declared.world.World.{World}
use Rattle.stores.specs.Acting.{Parts}
use Rattle.table_meaning.specs.Schema.{newest}
use Rattle.table_meaning.specs.Schemas.{IsSchema}
use Rattle.table_meaning.specs.Upgrades.{HoldWorldAt, UpgradesWorld}
use Rattle.table_meaning.specs.Worlds.{SlotCalls}
use Rattle.sched_tables.specs.Commits.{Imports}
use Rattle.sched_tables.specs.Upgrading.{held_with}
use Rattle.sched_tables.specs.Views.{state_of}
use Rattle.sched_tables.specs.declared.tables.Tables.{Tables}
use Rattle.sched_server.specs.Arrivals.{Came, answered, StandsIn, StoreStandsFor}

-- Adds to the upgrade points one for each of some upgrades after these messages: how many of the messages were answered.
abbrev pub with_upgrade_points : ℕ → List ℕ → List Came → List ℕ
with_upgrade_points upgrades upgrade_points before = upgrade_points ++ replicate upgrades (length (answered before))

-- Suppose what tables of a schema held agreed with what came, in that schema's era. (The number of an era is that of its schema minus one.)
-- Then these tables agree with it too. For each upgrade they have one more upgrade point.
abbrev pub StandUpgraded : {S : Type 0} → Parts (Tables S) → Database → Tables S → Type 0
StandUpgraded parts old t =
    (n : ℕ) → IsSchema n → (w : World) (calls : SlotCalls) (batches : Imports) (key upgrade_points : List ℕ) (before : List Came)
    → HoldWorldAt n old w calls batches → StandsIn (n - 1) key (held_with w calls batches) upgrade_points before
    → StoreStandsFor parts key (with_upgrade_points (newest - n) upgrade_points before) before t

-- Open and well kept tables do, if they show what an upgrade made.
abbrev pub UpgradedTablesStand : {S : Type 0} → Ghosts S → Parts (Tables S) → Type 0
UpgradedTablesStand {S} store parts =
    (old : Database) (t : Tables S) → parts.honest t → parts.well_kept t → UpgradesWorld old (state_of store t).now → StandUpgraded parts old t
