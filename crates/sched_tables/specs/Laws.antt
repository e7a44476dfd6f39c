-- Rule. What tables hold after a stop or an upgrade, and when they can be opened.
use Rattle.std.specs.Prelude.{◌≡◌, ℕ, true, IfSome}
use Rattle.sqlite_trees.specs.Tree.{Trees}
use Rattle.sqlite_trees.specs.declared.store.Store.{Ghosts}
use Rattle.sched_book.specs.Sound.{Sound}
use Rattle.sqlite.specs.Effect.{Database}
use Rattle.sched_book.specs.declared.world.World.{World}
use Rattle.stores.specs.Held.{Held, IsLeft}
use Rattle.table_meaning.specs.Rows.{RowKey, table_at, look_up}
use Rattle.table_meaning.specs.Schemas.{IsSchema, has_table}
use Rattle.table_meaning.specs.Fills.{former_call}
use Rattle.table_meaning.specs.Upgrades.{FitsSchema, HoldWorldAt, UpgradesWorld}
use Rattle.table_meaning.specs.Worlds.{SlotCalls, HoldWorld}
use Rattle.table_reading.specs.Reading.{AreUtf8, MayBeKeptWith}
use Rattle.table_rows.specs.Utf8.{HasUtf8}
use Rattle.sched_tables.specs.Commits.{Imports}
use Rattle.sched_tables.specs.Reopening.{AreTaken, CanBeOpened}
use Rattle.sched_tables.specs.Upgrading.{held_with}
use Rattle.sched_tables.specs.Stops.{MayBeFound}
use Rattle.sched_tables.specs.Views.{state_of, world_of, held_of, AreKept}
use Rattle.sched_tables.specs.declared.tables.Tables.{Tables}

-- Tables that are opened over the rows that a stop left hold what it left.
abbrev pub ReopenedHolds : {S R : Type 0} → Ghosts S → Ghosts R → Type 0
ReopenedHolds {S} {R} before after =
    (old : Tables S) (t : Tables R) → AreKept after t → Sound (world_of after t) → (h : Held) → (found : MayBeFound (state_of before old) h)
    → found.trees ≡ (state_of after t).now.trees → IsLeft (held_of after t) h

-- Tables can be opened again if they hold a sound world, with what may be kept with it, and their texts are in UTF-8.
abbrev pub HeldCanBeOpened : Type 0
HeldCanBeOpened = (db : Database) (w : World) (calls : SlotCalls) (batches : Imports) → Sound w → MayBeKeptWith w calls batches → HoldWorld db w calls batches → AreUtf8 db.trees → CanBeOpened db

-- An opening takes tables that can be opened again.
abbrev pub OpenedAreTaken : Type 0
OpenedAreTaken = (db : Database) → CanBeOpened db → AreTaken db

-- What tables of any schema held of a sound world is now held: the world, the calls in the slots, and the imports.
abbrev pub UpgradedHold : Database → Held → Type 0
UpgradedHold old held =
    (n : ℕ) → IsSchema n → (w : World) (calls : SlotCalls) (batches : Imports) → Sound w → FitsSchema n w → HoldWorldAt n old w calls batches → IsLeft (held_with w calls batches) held

-- Tables that were upgraded hold what they held before.
abbrev pub UpgradedHolds : {S : Type 0} → Ghosts S → Type 0
UpgradedHolds {S} store = (old : Database) (t : Tables S) → UpgradesWorld old (state_of store t).now → UpgradedHold old (held_of store t)

-- Each text of the tables of a schema is in UTF-8 (RFC 3629).
abbrev pub AreUtf8At : ℕ → Trees → Type 0
AreUtf8At n trees = (key : RowKey) → has_table n (table_at key) ≡ true → IfSome (look_up trees key) HasUtf8

-- So is each text of the calls that the first schema keeps.
abbrev pub AreCallsUtf8 : Trees → Type 0
AreCallsUtf8 trees = (host : ℕ) → IfSome (former_call trees host) HasUtf8

-- Suppose tables of any schema hold a sound world, with what may be kept with it, and their texts are in UTF-8. Once they are upgraded,
-- they can be opened.
abbrev pub UpgradedOpen : Database → Database → Type 0
UpgradedOpen old new =
    (n : ℕ) → IsSchema n → (w : World) (calls : SlotCalls) (batches : Imports) → Sound w → FitsSchema n w → MayBeKeptWith w calls batches → HoldWorldAt n old w calls batches
    → AreUtf8At n old.trees → (n ≡ 1 → AreCallsUtf8 old.trees) → CanBeOpened new

abbrev pub UpgradedCanBeOpened : Type 0
UpgradedCanBeOpened = (old new : Database) → UpgradesWorld old new → UpgradedOpen old new
