-- Promise. From a file to a file: what an order leaves of the files of its database agrees with the messages that came. (This project's own.)
use Rattle.std.specs.Prelude.{◌≡◌, ℕ, ◌-◌, List, ◌++◌, Option, Some, None, Result, OnOk}
use Rattle.office_files.specs.SettingsTexts.{HasSettings}
use Rattle.sqlite.specs.Effect.{Database, IsDatabase}
use Rattle.sqlite.specs.Files.{HoldsDatabase}
use Rattle.sqlite.specs.declared.file.Leftover.{Leftover}
use Rattle.sqlite.specs.declared.file.Leftover.TheVariants as rest
use Rattle.sqlite_disk.specs.declared.Disk as disk
use Rattle.sqlite_store.specs.FileStore.{state, view}
use Rattle.sqlite_store.specs.declared.store.FileStore.{FileStore}
use Rattle.sqlite_trees.specs.View.{IsClean}
use Rattle.sqlite_wal.specs.Recovery.{Image}
use Rattle.command_line.specs.declared.order.Order.{Order}
use Rattle.command_line.specs.declared.order.Order.TheVariants as order
use Rattle.sched_book.specs.Limits.{AreSettingsInLimits}
use Rattle.sched_book.specs.declared.settings.Settings.{Settings}
use Rattle.sched_book.specs.declared.world.World.{World}
use Rattle.sched_server.specs.Arrivals.{Came, StandsFor, StandsIn}
use Rattle.sched_server.specs.Serving.{HasResponse}
use Rattle.sched_tables.specs.Commits.{Imports}
use Rattle.sched_tables.specs.Reopening.{CanBeOpened}
use Rattle.sched_tables.specs.Upgrading.{held_with}
use Rattle.sched_tables.specs.Views.{held_in}
use Rattle.table_meaning.specs.Schema.{no_schema, newest, schema_at}
use Rattle.table_meaning.specs.Schemas.{IsSchema}
use Rattle.table_meaning.specs.Upgrades.{HoldWorldAt}
use Rattle.table_meaning.specs.Worlds.{SlotCalls}
use Rattle.commands.specs.Databases.{AgreesWithNone, CouldBeOpenedAt, HasDatabase, StandAsEnded, StandsLater}
use Rattle.commands.specs.Endings.{LeavesBy}
use Rattle.commands.specs.Leftovers.{LeavesAsHeld}
use Rattle.commands.specs.Messages.{AreOf, MayCome, ServedSo}
use Rattle.commands.specs.declared.database.Action.{Action}
use Rattle.commands.specs.declared.database.Action.TheVariants as action
use Rattle.commands.specs.declared.ending.Failure.{Failure}
use Rattle.commands.specs.declared.ending.Ending.{Ending}
use Rattle.commands.specs.declared.ending.Left.{Left}
use Rattle.commands.specs.declared.ending.Left.TheVariants as left
use Rattle.commands.specs.declared.files.Files as files

-- The two files of a database, its log and its database file, hold a database for which P is true. An opening finds it.
abbrev pub FilesHold : (Database → Type 0) → Image → Type 0
FilesHold P image = ∥ ((db : Database) × HoldsDatabase image db.trees × P db) ∥₁

-- the rows of a database hold this world, and agree with the arrivals, with these upgrade points and this key of the operator
abbrev pub RowsStand : World → List ℕ → List ℕ → List Came → Database → Type 0
RowsStand w key upgrade_points before db = StandsFor key (held_in db.trees) upgrade_points before × ((held_in db.trees).world ≡ w)

-- if the files held a database, it was empty
abbrev pub HeldNone : Image → Type 0
HeldNone before = (db : Database) → IsDatabase db → HoldsDatabase before db.trees → db.schema ≡ no_schema

-- a file says these settings (docs/PROFILE.md, "Settings")
abbrev pub SaysSettings : {F : Type 0} → files.Ghosts F → List ℕ → Settings → Type 0
SaysSettings f path s = AreSettingsInLimits s × (text : List ℕ) × f.says path text × HasSettings text s

module _ {D : Type 0} {g : disk.Ghosts D} where
  -- Suppose that the disk returned what was written. Then whatever a stop may leave of the files holds a database for which P is true.
  abbrev pub LeavesInFiles : (Database → Type 0) → FileStore D g → Type 0
  LeavesInFiles P it = IsClean (view it) → (image : Image) → (state it).may_leave image → FilesHold P image

  -- ---- new tables

  -- The files hold new tables with these settings. If they held a database before, it was empty. What a stop leaves of them agrees with no
  -- messages.
  pub record MakesFiles (s : Settings) (before : Image) (it : FileStore D g) : Type 0 where
    pub was_empty : IsClean (view it) → HeldNone before
    pub stands : LeavesInFiles (AgreesWithNone s) it

  -- Tables with these settings could not be made. What a stop leaves is what the files held, or new tables if that was an empty database.
  abbrev pub MakesNone : Settings → Image → Leftover D g → Type 0
  MakesNone s before = LeavesAsHeld (λ found. HeldNone before × HasDatabase (AgreesWithNone s) found) before

  -- ---- tables that handle messages

  -- Messages were handled, the newest first. Suppose that what the files held before agreed with some arrivals. Then what a stop at any moment
  -- leaves of them can be opened, and agrees with these messages in front of those arrivals, or with these and one message in doubt. Everything
  -- that lasts over messages stays. If one of
  -- these messages got a response, the key that the order used is the operator's. A database that the files held was of the newest schema.
  pub record ServesFiles (Are : List ℕ → List Came → Type 0) (before : Image) (it : FileStore D g) : Type 0 where
    pub key : List ℕ
    pub came : List Came
    pub are : Are key came
    pub stands : (w : World) (operator upgrade_points : List ℕ) (earlier : List Came) → FilesHold (RowsStand w operator upgrade_points earlier) before
        → LeavesInFiles (StandsLater w operator upgrade_points (came ++ earlier)) it
    pub keyed : (w : World) (operator upgrade_points : List ℕ) (earlier : List Came) → FilesHold (RowsStand w operator upgrade_points earlier) before
        → IsClean (view it) → HasResponse came → key ≡ operator
    pub newest_was : (db : Database) → IsDatabase db → HoldsDatabase before db.trees → IsClean (view it) → db.schema ≡ schema_at newest

  -- ---- upgraded tables

  -- Suppose that the files held tables of some schema, which agreed with some arrivals. Then what a stop at any moment leaves of them are those
  -- tables, or tables of a later schema that hold the same. They agree with the same arrivals. If the order ended well, they are of the newest
  -- schema, and can be opened if the former ones could be. Tables of the newest schema stay as they were.
  pub record UpgradesFiles (ended : Result Ending Failure) (before : Image) (it : FileStore D g) : Type 0 where
    pub stands : (n : ℕ) → IsSchema n → (w : World) (calls : SlotCalls) (batches : Imports) (key upgrade_points : List ℕ) (earlier : List Came)
        → FilesHold (λ db. IsDatabase db × HoldWorldAt n db w calls batches) before → StandsIn (n - 1) key (held_with w calls batches) upgrade_points earlier
        → LeavesInFiles (StandAsEnded ended n w calls batches key upgrade_points earlier) it
    pub opens : (n : ℕ) → IsSchema n → (w : World) (calls : SlotCalls) (batches : Imports) (key upgrade_points : List ℕ) (earlier : List Came)
        → FilesHold (λ db. IsDatabase db × HoldWorldAt n db w calls batches × CouldBeOpenedAt n w calls batches db.trees) before
        → StandsIn (n - 1) key (held_with w calls batches) upgrade_points earlier → OnOk ended (LeavesInFiles CanBeOpened it)
    pub stays : (db : Database) → IsDatabase db → HoldsDatabase before db.trees → db.schema ≡ schema_at newest → LeavesInFiles (λ found. found ≡ db) it

  -- ---- orders

  -- what an order that ended so leaves of the files that held these contents
  abbrev pub LeavesFiles : {F : Type 0} → files.Ghosts F → ServedSo → Order → Result Ending Failure → Image → Left (FileStore D g) (Leftover D g) → Type 0
  LeavesFiles f served (order.Create settings tables) ended before last =
      (s : Settings) × SaysSettings f settings s × LeavesBy (MakesNone s before) (MakesFiles s before) ended last
  LeavesFiles f served (order.Upgrade tables) ended before last = LeavesBy (LeavesAsHeld (λ _. ⊥) before) (UpgradesFiles ended before) ended last
  LeavesFiles f served (order.Replay settings) ended before last = ⊥
  LeavesFiles f served o ended before last = LeavesBy (LeavesAsHeld (λ _. ⊥) before) (ServesFiles (λ key. MayCome f served key o ended) before) ended last

  -- the same of an action
  abbrev pub KeepsFiles : {F : Type 0} → files.Ghosts F → ServedSo → Action → Result Ending Failure → Image → Left (FileStore D g) (Leftover D g) → Type 0
  KeepsFiles f served (action.Create settings) ended before last =
      AreSettingsInLimits settings.now → LeavesBy (MakesNone settings.now before) (MakesFiles settings.now before) ended last
  KeepsFiles f served action.Upgrade ended before last = LeavesBy (LeavesAsHeld (λ _. ⊥) before) (UpgradesFiles ended before) ended last
  KeepsFiles f served (action.Handle task) ended before last = LeavesBy (LeavesAsHeld (λ _. ⊥) before) (ServesFiles (λ key. AreOf f served key task ended) before) ended last

-- what is left of a store over files, as what is left of the files
abbrev pub in_files : {D : Type 0} {g : disk.Ghosts D} → Left (FileStore D g) (FileStore D g) → Left (FileStore D g) (Leftover D g)
in_files left.Nothing = left.Nothing
in_files (left.Refused it) = left.Refused (rest.Store it)
in_files (left.Tables it) = left.Tables it

-- what is left of an opening that failed
abbrev pub left_of_opening : {D : Type 0} {g : disk.Ghosts D} → Option (Leftover D g) → Left (FileStore D g) (Leftover D g)
left_of_opening None = left.Nothing
left_of_opening (Some last) = left.Refused last

-- the order is about the tables of a file
abbrev pub HasTables : Order → Type 0
HasTables (order.Replay settings) = ⊥
HasTables (order.Create settings tables) = Unit {0}
HasTables (order.Upgrade tables) = Unit {0}
HasTables (order.Serve tables port count) = Unit {0}
HasTables (order.Import tables kind batch file) = Unit {0}
HasTables (order.Tick tables at) = Unit {0}
HasTables (order.Statement tables host) = Unit {0}
