-- Promise. The whole life of a project's file: orders one after the other, each of which ended well, failed or was stopped. (This project's
-- own.)
use Rattle.std.specs.Prelude.{◌≡◌, ◌≢◌, ◌⊎◌, ℕ, ◌-◌, List, [], ◌∷◌, ◌++◌, Result}
use Rattle.sqlite.specs.Effect.{Database, IsDatabase}
use Rattle.sqlite.specs.Files.{HoldsDatabase, IsCleanLeft}
use Rattle.sqlite.specs.declared.file.Leftover.{Leftover}
use Rattle.sqlite.specs.declared.file.Leftover.TheVariants as rest
use Rattle.sqlite_disk.specs.declared.Disk as disk
use Rattle.sqlite_pool.specs.Stored.{StandsAs}
use Rattle.sqlite_store.specs.FileStore.{state, view, recovers}
use Rattle.sqlite_store.specs.Unopened.{state_of}
use Rattle.sqlite_store.specs.declared.store.FileStore.{FileStore}
use Rattle.sqlite_trees.specs.Tree.{Trees}
use Rattle.sqlite_trees.specs.View.{IsClean}
use Rattle.sqlite_wal.specs.Files.{outcomes}
use Rattle.sqlite_wal.specs.Recovery.{Image}
use Rattle.command_line.specs.declared.order.Order.{Order}
use Rattle.http_responses.specs.declared.answer.Answer.TheVariants as answer
use Rattle.http_responses.specs.declared.response.Response.{Response}
use Rattle.http_serving.specs.declared.streams.Sink as sink
use Rattle.http_serving.specs.declared.streams.Source as source
use Rattle.sched_book.specs.declared.settings.Settings.{Settings}
use Rattle.sched_book.specs.declared.world.World.{World}
use Rattle.sched_server.specs.declared.arrival.Arrival.{Arrival}
use Rattle.sched_server.specs.Arrivals.{Came, IsInDoubt, StandsFor, StandsIn}
use Rattle.sched_server.specs.Laws.{AllStay}
use Rattle.sched_tables.specs.Commits.{Imports}
use Rattle.sched_tables.specs.Upgrading.{held_with}
use Rattle.sched_tables.specs.Views.{held_in}
use Rattle.stores.specs.Eras.{this_era, new_upgrade_points}
use Rattle.table_meaning.specs.Schema.{newest, schema_at}
use Rattle.table_meaning.specs.Schemas.{IsEarlier}
use Rattle.table_meaning.specs.Upgrades.{HoldWorldAt}
use Rattle.table_meaning.specs.Worlds.{SlotCalls}
use Rattle.table_pasts.specs.Laws.{with_upgrade_points}
use Rattle.commands.specs.Files.{FilesHold, LeavesFiles, MakesFiles}
use Rattle.commands.specs.Messages.{MayCome}
use Rattle.commands.specs.Wire.{AreServed}
use Rattle.commands.specs.declared.connections.Connections as connections
use Rattle.commands.specs.declared.ending.Ending.{Ending}
use Rattle.commands.specs.declared.ending.Failure.{Failure}
use Rattle.commands.specs.declared.ending.Left.{Left}
use Rattle.commands.specs.declared.ending.Left.TheVariants as left
use Rattle.commands.specs.declared.files.Files as files

-- ---- what files agree with

-- tables of the newest schema hold this world, and agree with the arrivals
abbrev pub IsNewestWith : World → List ℕ → List ℕ → List Came → Database → Type 0
IsNewestWith w key upgrade_points came db =
    (db.schema ≡ schema_at newest) × StandsFor key (held_in db.trees) upgrade_points came × ((held_in db.trees).world ≡ w)

-- tables of an earlier schema hold it, and agree with the arrivals in the era of that schema
abbrev pub IsFormerWith : World → List ℕ → List ℕ → List Came → Database → Type 0
IsFormerWith w key upgrade_points came db =
    (n : ℕ) × IsEarlier n × (calls : SlotCalls) × (batches : Imports) × HoldWorldAt n db w calls batches
    × StandsIn (n - 1) key (held_with w calls batches) upgrade_points came

-- a database of this project holds this world, and agrees with the arrivals
pub record AgreesWith (w : World) (key upgrade_points : List ℕ) (came : List Came) (db : Database) : Type 0 where
  pub sound : IsDatabase db
  pub rows : IsNewestWith w key upgrade_points came db ⊎ IsFormerWith w key upgrade_points came db

-- so do the files that hold it
abbrev pub FilesAgree : World → List ℕ → List ℕ → List Came → Image → Type 0
FilesAgree w key upgrade_points came = FilesHold (AgreesWith w key upgrade_points came)

-- ---- one run

module _ {D : Type 0} {g : disk.Ghosts D} where
  -- What the end of a run, or a stop in it, may leave of files that could not be opened, if the disk returned what was written. What stands for the
  -- same pages holds the same database. That is what the library's word says, and no law of it.
  abbrev pub MayLeaveRest : Image → Leftover D g → Image → Type 0
  MayLeaveRest before (rest.Files now) after = IsCleanLeft {g = g} (rest.Files now) × outcomes g now.log now.db after
  MayLeaveRest before (rest.Unopened now) after =
      IsCleanLeft {g = g} (rest.Unopened now) × (state_of now).may_leave after
      × (StandsAs (state_of now).page_size before after → (db : Trees) → HoldsDatabase before db → HoldsDatabase after db)
  MayLeaveRest before (rest.Store it) after = IsClean (view it) × (found : Trees) × recovers it found × HoldsDatabase after found

  -- the same of all that a run leaves: files that it did not open are as they were
  abbrev pub MayLeave : Image → Left (FileStore D g) (Leftover D g) → Image → Type 0
  MayLeave before left.Nothing after = after ≡ before
  MayLeave before (left.Refused last) after = MayLeaveRest before last after
  MayLeave before (left.Tables it) after = IsClean (view it) × (state it).may_leave after

-- These messages came after the earlier ones: or these and one message in doubt, which was answered by a response that nobody read.
abbrev pub AreAhead : List Came → List Came → List Came → Type 0
AreAhead came earlier later =
    (later ≡ came ++ earlier)
    ⊎ ((arrival : Arrival) × IsInDoubt arrival (came ++ earlier) × (r : Response) × (later ≡ record { arrival = arrival; answer = answer.Response r } ∷ (came ++ earlier)))

-- What a run makes of the upgrade points and of what came. Messages came, or the tables were upgraded by some schemas and none came.
abbrev pub IsNext : List Came → List ℕ → List Came → List ℕ → List Came → Type 0
IsNext came points earlier points_after later =
    ((points_after ≡ points) × AreAhead came earlier later)
    ⊎ ((came ≡ []) × (later ≡ earlier) × (upgrades : ℕ) × (points_after ≡ with_upgrade_points upgrades points earlier))

-- After a run the files agree with what comes next, and everything that lasts over messages stays.
abbrev pub AgreeNext : (List ℕ → List Came → Type 0) → World → List ℕ → Image → Type 0
AgreeNext Next w key after =
    (points_after : List ℕ) × (later : List Came) × Next points_after later
    × (w_after : World) × AllStay w w_after × FilesAgree w_after key points_after later after

-- A run in which these messages came leads from files to files: whatever the files agreed with before, they agree with what comes next after it.
abbrev pub Leads : List Came → Image → Image → Type 0
Leads came before after =
    (w : World) (key points : List ℕ) (earlier : List Came) → FilesAgree w key points earlier before → ∥ AgreeNext (IsNext came points earlier) w key after ∥₁

-- ---- runs one after the other

-- these runs led from files to files, the newest first
abbrev pub AreRuns : List (List Came) → Image → Image → Type 0
AreRuns [] before after = after ≡ before
AreRuns (came ∷ runs) before after = (mid : Image) × AreRuns runs before mid × Leads came mid after

-- what these runs make of the upgrade points and of what came
abbrev pub AreNext : List (List Came) → List ℕ → List Came → List ℕ → List Came → Type 0
AreNext [] points earlier points_after later = (points_after ≡ points) × (later ≡ earlier)
AreNext (came ∷ runs) points earlier points_after later =
    (points_mid : List ℕ) × (mid : List Came) × AreNext runs points earlier points_mid mid × IsNext came points_mid mid points_after later

-- ---- laws

-- New tables agree with no arrivals, and with the operator's key of their settings.
abbrev pub NewFilesAgree : {D : Type 0} → disk.Ghosts D → Type 0
NewFilesAgree {D} g =
    (s : Settings) (before after : Image) (it : FileStore D g) → MakesFiles s before it → MayLeave {g = g} before (left.Tables it) after
    → ∥ ((w : World) × FilesAgree w s.operator_key (new_upgrade_points this_era) [] after) ∥₁

-- An order with tables leads from the files as it found them to the files as it, or a stop in it, leaves them. If it opened no tables, it failed
-- and no messages came.
abbrev pub RunsLead : {D F C R W : Type 0} → disk.Ghosts D → files.Ghosts F → connections.Ghosts C R W → source.Ghosts R → sink.Ghosts W → Type 0
RunsLead {D} {F} {C} g f steps reads writes =
    (old new : C) (o : Order) (ended : Result Ending Failure) (before after : Image) (last : Left (FileStore D g) (Leftover D g))
    → (last ≢ left.Nothing → LeavesFiles f (AreServed steps reads writes old new) o ended before last) → MayLeave before last after
    → (key : List ℕ) × (came : List Came) × ((came ≡ []) ⊎ MayCome f (AreServed steps reads writes old new) key o ended came) × Leads came before after

-- Runs in any order lead on: whatever the files agreed with before them, they agree after them with what came next, and everything that lasts
-- over messages stays.
abbrev pub RunsFollow : Type 0
RunsFollow =
    (runs : List (List Came)) (before after : Image) → AreRuns runs before after
    → (w : World) (key points : List ℕ) (earlier : List Came) → FilesAgree w key points earlier before → ∥ AgreeNext (AreNext runs points earlier) w key after ∥₁
