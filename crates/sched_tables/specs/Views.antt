-- Rule. How tables are seen: as the state of their connection, and as the world that their rows represent.
use Rattle.std.specs.Prelude.{◌≡◌, List}
use Rattle.sqlite_trees.specs.Tree.{Trees}
use Rattle.sqlite_trees.specs.declared.store.Store.{Ghosts}
use Rattle.sqlite.specs.Held.{state}
use Rattle.sqlite.specs.State.{State}
use Rattle.sched_book.specs.declared.rows.App.{App}
use Rattle.sched_book.specs.declared.settings.Settings.{Settings}
use Rattle.sched_book.specs.declared.world.World.{World}
use Rattle.table_worlds.specs.StoredWorld.{world_in}
use Rattle.table_meaning.specs.Reads.{Reads}
use Rattle.stores.specs.Held.{Held}
use Rattle.table_meaning.specs.Kept.{calls_in}
use Rattle.table_meaning.specs.Worlds.{SlotCalls}
use Rattle.sched_tables.specs.Entries.{calls_of, batches_of}
use Rattle.sched_tables.specs.Held.{IsHonest, AreWellKept, AreInMemory}
use Rattle.sched_tables.specs.DueFrom.{NothingIsDueBefore}
use Rattle.table_cache.specs.Remembering.{IsCacheOf}
use Rattle.sched_tables.specs.declared.tables.Tables.{Tables}

abbrev pub state_of : {S : Type 0} → Ghosts S → Tables S → State
state_of store t = state store t.conn

abbrev pub world_of : {S : Type 0} → Ghosts S → Tables S → World
world_of store t = world_in (state_of store t).now.trees

-- the calls in the slots of each host
abbrev pub slots_of : {S : Type 0} → Ghosts S → Tables S → SlotCalls
slots_of store t = calls_in (state_of store t).now.trees

-- all that they hold
abbrev pub held_in : Trees → Held
held_in trees = record { world = world_in trees; calls = calls_of trees; batches = batches_of trees }

abbrev pub held_of : {S : Type 0} → Ghosts S → Tables S → Held
held_of store t = held_in (state_of store t).now.trees

-- they are well kept, and what is in memory agrees with their world
abbrev pub AreKept : {S : Type 0} → Ghosts S → Tables S → Type 0
AreKept store t = AreWellKept (state_of store t) (world_of store t) × AreInMemory (world_of store t) (slots_of store t) t.settings t.apps t.cache t.due_from

-- what they keep in memory: the settings, and the applications
abbrev pub settings_of : {S : Type 0} → Tables S → Settings
settings_of t = t.settings

abbrev pub apps_of : {S : Type 0} → Tables S → List App
apps_of t = t.apps

-- what they cache agrees with what they hold
abbrev pub CacheWhatTheyHold : {S : Type 0} → Ghosts S → Tables S → Type 0
CacheWhatTheyHold store t = IsCacheOf (world_of store t) (slots_of store t) t.cache

-- nothing is due before the moment from which they look for what is due
abbrev pub MissNothingDue : {S : Type 0} → Ghosts S → Tables S → Type 0
MissNothingDue store t = NothingIsDueBefore (world_of store t) t.due_from

-- Tables after a read. What the connection shows is unchanged, and so are the settings and the applications. If the tables are honest and
-- were well kept, what is remembered is what they held, and nothing is due in their world before `due_from`.
abbrev pub AreReadOn : {S : Type 0} → Ghosts S → Tables S → Tables S → Type 0
AreReadOn store old new = Reads (state_of store old) (state_of store new) × (new.settings ≡ old.settings) × (new.apps ≡ old.apps) × (IsHonest (state_of store new) → AreKept store old → IsCacheOf (world_of store old) (slots_of store old) new.cache)
    × (IsHonest (state_of store new) → AreKept store old → NothingIsDueBefore (world_of store old) new.due_from)
