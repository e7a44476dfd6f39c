-- Rule. Why a connection is refused, as a fault, and what the refusal gives back: the connection, or the store that was under it.
use Rattle.std.specs.Prelude.{◌≡◌, ◌≢◌, ◌⊎◌, ℕ, false, Option, Some, None, IsTrue}
use Rattle.sqlite.specs.Effect.{Database}
use Rattle.sqlite.specs.Held.{Held}
use Rattle.sqlite.specs.State.{State, HasCleanDisk}
use Rattle.sqlite_trees.specs.Tree.{Trees}
use Rattle.sqlite_trees.specs.View.{IsClean}
use Rattle.sqlite_trees.specs.declared.store.Store.{Ghosts}
use Rattle.sched_book.specs.declared.cause.Cause.{Cause}
use Rattle.table_rows.specs.declared.opening.OpenFault.{OpenFault}
use Rattle.table_rows.specs.declared.opening.OpenFault.TheVariants as fault
use Rattle.table_rows.specs.declared.opening.OpenRefusal.{OpenRefusal}
use Rattle.table_rows.specs.declared.opening.OpenRefusal.TheVariants.{NotTables, OldSchema, BadRow, Unavailable}

-- ---- refusals

abbrev pub fault_of : {S : Type 0} → OpenRefusal S → OpenFault
fault_of (NotTables conn) = fault.NotTables
fault_of (OldSchema schema conn) = fault.OldSchema schema
fault_of (BadRow conn) = fault.BadRow
fault_of (Unavailable cause store) = fault.Unavailable cause

-- the refusal of a connection for a fault; for a fault of memory or of the disk it has this store, which was under the connection
abbrev pub refusal_for : {S : Type 0} → OpenFault → Held S → S → OpenRefusal S
refusal_for fault.NotTables conn store = NotTables conn
refusal_for (fault.OldSchema schema) conn store = OldSchema schema conn
refusal_for fault.BadRow conn store = BadRow conn
refusal_for (fault.Unavailable cause) conn store = Unavailable cause store

-- the connection that a refusal gives back
abbrev pub given_back : {S : Type 0} → OpenRefusal S → Option (Held S)
given_back (NotTables conn) = Some conn
given_back (OldSchema schema conn) = Some conn
given_back (BadRow conn) = Some conn
given_back (Unavailable cause store) = None

-- the store that a refusal gives back, alone or under its connection
abbrev pub rest_of : {S : Type 0} → OpenRefusal S → S
rest_of (NotTables conn) = conn.store
rest_of (OldSchema schema conn) = conn.store
rest_of (BadRow conn) = conn.store
rest_of (Unavailable cause store) = store

-- A store is left of a connection. No wrong answer of the disk is forgotten. What a stop leaves of the store is what it could leave of the
-- connection, or what was last committed there.
pub record IsRestOf {S : Type 0} (g : Ghosts S) (old : State) (rest : S) : Type 0 where
  pub clean : IsClean (g.view rest) → HasCleanDisk old
  pub left : IsClean (g.view rest) → (trees : Trees) → g.recovers rest trees → old.may_leave trees ⊎ (trees ≡ old.committed.trees)

-- The connection is open with no open transaction, and this is what it shows and what was committed.
pub record HasNoTransaction (db : Database) (s : State) : Type 0 where
  pub is_open : IsTrue s.is_open
  pub idle : s.in_transaction ≡ false
  pub now : s.now ≡ db
  pub committed : s.committed ≡ db

-- ---- faults

-- The fault says nothing of the tables: memory failed, or the disk, or a fact that the code relies on.
abbrev pub IsUnavailable : OpenFault → Type 0
IsUnavailable e = (cause : Cause) × (e ≡ fault.Unavailable cause)

-- The fault is that of a row, of memory or of the disk, not of the schema.
pub record SparesSchema (e : OpenFault) : Type 0 where
  pub stored : e ≢ fault.NotTables
  pub newest : (schema : ℕ) → e ≢ fault.OldSchema schema
