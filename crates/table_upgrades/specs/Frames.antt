-- Words. What every step of an upgrade leaves, regardless of what else it does: within its transaction, and on a connection with none open.
use Rattle.std.specs.Prelude.{◌≡◌, false, IsTrue}
use Rattle.std.specs.Borrow.{MutBor}
use Rattle.sqlite_trees.specs.declared.store.Store.{Ghosts}
use Rattle.sqlite.specs.Held.{Held, state}
use Rattle.sqlite.specs.State.{State, HasCleanDisk, KeepsCommit, Survives}

-- Within a transaction: a stop leaves what it could leave before, and nothing is committed.
pub record WithinTransaction {S : Type 0} (g : Ghosts S) (old new : MutBor (Held S)) : Type 0 where
  pub same_reference : new.ghost_name ≡ old.ghost_name
  pub survives : Survives (state g old.now) (state g new.now) (λ _. ⊥)
  pub kept : HasCleanDisk (state g new.now) → IsTrue (state g old.now).in_transaction → KeepsCommit (state g old.now) (state g new.now)

-- The transaction is still open.
abbrev pub StaysWithin : {S : Type 0} → Ghosts S → MutBor (Held S) → MutBor (Held S) → Type 0
StaysWithin {S} g old new = HasCleanDisk (state g new.now) → IsTrue (state g old.now).in_transaction → IsTrue (state g new.now).in_transaction

-- With no open transaction: if the connection is open now, it was open before, and no transaction is left open.
pub record OutsideTransaction (old new : State) : Type 0 where
  pub was_open : HasCleanDisk new → IsTrue new.is_open → IsTrue old.is_open
  pub idle : old.in_transaction ≡ false → new.in_transaction ≡ false

-- The connection is open, and all that it shows is committed.
pub record IsAllCommitted (new : State) : Type 0 where
  pub is_open : IsTrue new.is_open
  pub rest : new.now ≡ new.committed
