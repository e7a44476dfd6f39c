-- Rule. The form of the statements that read a whole table, and what a read leaves of a connection.
use Rattle.std.specs.Prelude.{◌≡◌, ℕ, pos, negsuc, true, false, List, [], ◌∷◌, map, None, IsTrue}
use Rattle.sqlite_value.specs.declared.value.Value.TheVariants.{Int}
use Rattle.sqlite_value.specs.declared.keys.Collation.TheVariants.{Binary}
use Rattle.sqlite_value.specs.Order.{Row}
use Rattle.sqlite_value.specs.Keys.{ascending}
use Rattle.sqlite_sql.specs.Term.{lit, col}
use Rattle.sqlite_sql.specs.Query.{Query, inner, end}
use Rattle.sqlite_trees.specs.declared.store.Store.{Ghosts}
use Rattle.sqlite.specs.Held.{Held, state}
use Rattle.sqlite.specs.State.{State, HasCleanDisk, Survives, Shown}

-- the rows of a tree, shown at these places, in the order of their numbers
abbrev pub read_query : ℕ → List ℕ → Query
read_query tree places = record {
  from = inner tree end;
  filter = [];
  group = None;
  project = map (col 1) places;
  distinct = false;
  collations = [];
  order = (col 1 0, ascending Binary) ∷ [];
  limit = lit (Int (negsuc 0));
  offset = lit (Int (pos 0));
}

-- Nothing was committed, and a stop leaves nothing new. With no open transaction, what the connection shows is unchanged. No transaction is left open.
pub record Reads (old new : State) : Type 0 where
  pub survives : Survives old new (λ _. ⊥)
  pub was_open : HasCleanDisk new → IsTrue new.is_open → IsTrue old.is_open
  pub same : HasCleanDisk new → IsTrue new.is_open → old.now ≡ old.committed → (new.now ≡ old.now) × (new.committed ≡ old.committed)
  pub idle : old.in_transaction ≡ false → new.in_transaction ≡ false

-- These are the rows that a text shows in a transaction.
abbrev pub Shows : {S : Type 0} → Ghosts S → Held S → List ℕ → Row → List Row → Type 0
Shows {S} store old text params rows = (after : Held S) × Shown text params (state store (record old { in_transaction = true })) (state store after) rows
