-- What a stop leaves of the store that is left of a connection.
use Rattle.std.proofs.Common.{◌≡◌, ap, ◌∙◌, sym, inl, inr, arith, IsTrue}
use Rattle.sqlite.specs.Effect.{Database}
use Rattle.sqlite.specs.Held.{Held, state}
use Rattle.sqlite.specs.State.{State, HasCleanDisk, Opens}
use Rattle.sqlite_trees.specs.Tree.{Trees}
use Rattle.sqlite_trees.specs.View.{IsQuiet}
use Rattle.sqlite_trees.specs.declared.store.Store.{Ghosts}
use Rattle.table_meaning.specs.Reads.{Reads}
use Rattle.table_rows.specs.Refusing.{IsRestOf}

module _ {S : Type 0} (g : Ghosts S) where
  abbrev pub Quiet : S → S → Type 0
  Quiet = IsQuiet g.view g.faults g.recovers g.is_shielded

  -- nothing was done
  pub quiet_itself : (s : S) → Quiet s s
  quiet_itself s = record { shield = λ shielded. shielded; clean = omega arith; counts = omega arith; closes = λ clean is_open. inl is_open; outcomes = λ db may. may }

  -- the store that is under a connection
  pub own_rest : (conn : Held S) → IsRestOf g (state g conn) conn.store
  own_rest conn = record { clean = λ clean. clean; left = λ clean trees may. inl may }

  -- a store that is left of a connection, by a quiet call
  pub quiet_rest : (conn : Held S) (rest : S) → Quiet conn.store rest → IsRestOf g (state g conn) rest
  quiet_rest conn rest quiet = record { clean = λ clean. omega (arith, quiet.clean, clean); left = λ clean trees may. inl (quiet.outcomes trees may) }

  -- the same, after a read
  pub read_rest : (old new : Held S) (rest : S) → Reads (state g old) (state g new) → Quiet new.store rest → IsRestOf g (state g old) rest
  read_rest old new rest reads quiet = record {
    clean = λ clean. omega (arith, reads.survives.clean, quiet.clean, clean);
    left = λ clean trees may. elim (reads.survives.crash (omega (arith, quiet.clean, clean)) trees (quiet.outcomes trees may)) [ inl before ↦ inl before | inr none ↦ absurd none ];
  }

  -- Suppose that a connection was opened over what another one had committed. Then what is left of it is a rest of the other one.
  pub opened_rest : (old : State) (conn : Held S) (rest : S) → ((s : S) (db : Trees) → IsTrue (g.view s).is_open → g.recovers s db → db ≡ (g.view s).committed)
      → (HasCleanDisk (state g conn) → Opens (state g conn)) → (HasCleanDisk (state g conn) → (state g conn).now ≡ old.committed) → (HasCleanDisk (state g conn) → HasCleanDisk old)
      → IsRestOf g (state g conn) rest → IsRestOf g old rest
  opened_rest old conn rest settled opens same was_clean it = record {
    clean = λ clean. was_clean (it.clean clean);
    left = λ clean trees may.
        let here = it.clean clean in
        let committed : (state g conn).committed.trees ≡ old.committed.trees = ap (λ (db : Database). db.trees) (sym (opens here).clean ∙ same here) in
        elim (it.left clean trees may) [ inl after ↦ inr (settled conn.store trees (opens here).is_open after ∙ committed) | inr is ↦ inr (is ∙ committed) ];
  }
