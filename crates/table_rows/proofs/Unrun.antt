-- A call that runs no statement leaves what a read leaves.
use Rattle.std.proofs.Common.{◌≡◌, ℕ, false, true≢false, IsTrue, List, sym, ◌∙◌, subst, inl, inr}
use Rattle.sqlite_trees.specs.declared.error.StoreError.{StoreError}
use Rattle.sqlite_trees.specs.declared.error.StoreError.TheVariants.{Broken}
use Rattle.sqlite_value.specs.Order.{Row}
use Rattle.sqlite.specs.State.{State, HasCleanDisk, Survives, IsUnchanged, IsNoStatement, IsNotRun, HasCause, store_error}
use Rattle.sqlite.specs.declared.error.Error.{Error}
use Rattle.sqlite.specs.declared.error.Error.TheVariants.{SqliteFailure}
use Rattle.sqlite.specs.declared.error.ErrorCode.TheVariants as code
use Rattle.table_meaning.specs.Reads.{Reads}

module _ (old new : State) (survives : Survives old new (λ _. ⊥)) (idle : old.in_transaction ≡ false → new.in_transaction ≡ false) where
  pub reads_unchanged : (HasCleanDisk new → IsUnchanged old new) → Reads old new
  reads_unchanged same = record {
    survives = survives;
    was_open = λ clean opened. (same clean).0.was_open;
    same = λ clean opened rests. ((same clean).0.now_is, (same clean).0.committed_is);
    idle = idle;
  }

  pub reads_unrun : (sql : List ℕ) (params : Row) (e : Error) → (HasCleanDisk new → IsNotRun old new sql params e) → Reads old new
  unfolding IsNotRun
  reads_unrun sql params e not_run = record {
    survives = survives;
    was_open = λ clean opened. elim (not_run clean) [ inl none ↦ none.1.0.was_open | inr fails ↦ fails.3.was_open opened ];
    same = λ clean opened rests. elim (not_run clean) [
      | inl none ↦ (none.1.0.now_is, none.1.0.committed_is)
      | inr fails ↦ ((fails.3.undone opened).0 ∙ sym rests, (fails.3.undone opened).1)
    ];
    idle = idle;
  }

-- only a connection that was shut reports `Closed`
was_shut : (old new : State) (cause : StoreError) → store_error cause ≡ SqliteFailure code.Closed → HasCause old new ⊥ cause → old.is_open ≡ false
was_shut old new Broken says why = why
was_shut old new _ says why = cc

never_closed : (s : State) (sql : List ℕ) (params : Row) (e : Error) → IsNoStatement s sql params e → e ≡ SqliteFailure code.Closed → ⊥
never_closed s sql params e (inl (fault, is, says)) closed = let never = sym says ∙ closed in cc
never_closed s sql params e (inr (c, is, inl (long, says))) closed = let never = sym says ∙ closed in cc
never_closed s sql params e (inr (c, is, inr (inl (given, says)))) closed = let never = sym says ∙ closed in cc
never_closed s sql params e (inr (c, is, inr (inr (clock, says)))) closed = let never = sym says ∙ closed in cc

-- and the connection is then shut
pub is_shut : (old new : State) (sql : List ℕ) (params : Row) (e : Error) → IsNotRun old new sql params e → e ≡ SqliteFailure code.Closed → ¬ IsTrue new.is_open
unfolding IsNotRun
is_shut old new sql params e (inl none) closed opened = never_closed old sql params e none.0 closed
is_shut old new sql params e (inr fails) closed opened =
    true≢false (sym (subst IsTrue (was_shut old new fails.0 (sym fails.1 ∙ closed) fails.2) (fails.3.was_open opened)))
