-- The rows of a call state are those of the edits that were made on it.
use Rattle.std.proofs.Common.{◌≡◌, List, Result, Ok, Err, IfOk, OnOk, subst}
use Rattle.sched_book.specs.Delta.{edited}
use Rattle.sched_book.specs.declared.delta.Edit.{Edit}
use Rattle.sched_book.specs.declared.world.World.{World}
use Rattle.call_working_set.specs.declared.call_state.CallState.{CallState}
use Rattle.call_working_set.specs.WorkingSets.{IsCallStateOf}
use Rattle.table_meaning.specs.declared.rows.StoredRow.{StoredRow}
use Rattle.table_worlds.specs.Changes.{AreChanges}

-- a fact that holds holds for any result
pub holds_anyway : {X E : Type 0} (P : Type 0) (r : Result X E) → P → IfOk r (λ x. P)
holds_anyway P (Ok x) is = is
holds_anyway P (Err e) is = tt

-- the rows of a call state are those of the changes that were put into it
pub of_call_state : {E : Type 0} (w u : World) (p : CallState) (cs : List Edit) (r : Result (List StoredRow) E) → u ≡ w → p.edits ≡ cs → IsCallStateOf w p
    → (IsCallStateOf u p → IfOk r (AreChanges u (edited u p.edits))) → IfOk r (AreChanges w (edited w cs))
of_call_state w u p cs r same made call_state told =
    subst (λ ds. IfOk r (AreChanges w (edited w ds))) made
    (subst (λ (x : World). IsCallStateOf x p → IfOk r (AreChanges x (edited x p.edits))) same told call_state)

pub done_anyhow : {X E : Type 0} (P : Type 0) (r : Result X E) → P → OnOk r P
done_anyhow P (Ok x) is = is
done_anyhow P (Err e) is = tt
