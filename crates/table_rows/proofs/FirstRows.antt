-- What a call returns about the first row that a statement shows.
use Rattle.std.proofs.Common.{◌≡◌, ℕ, true, List, slice_get, Option, option_map, ◌∙◌}
use Rattle.std.specs.Prelude.{IfOk}
use Rattle.std.specs.declared.result.Result.{Result}
use Rattle.std.proofs.lemmas.Result.{IfOk-weaker}
use Rattle.sqlite_value.specs.Order.{Row}
use Rattle.sqlite_trees.specs.declared.store.Store.{Ghosts}
use Rattle.sqlite.specs.Held.{Held, state}
use Rattle.sqlite.specs.State.{Shown}
use Rattle.table_meaning.specs.Reads.{Shows}
use Rattle.table_rows.specs.declared.opening.OpenFault.{OpenFault}

module _ {S T X : Type 0} (store : Ghosts S) (conn : Held S) (text : List ℕ) (params : Row) (told : T → X) (pick : Row → X) (found : Result (Option T) OpenFault) (wanted : Option X) where
  -- if `pick` gives what is wanted for the first row, so does `told` for what was read of it
  pub first_is : ((after : Held S) (rows : List Row) → Shown text params (state store (record conn { in_transaction = true })) (state store after) rows → option_map pick (slice_get rows 0) ≡ wanted)
      → IfOk found (λ o. (rows : List Row) × Shows store conn text params rows × (option_map told o ≡ option_map pick (slice_get rows 0))) → IfOk found (λ o. option_map told o ≡ wanted)
  first_is is = IfOk-weaker found _ _ (λ (o : Option T) (h : (rows : List Row) × Shows store conn text params rows × (option_map told o ≡ option_map pick (slice_get rows 0))). h.2 ∙ is h.1.0 h.0 h.1.1)
