-- How rows are refused, by tests that read one world in turn.
use Rattle.std.proofs.Common.{◌≡◌, ◌∙◌, ℕ, Bool, Option, None, Some, sym, ap, ap₂}
use Rattle.rpc_records.specs.declared.fault.Fault.TheVariants.{UnknownReference}
use Rattle.sched_book.specs.Imports.{duplicate_at, fault_of_rows, first_fault, has_room, shelf_of, shelved, unknown_at}
use Rattle.sched_book.specs.declared.rows.Rows.{Rows}
use Rattle.sched_book.specs.declared.world.World.{World}

-- no name is a duplicate, and a reference is unknown
pub unknown_reference : (w v : World) (rows : Rows) (d u : Option ℕ) (n : ℕ) → v ≡ w → d ≡ duplicate_at (shelf_of w) rows
    → u ≡ unknown_at (shelf_of v) rows → d ≡ None → u ≡ Some n → fault_of_rows (shelf_of w) rows ≡ Some (UnknownReference n)
unknown_reference w v rows d u n same duplicate unknown none at =
    let told = sym unknown ∙ at in
    ap₂ (λ d u. first_fault d u (has_room (shelved (shelf_of w) rows))) (sym duplicate ∙ none) (ap (λ x. unknown_at (shelf_of x) rows) (sym same) ∙ told)

-- neither is the case, and room decides
pub by_room : (w v x : World) (rows : Rows) (d u : Option ℕ) (room b : Bool) → v ≡ w → x ≡ w → d ≡ duplicate_at (shelf_of w) rows
    → u ≡ unknown_at (shelf_of v) rows → room ≡ has_room (shelved (shelf_of x) rows) → d ≡ None → u ≡ None → room ≡ b
    → fault_of_rows (shelf_of w) rows ≡ first_fault None None b
by_room w v x rows d u room b same again duplicate unknown roomy none none_either is =
    ap₂ (λ d u. first_fault d u (has_room (shelved (shelf_of w) rows))) (sym duplicate ∙ none)
    (ap (λ y. unknown_at (shelf_of y) rows) (sym same) ∙ (sym unknown ∙ none_either))
    ∙ ap (first_fault None None) (ap (λ y. has_room (shelved (shelf_of y) rows)) (sym again) ∙ (sym roomy ∙ is))
