-- What each text that reads the greatest number of a table means.
use Rattle.std.proofs.Common.{◌≡◌, ℕ, [], ◌∷◌, codes, Option, Some, None, option_map, unwrap_or, refl}
use Rattle.sqlite_value.specs.Order.{Row, column}
use Rattle.sqlite_tied.specs.Compute.{everything}
use Rattle.sqlite.specs.Listing.{understood}
use Rattle.table_meaning.specs.Rows.{shown, whole}
use Rattle.table_meaning.proofs.LastRow.{IsLast}
use Rattle.table_rows.specs.declared.names.CountedTable.{CountedTable}
use Rattle.table_rows.specs.declared.names.CountedTable.TheVariants.{Account}
use Rattle.table_rows.specs.Counted.{counted_table, last_text}

pub last_is_read : (t : CountedTable) → IsLast (counted_table t) (codes "id" ∷ []) (last_text t)
unfolding understood everything
last_is_read Account = (refl, (refl, refl), refl)
last_is_read _ = (refl, (refl, refl), refl)

pub number_first : (t : CountedTable) (r : Row) → column (shown (counted_table t) r) 0 ≡ column r 0
number_first Account r = refl
number_first _ r = refl

pub or_none : (found : Option ℕ) → whole (unwrap_or found 0) ≡ unwrap_or (option_map whole found) (whole 0)
or_none None = refl
or_none (Some n) = refl
