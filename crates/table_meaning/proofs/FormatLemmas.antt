-- A row is its columns.
use Rattle.std.proofs.Common.{◌≡◌, ℕ, length, refl, sym}
use Rattle.std.proofs.lemmas.List.FromFn.{fill_by_all}
use Rattle.sqlite_value.specs.declared.value.Value.TheVariants.{Null}
use Rattle.sqlite_value.specs.Order.{Row, column}
use Rattle.table_meaning.specs.Formats.{columns_in}

pub whole_row : (row : Row) (n : ℕ) → length row ≡ n → columns_in row n ≡ row
whole_row row n long = sym (fill_by_all (column row) row n Null long (λ k within. refl))
