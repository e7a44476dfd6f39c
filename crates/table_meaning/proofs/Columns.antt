-- Where the columns of a row are in its tree, by the key of the table, and the terms of the text that puts them.
use Rattle.std.proofs.Common.{◌≡◌, ℕ, ◌+◌, ◌-◌, ℤ, List, ◌∷◌, map, drop, length, sym, ap, ◌∙◌}
use Rattle.std.proofs.lemmas.List.{take-map}
use Rattle.std.specs.Prelude.{⊤}
use Rattle.std.specs.List.{range_with_len}
use Rattle.sqlite_value.specs.declared.value.Value.TheVariants.{Null, Int}
use Rattle.sqlite_value.specs.Order.{Row, column}
use Rattle.sqlite_sql.specs.Term.{Term, lit, col}
use Rattle.table_meaning.specs.declared.tables.TableName.{TableName}
use Rattle.table_meaning.specs.Layouts.{Key, numbered, by_first, layout_of, of_key, key_width}
use Rattle.table_meaning.specs.Rows.{places_of, key_places, shown}
use Rattle.table_meaning.specs.Formats.{columns_in}

abbrev pub key_by : TableName → Key
key_by t = (layout_of t).key

abbrev pub count_of : TableName → ℕ
count_of t = length (layout_of t).columns

-- the columns one by one, so that facts about them compute for any row
abbrev pub written_out : TableName → Row → Row
written_out t c = columns_in c (count_of t)

-- what the tree has of a row after the row's number
abbrev pub columns_after_number : Key → Row → Row
columns_after_number numbered c = Null ∷ drop 1 c
columns_after_number (by_first n) c = c

-- If the row's number is one of the columns, it is this number.
abbrev pub IsNumberedBy : Key → Row → ℤ → Type 0
IsNumberedBy numbered c id = column c 0 ≡ Int id
IsNumberedBy (by_first n) c id = ⊤

-- the columns, with this number if one of them is the row's number
abbrev pub with_number : Key → ℤ → Row → Row
with_number numbered id c = Int id ∷ drop 1 c
with_number (by_first n) id c = c

-- what is put: the row's number if it is a column; if not, NULL, for which SQL chooses a free number
abbrev pub source_by : Key → Row → Row
source_by numbered c = column c 0 ∷ columns_after_number numbered c
source_by (by_first n) c = Null ∷ c

-- If `count` columns are the parameters: the terms for the columns that UPDATE sets, for the row that is put, and for those that DO UPDATE sets.
abbrev pub given_terms : Key → ℕ → List Term
given_terms numbered count = lit Null ∷ map (col 0) (range_with_len 1 (count - 1))
given_terms (by_first n) count = map (col 0) (range_with_len 0 count)

abbrev pub put_terms : Key → ℕ → List Term
put_terms numbered count = col 0 0 ∷ given_terms numbered count
put_terms (by_first n) count = lit Null ∷ given_terms (by_first n) count

abbrev pub set_terms : Key → ℕ → List Term
set_terms numbered count = lit Null ∷ map (col 0) (range_with_len (count + 3) (count - 1))
set_terms (by_first n) count = map (col 0) (range_with_len (count + 2) count)

-- the shown columns of a row begin with those of its key
pub key_shown : (t : TableName) (raw c : Row) → shown t raw ≡ c → map (column raw) (key_places t) ≡ of_key (layout_of t) c
key_shown t raw c is = sym (take-map (column raw) (key_width (key_by t)) (places_of t)) ∙ ap (of_key (layout_of t)) is
