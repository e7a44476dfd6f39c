-- Rows whose values have the types of their columns. SQL leaves them as they are, as parameters and in a tree.
use Rattle.std.proofs.Common.{◌≡◌, ℕ, zero, suc, ◌+◌, ℤ, Bool, true, false, ◌&&◌, ◌||◌, cond, List, [], ◌∷◌, map, length, refl, sym, ap, ap₂, ◌∙◌, true≢false}
use Rattle.std.specs.List.{enumerate_from}
use Rattle.std.proofs.lemmas.Bool.{and_parts}
use Rattle.sqlite_value.specs.declared.value.Value.{Value}
use Rattle.sqlite_value.specs.declared.value.Value.TheVariants.{Null, Int, Real, Text, Blob}
use Rattle.sqlite_value.specs.Order.{Row, column}
use Rattle.sqlite_sql.specs.Ops.{unary}
use Rattle.sqlite_schema.specs.declared.schema.Kind.TheVariants as sql
use Rattle.sqlite_rules.specs.Cast.{cast, cast_all, cast_row}
use Rattle.sqlite.specs.Values.{bound_value}
use Rattle.table_meaning.specs.Kinds.{Kind, number, integer, words, flag, octets, optional, either}
use Rattle.table_meaning.specs.Layouts.{Column, Key, numbered, by_first, Layout, kinds}
use Rattle.table_meaning.specs.Schema.{type_of, sql_column, sql_columns, sql_table}
use Rattle.table_meaning.proofs.Columns.{columns_after_number}

-- the value has the type of the kind, in any range
abbrev pub has_type : Kind → Value → Bool
has_type number (Int n) = true
has_type integer (Int n) = true
has_type words (Text t) = true
has_type flag (Int n) = true
has_type octets (Blob b) = true
has_type (optional kind) Null = true
has_type (optional kind) v = has_type kind v
has_type (either first other) v = has_type first v || has_type other v
has_type _ _ = false

-- as many values as kinds, each of the type of its kind
abbrev pub have_types : List Kind → Row → Bool
have_types [] [] = true
have_types (kind ∷ kinds) (v ∷ row) = has_type kind v && have_types kinds row
have_types _ _ = false

pub long : (kinds : List Kind) (row : Row) → have_types kinds row ≡ true → length row ≡ length kinds
long [] [] h = refl
long (kind ∷ kinds) (v ∷ row) h = ap suc (long kinds row (and_parts _ _ h).1)
long _ _ h = absurd (true≢false (sym h))

pub first_number : (kinds : List Kind) (row : Row) → have_types (number ∷ kinds) row ≡ true → (id : ℤ) × (column row 0 ≡ Int id)
first_number kinds (Int id ∷ row) h = (id, refl)
first_number kinds _ h = absurd (true≢false (sym h))

-- ---- a column does not change a value of its type

same_both : (b : Bool) (v : Value) → cond b v v ≡ v
same_both true v = refl
same_both false v = refl

pub cast_int : (id : ℤ) → cast sql.Integer (Int id) ≡ Int id
unfolding unary
cast_int id = same_both _ (Int id)

pub cast_null : (kind : Kind) → cast (type_of kind) Null ≡ Null
unfolding unary
cast_null number = same_both _ Null
cast_null integer = same_both _ Null
cast_null flag = same_both _ Null
cast_null (optional kind) = cast_null kind
cast_null _ = refl

cast_typed : (kind : Kind) (v : Value) → has_type kind v ≡ true → cast (type_of kind) v ≡ v
cast_typed number (Int id) h = cast_int id
cast_typed integer (Int id) h = cast_int id
cast_typed words (Text t) h = refl
cast_typed flag (Int id) h = cast_int id
cast_typed octets v h = refl
cast_typed (optional kind) Null h = cast_null kind
cast_typed (optional kind) v h = cast_typed kind v h
cast_typed (either first other) v h = refl
cast_typed _ _ h = absurd (true≢false (sym h))

cast_columns : (key : Key) (at : ℕ) (columns : List Column) (row : Row) → have_types (map (λ c. c.kind) columns) row ≡ true
    → cast_all (map (λ p. sql_column key p.0 p.1) (enumerate_from at columns)) row ≡ row
cast_columns key at [] row h = refl
cast_columns key at (c ∷ columns) [] h = refl
cast_columns key at (c ∷ columns) (v ∷ row) h = let parts = and_parts _ _ h in ap₂ ◌∷◌ (cast_typed c.kind v parts.0) (cast_columns key (at + 1) columns row parts.1)

-- so a table leaves a row of the tree as it is
pub cast_behind : (l : Layout) (row : Row) → have_types (kinds l) row ≡ true → (id : ℤ) → cast_row (sql_table l) (Int id ∷ columns_after_number l.key row) ≡ Int id ∷ columns_after_number l.key row
cast_behind l row h id = ap₂ ◌∷◌ (cast_int id) (by l.key l.columns row h)
  where
    by : (key : Key) (columns : List Column) (row : Row) → have_types (map (λ c. c.kind) columns) row ≡ true → cast_all (sql_columns key columns) (columns_after_number key row) ≡ columns_after_number key row
    by numbered [] row h = refl
    by numbered (c ∷ columns) [] h = absurd (true≢false (sym h))
    by numbered (c ∷ columns) (v ∷ row) h = ap₂ ◌∷◌ (cast_null c.kind) (cast_columns numbered 1 columns row (and_parts _ _ h).1)
    by (by_first n) columns row h = cast_columns (by_first n) 0 columns row h

-- ---- nor does binding a parameter, since none is a float

abbrev pub is_real : Value → Bool
is_real (Real x) = true
is_real _ = false

no_real : (kind : Kind) (v : Value) → has_type kind v ≡ true → is_real v ≡ false
no_real kind (Real x) h = absurd (true≢false (sym h ∙ other kind))
  where
    other : (kind : Kind) → has_type kind (Real x) ≡ false
    other (optional kind) = other kind
    other (either first second) = ap₂ ◌||◌ (other first) (other second)
    other _ = refl
no_real kind _ h = refl

pub no_reals : (kinds : List Kind) (row : Row) → have_types kinds row ≡ true → (at : ℕ) → is_real (column row at) ≡ false
no_reals kinds [] h at = refl
no_reals [] (v ∷ row) h at = absurd (true≢false (sym h))
no_reals (kind ∷ kinds) (v ∷ row) h zero = no_real kind v (and_parts _ _ h).0
no_reals (kind ∷ kinds) (v ∷ row) h (suc at) = no_reals kinds row (and_parts _ _ h).1 at

bound_same : (v : Value) → is_real v ≡ false → bound_value v ≡ v
bound_same (Real x) h = absurd (true≢false h)
bound_same _ h = refl

pub bound_columns : (kinds : List Kind) (row : Row) → have_types kinds row ≡ true → map bound_value row ≡ row
bound_columns kinds [] h = refl
bound_columns [] (v ∷ row) h = absurd (true≢false (sym h))
bound_columns (kind ∷ kinds) (v ∷ row) h = let parts = and_parts _ _ h in ap₂ ◌∷◌ (bound_same v (no_real kind v parts.0)) (bound_columns kinds row parts.1)
