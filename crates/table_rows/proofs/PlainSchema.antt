-- The tables made from layouts have no default, no CHECK and no view. So a schema of them has none either.
use Rattle.std.proofs.Common.{ℕ, ◌+◌, List, [], ◌∷◌, map, refl, sym, subst, inl, inr}
use Rattle.std.specs.List.{enumerate_from}
use Rattle.table_meaning.specs.Layouts.{Column, Key, Layout}
use Rattle.table_meaning.specs.Schema.{sql_column, sql_table, layouts_at, schema_at}
use Rattle.table_rows.specs.Plain.{Each, HasNoDefault, IsPlainTable, IsPlain}

no_default : (key : Key) (at : ℕ) (columns : List Column) → Each HasNoDefault (map (λ p. sql_column key p.0 p.1) (enumerate_from at columns))
no_default key at [] c has = absurd has
no_default key at (d ∷ columns) c (inl this) = subst HasNoDefault (sym this) refl
no_default key at (d ∷ columns) c (inr later) = no_default key (at + 1) columns c later

are_plain : (layouts : List Layout) → Each IsPlainTable (map sql_table layouts)
are_plain [] t has = absurd has
are_plain (l ∷ layouts) t (inl this) = subst IsPlainTable (sym this) (record { checks = refl; computed = refl; stamps = refl }, no_default l.key 0 l.columns)
are_plain (l ∷ layouts) t (inr later) = are_plain layouts t later

pub each_is_plain : (schema : ℕ) → IsPlain (schema_at schema)
each_is_plain schema = (refl, are_plain (layouts_at schema))
