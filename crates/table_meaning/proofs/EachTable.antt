-- What holds for each table of the schema holds for each table by its name, and a table is determined by its tree.
use Rattle.std.proofs.Common.{◌≡◌, find, ap, sym, ◌∙◌}
use Rattle.std.specs.Prelude.{◌==◌, unwrap_or}
use Rattle.std.specs.List.{AllByRecursion}
use Rattle.sqlite_schema.specs.declared.schema.Table.{Table}
use Rattle.sqlite_keyed.proofs.ListLemmas.{all-slice_get}
use Rattle.table_meaning.specs.declared.tables.TableName.{TableName}
use Rattle.table_meaning.specs.Schema.{newest, tables_at, stored_schema, table_by, table_place}
use Rattle.table_meaning.specs.Rows.{tree_of}
use Rattle.table_meaning.proofs.ByComputing.{computed}

pub of_each : (P : Table → Type 0) → AllByRecursion P stored_schema.tables → (t : TableName) → P (table_by t)
of_each P all t = all-slice_get P stored_schema.tables (table_place t) (table_by t) (computed t).listed all

pub same_table : (a b : TableName) → tree_of a ≡ tree_of b → a ≡ b
same_table a b same =
    ap (λ o. unwrap_or o a) (sym (computed a).found ∙ ap (λ tree. find (λ other. tree_of other == tree) (tables_at newest)) same ∙ (computed b).found)
