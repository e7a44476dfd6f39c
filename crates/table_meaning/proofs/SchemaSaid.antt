-- The value of the setting `schema` is read in the same way at each schema.
use Rattle.std.proofs.Common.{◌≡◌, ℕ, List, [], ◌∷◌, slice_get, codes, option_map, refl}
use Rattle.sqlite_value.specs.declared.value.Value.TheVariants.{Text}
use Rattle.sqlite_value.specs.Order.{Row, column}
use Rattle.sqlite_trees.specs.declared.store.Shape.TheVariants.{Table as TableTree}
use Rattle.sqlite_trees.specs.View.{IsShaped}
use Rattle.sqlite.specs.State.{State, Shown}
use Rattle.table_meaning.specs.declared.tables.TableName.TheVariants.{Setting}
use Rattle.table_meaning.specs.Schema.{schema_at}
use Rattle.table_meaning.specs.Rows.{tree_of, setting_key}
use Rattle.table_meaning.specs.Schemas.{IsSchema, AreKnownAt, schema_text, schema_setting}
use Rattle.table_meaning.proofs.EachSchema.{of_schema}
use Rattle.table_meaning.proofs.Reading.{column_shown_at}
use Rattle.table_meaning.proofs.SchemaTables.{at_tree, has_settings}

pub said_shown : (n : ℕ) → IsSchema n → (old new : State) → AreKnownAt n old.now → (rows : List Row) → Shown schema_text (Text (codes "schema") ∷ []) old new rows
    → option_map (λ r. column r 0) (slice_get rows 0) ≡ schema_setting old.now.trees
said_shown n is old new known rows h =
    let shaped = at_tree n (λ tree. IsShaped TableTree (old.now.trees tree)) known.ordered (tree_of Setting) (has_settings n is) in
    column_shown_at (schema_at n) (setting_key (codes "schema")) 2 1 (λ r. refl) _ schema_text (of_schema n is).reads old new known.schema shaped rows h
