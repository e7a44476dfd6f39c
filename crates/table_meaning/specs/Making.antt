-- Words. How the CREATE texts make a schema, one after another.
use Rattle.std.specs.Prelude.{◌≡◌, ℕ, ⊤, false, List, [], ◌∷◌, fold, if◌then◌else◌, slice_get, Some, Ok}
use Rattle.std.specs.List.{AllByRecursion}
use Rattle.sqlite_schema.specs.declared.schema.Schema.{Schema}
use Rattle.sqlite_schema.specs.declared.command.Command.TheVariants.{CreateTable, CreateIndex}
use Rattle.sqlite_resolve.specs.Compile.{table_defined_by, index_defined_by}
use Rattle.sqlite_trees.specs.Tree.{Trees}
use Rattle.sqlite_catalog.specs.Change.{next_tree, created, indexed}
use Rattle.sqlite.specs.Effect.{Database}
use Rattle.sqlite.specs.Does.{lacks_sequence}
use Rattle.sqlite.specs.Given.{IsPlain}
use Rattle.sqlite.specs.Listing.{understood}
use Rattle.sqlite.proofs.Callers.{command_of, statement_of}
use Rattle.table_meaning.specs.declared.tables.TableName.TheVariants.{Instance}
use Rattle.table_meaning.specs.Schema.{table_by, table_place}
use Rattle.table_meaning.specs.Texts.{Made, made_table, made_index}
use Rattle.table_meaning.specs.Schemas.{has_tree}

abbrev pub with_made : Schema → Made → Schema
with_made schema (made_table table) = created schema table
with_made schema (made_index index) = indexed schema (table_by Instance) index

-- at this schema the text makes exactly that
abbrev pub Makes : Schema → List ℕ → Made → Type 0
Makes schema text (made_table table) =
    (command_of (understood schema text) ≡ CreateTable) × (table_defined_by text ≡ Ok (record table { tree = 0 })) × (lacks_sequence (created schema table) ≡ false)
Makes schema text (made_index index) =
    (command_of (understood schema text) ≡ CreateIndex (table_place Instance)) × (slice_get schema.tables (table_place Instance) ≡ Some (table_by Instance))
    × (index_defined_by (table_by Instance) text ≡ Ok (record index { tree = 0 }))

-- each in turn, at the schema made by those before it
abbrev pub MakeInTurn : Schema → List (List ℕ × Made) → Type 0
MakeInTurn schema [] = ⊤
MakeInTurn schema (d ∷ more) =
    Makes schema d.0 d.1 × (statement_of d.0 (understood schema d.0) ≡ d.0) × IsPlain (understood schema d.0) × MakeInTurn (with_made schema d.1) more

-- no tree that is made in turn has a row here
abbrev pub AreFree : Trees → Schema → List (List ℕ × Made) → Type 0
AreFree rows schema [] = ⊤
AreFree rows schema (d ∷ more) = (rows (next_tree schema) ≡ []) × AreFree rows (with_made schema d.1) more

-- The definitions that are left make the wanted schema. The tables so far have these rows, and those still to be made have none.
pub record AreStillToMake (wanted : Schema) (rows : Trees) (left : List (List ℕ × Made)) (db : Database) : Type 0 where
  pub makes : MakeInTurn db.schema left
  pub whole : fold (λ schema d. with_made schema d.1) db.schema left ≡ wanted
  pub free : AreFree rows db.schema left
  pub same : AllByRecursion (λ t. db.trees t.tree ≡ rows t.tree) db.schema.tables

-- no tree has a row
abbrev pub no_rows : Trees
no_rows tree = []

-- the rows of the tables that the schema of this number has
abbrev pub rows_at : ℕ → Trees → Trees
rows_at n trees tree = if has_tree n tree then trees tree else []
