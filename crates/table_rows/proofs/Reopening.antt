-- The trees list one schema only, so databases with the same trees are equal.
use Rattle.std.proofs.Common.{◌≡◌, ap, ap₂, subst}
use Rattle.std.specs.Prelude.{unwrap_or}
use Rattle.sqlite_trees.specs.Tree.{Trees}
use Rattle.sqlite_trees.specs.Objects.{catalog_tree}
use Rattle.sqlite_catalog.specs.Listing.{Lists}
use Rattle.sqlite_catalog.proofs.ReadLemmas.{lists_once}
use Rattle.sqlite_schema.specs.declared.schema.Schema.{Schema}
use Rattle.sqlite.specs.Effect.{Database, IsDatabase}
use Rattle.sqlite.specs.Held.{Held}
use Rattle.table_rows.specs.declared.opening.OpenRefusal.TheVariants.{NotTables}
use Rattle.table_rows.specs.Refusing.{given_back}

database : Schema → Trees → Database
database schema trees = record { schema = schema; trees = trees }

pub one_database : (a b : Database) → a.trees ≡ b.trees → IsDatabase a → IsDatabase b → a ≡ b
unfolding database
one_database a b trees first second =
    ap₂ database (lists_once (b.trees catalog_tree) a.schema b.schema (subst (λ (t : Trees). Lists (t catalog_tree) a.schema) trees first.lists) second.lists) trees

-- a refusal determines the connection that it gives back
pub one_refused : {S : Type 0} (a b : Held S) → NotTables a ≡ NotTables b → a ≡ b
one_refused a b same = ap (λ r. unwrap_or (given_back r) a) same
