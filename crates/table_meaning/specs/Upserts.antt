-- Words. The form of the statements that put a row: INSERT with DO UPDATE of the row at its key, or UPDATE of that row alone.
use Rattle.std.specs.Prelude.{ℕ, pos, negsuc, false, List, [], ◌∷◌, Some, None}
use Rattle.sqlite_value.specs.declared.value.Value.TheVariants.{Int}
use Rattle.sqlite_value.specs.declared.keys.Collation.TheVariants.{Binary}
use Rattle.sqlite_sql.specs.declared.ops.BinaryOp.TheVariants.{Compare}
use Rattle.sqlite_sql.specs.declared.ops.CompareOp.TheVariants.{Eq}
use Rattle.sqlite_sql.specs.Term.{Term, lit, col, op2}
use Rattle.sqlite_sql.specs.Query.{Query, inner, end}
use Rattle.sqlite_schema.specs.declared.command.Upsert.{Upsert}
use Rattle.sqlite_schema.specs.declared.command.Source.TheVariants.{Values}
use Rattle.sqlite_schema.specs.declared.command.Conflict.TheVariants.{Abort}
use Rattle.sqlite_schema.specs.declared.command.Command.{Command}
use Rattle.sqlite_schema.specs.declared.command.Command.TheVariants.{InsertOr, Update}
use Rattle.table_meaning.specs.ByKey.{key_tests}

-- the rows that pass tests, with these columns in place of their own
abbrev pub change_query : ℕ → List Term → List Term → Query
change_query tree tests columns = record {
  from = inner tree end;
  filter = tests;
  group = None;
  project = col 1 0 ∷ col 1 0 ∷ columns;
  distinct = false;
  collations = [];
  order = [];
  limit = lit (Int (negsuc 0));
  offset = lit (Int (pos 0));
}

-- the row whose number is in a slot of the parameters
abbrev pub update_query : ℕ → ℕ → List Term → Query
update_query tree slot = change_query tree (op2 (Compare Eq Binary) (col 1 0) (col 0 slot) ∷ [])

abbrev pub update_at : List ℕ → ℕ → ℕ → List Term → Upsert
update_at target tree slot columns = record { target = Some target; update = Some (record { lets = []; body = update_query tree slot columns }) }

-- puts a row of these terms into the table at a place
abbrev pub put_command : ℕ → List Term → ℕ → Upsert → Command
put_command place terms width clause = InsertOr place Abort (Values terms width) (clause ∷ [])

-- the rows of a tree that have the first parameters as their key, at these places
abbrev pub keyed_query : ℕ → List ℕ → List Term → Query
keyed_query tree key = change_query tree (key_tests 0 key)

-- changes the rows that a query shows, in the table at a place
abbrev pub update_command : ℕ → Query → Command
update_command place q = Update place (record { lets = []; body = q })
