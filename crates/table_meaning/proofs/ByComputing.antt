-- What is computed from each table's layout: what its texts mean, and what they do with any row.
use Rattle.std.proofs.Common.{◌≡◌, ℕ, ◌+◌, ◌/◌, ℤ, Bool, true, false, ◌||◌, List, [], ◌∷◌, ◌++◌, length, find, slice_get, Some, None, Ok, Err, refl}
use Rattle.std.specs.Prelude.{◌==◌, ⊤}
use Rattle.std.specs.List.{list_any}
use Rattle.sqlite_value.specs.declared.value.Value.{Value}
use Rattle.sqlite_value.specs.declared.value.Value.TheVariants.{Int}
use Rattle.sqlite_value.specs.Order.{Row, column}
use Rattle.sqlite_value.specs.Keys.{plain}
use Rattle.sqlite_trees.specs.Tree.{Trees}
use Rattle.sqlite_sql.specs.Term.{eval_all}
use Rattle.sqlite_sql.specs.Program.{overlay}
use Rattle.sqlite_schema.specs.declared.command.Command.TheVariants.{Select}
use Rattle.sqlite_schema.specs.declared.schema.Schema.{Schema}
use Rattle.sqlite_schema.specs.Rules.{agree}
use Rattle.sqlite_rules.specs.Keys.{conflicts}
use Rattle.sqlite_syntax.specs.declared.statement.Parsed.{Parsed}
use Rattle.sqlite_resolve.specs.Lowering.{Checked}
use Rattle.sqlite_resolve.specs.Compile.{first, returning}
use Rattle.sqlite_tied.specs.Compute.{everything}
use Rattle.sqlite.specs.Effect.{value_rows}
use Rattle.sqlite.specs.Rows.{stamped, shown as shown_by}
use Rattle.sqlite.specs.Listing.{understood, reads_listing}
use Rattle.sqlite.proofs.Callers.{IsPlain, command_of}
use Rattle.table_meaning.specs.declared.tables.TableName.{TableName}
use Rattle.table_meaning.specs.declared.tables.TableName.TheVariants.{Setting, Account, App, Version, Unit, Host, Instance, Kept, Batch, VersionClass, UnitMark}
use Rattle.table_meaning.specs.Kinds.{Kind, number}
use Rattle.table_meaning.specs.Layouts.{Key, numbered, by_first, layout_of, names}
use Rattle.table_meaning.specs.Schema.{newest, tables_at, layouts_at, stored_schema, table_by, table_place}
use Rattle.table_meaning.specs.Texts.{read_text, key_text, put_text}
use Rattle.table_meaning.specs.Rows.{tree_of, places_of, key_places, shown}
use Rattle.table_meaning.specs.Formats.{kinds_of}
use Rattle.table_meaning.specs.Reads.{read_query}
use Rattle.table_meaning.specs.ByKey.{key_query}
use Rattle.table_meaning.specs.Upserts.{update_at, put_command}
use Rattle.table_meaning.proofs.Columns.{key_by, count_of, written_out, columns_after_number, with_number, source_by, put_terms, set_terms}

abbrev pub names_of : TableName → List (List ℕ)
names_of t = names (layout_of t)

-- the text reads the whole table
abbrev pub IsRead : TableName → Type 0
IsRead t = (command_of (understood stored_schema (read_text t)) ≡ Select (record { lets = []; body = read_query (tree_of t) (places_of t) }) (names_of t)) × IsPlain (understood stored_schema (read_text t))
    × (reads_listing stored_schema (read_text t) ≡ false)

-- under a schema the text reads these columns of the rows that have the key
abbrev pub ReadsByKeyIn : Schema → TableName → List ℕ → List (List ℕ) → List ℕ → Type 0
ReadsByKeyIn schema t places names text = (command_of (understood schema text) ≡ Select (record { lets = []; body = key_query (tree_of t) (key_places t) places }) names) × IsPlain (understood schema text)
    × (reads_listing schema text ≡ false)

abbrev pub ReadsByKey : TableName → List ℕ → List (List ℕ) → List ℕ → Type 0
ReadsByKey = ReadsByKeyIn stored_schema

-- a text has no RETURNING
abbrev pub IsQuiet : Checked Parsed → Type 0
IsQuiet (Ok p) = (schema : Schema) (base : ℕ) → returning schema base p.statement ≡ Ok None
IsQuiet (Err e) = ⊤

-- if the first column is the number of the row, its kind is `number`
abbrev pub BeginsBy : Key → List Kind → Type 0
BeginsBy numbered kinds = (more : List Kind) × (kinds ≡ number ∷ more)
BeginsBy (by_first n) kinds = ⊤

pub record Computed (t : TableName) : Type 0 where
  -- the table among the others
  pub listed : slice_get stored_schema.tables (table_place t) ≡ Some (table_by t)
  pub found : find (λ other. tree_of other == tree_of t) (tables_at newest) ≡ Some t
  pub stands : list_any (λ l. l.tree == tree_of t) (layouts_at newest) ≡ true
  pub own : (db : Trees) → overlay db [] (tree_of t) ≡ db (tree_of t)
  pub starts : BeginsBy (key_by t) (kinds_of t)
  -- what its texts mean
  pub reads : IsRead t
  pub quiet : IsQuiet (first (read_text t))
  pub reads_key : ReadsByKey t (places_of t) (names_of t) (key_text t)
  pub puts : command_of (understood stored_schema (put_text t)) ≡ put_command (table_place t) (put_terms (key_by t) (count_of t)) (count_of t + 1) (update_at (key_places t) (tree_of t) (count_of t) (set_terms (key_by t) (count_of t)))
  pub plain_text : IsPlain (understood stored_schema (put_text t))
  -- what happens to the columns of a row that is put
  pub values : (c : Row) → value_rows (stamped (table_by t) (written_out t c)) (count_of t + 1) (length (put_terms (key_by t) (count_of t)) / (count_of t + 1)) (put_terms (key_by t) (count_of t))
      ≡ source_by (key_by t) (written_out t c) ∷ []
  pub meets : (c : Row) (id : ℤ) (x : Row) → conflicts (Some (key_places t)) stored_schema.indexes (table_by t) (Int id ∷ columns_after_number (key_by t) (written_out t c)) x
      ≡ agree plain (key_places t) x (key_places t) (Int id ∷ columns_after_number (key_by t) (written_out t c))
  pub slot_is : (c : Row) (v : Value) (rest : Row) → column (written_out t c ++ v ∷ rest) (count_of t) ≡ v
  pub columns_are : (c : Row) (id : ℤ) (r : Row) (v : Value)
      → eval_all (set_terms (key_by t) (count_of t)) ((written_out t c ++ v ∷ shown_by (table_by t) (Int id ∷ columns_after_number (key_by t) (written_out t c))) ∷ r ∷ []) ≡ columns_after_number (key_by t) (written_out t c)
  pub shows : (c : Row) (id : ℤ) → shown t (Int id ∷ columns_after_number (key_by t) (written_out t c)) ≡ with_number (key_by t) id (written_out t c)

pub or_false : (b : Bool) → (b || false) ≡ b
or_false true = refl
or_false false = refl

-- (one `elim`: with a clause for each table, each clause would be compared with its text once more)
pub computed : (t : TableName) → Computed t
unfolding understood everything
computed t = elim t as Computed [
  | Setting ↦ record { listed = refl; found = refl; stands = refl; own = λ db. refl; starts = tt; reads = (refl, (refl, refl), refl); quiet = λ schema base. refl; reads_key = (refl, (refl, refl), refl); puts = refl; plain_text = (refl, refl); values = λ c. refl; meets = λ c id x. or_false _; slot_is = λ c v rest. refl; columns_are = λ c id r v. refl; shows = λ c id. refl }
  | Account ↦ record { listed = refl; found = refl; stands = refl; own = λ db. refl; starts = (_, refl); reads = (refl, (refl, refl), refl); quiet = λ schema base. refl; reads_key = (refl, (refl, refl), refl); puts = refl; plain_text = (refl, refl); values = λ c. refl; meets = λ c id x. or_false _; slot_is = λ c v rest. refl; columns_are = λ c id r v. refl; shows = λ c id. refl }
  | App ↦ record { listed = refl; found = refl; stands = refl; own = λ db. refl; starts = (_, refl); reads = (refl, (refl, refl), refl); quiet = λ schema base. refl; reads_key = (refl, (refl, refl), refl); puts = refl; plain_text = (refl, refl); values = λ c. refl; meets = λ c id x. or_false _; slot_is = λ c v rest. refl; columns_are = λ c id r v. refl; shows = λ c id. refl }
  | Version ↦ record { listed = refl; found = refl; stands = refl; own = λ db. refl; starts = (_, refl); reads = (refl, (refl, refl), refl); quiet = λ schema base. refl; reads_key = (refl, (refl, refl), refl); puts = refl; plain_text = (refl, refl); values = λ c. refl; meets = λ c id x. or_false _; slot_is = λ c v rest. refl; columns_are = λ c id r v. refl; shows = λ c id. refl }
  | Unit ↦ record { listed = refl; found = refl; stands = refl; own = λ db. refl; starts = (_, refl); reads = (refl, (refl, refl), refl); quiet = λ schema base. refl; reads_key = (refl, (refl, refl), refl); puts = refl; plain_text = (refl, refl); values = λ c. refl; meets = λ c id x. or_false _; slot_is = λ c v rest. refl; columns_are = λ c id r v. refl; shows = λ c id. refl }
  | Host ↦ record { listed = refl; found = refl; stands = refl; own = λ db. refl; starts = (_, refl); reads = (refl, (refl, refl), refl); quiet = λ schema base. refl; reads_key = (refl, (refl, refl), refl); puts = refl; plain_text = (refl, refl); values = λ c. refl; meets = λ c id x. or_false _; slot_is = λ c v rest. refl; columns_are = λ c id r v. refl; shows = λ c id. refl }
  | Instance ↦ record { listed = refl; found = refl; stands = refl; own = λ db. refl; starts = tt; reads = (refl, (refl, refl), refl); quiet = λ schema base. refl; reads_key = (refl, (refl, refl), refl); puts = refl; plain_text = (refl, refl); values = λ c. refl; meets = λ c id x. or_false _; slot_is = λ c v rest. refl; columns_are = λ c id r v. refl; shows = λ c id. refl }
  | Kept ↦ record { listed = refl; found = refl; stands = refl; own = λ db. refl; starts = tt; reads = (refl, (refl, refl), refl); quiet = λ schema base. refl; reads_key = (refl, (refl, refl), refl); puts = refl; plain_text = (refl, refl); values = λ c. refl; meets = λ c id x. or_false _; slot_is = λ c v rest. refl; columns_are = λ c id r v. refl; shows = λ c id. refl }
  | Batch ↦ record { listed = refl; found = refl; stands = refl; own = λ db. refl; starts = tt; reads = (refl, (refl, refl), refl); quiet = λ schema base. refl; reads_key = (refl, (refl, refl), refl); puts = refl; plain_text = (refl, refl); values = λ c. refl; meets = λ c id x. or_false _; slot_is = λ c v rest. refl; columns_are = λ c id r v. refl; shows = λ c id. refl }
  | VersionClass ↦ record { listed = refl; found = refl; stands = refl; own = λ db. refl; starts = (_, refl); reads = (refl, (refl, refl), refl); quiet = λ schema base. refl; reads_key = (refl, (refl, refl), refl); puts = refl; plain_text = (refl, refl); values = λ c. refl; meets = λ c id x. or_false _; slot_is = λ c v rest. refl; columns_are = λ c id r v. refl; shows = λ c id. refl }
  | UnitMark ↦ record { listed = refl; found = refl; stands = refl; own = λ db. refl; starts = (_, refl); reads = (refl, (refl, refl), refl); quiet = λ schema base. refl; reads_key = (refl, (refl, refl), refl); puts = refl; plain_text = (refl, refl); values = λ c. refl; meets = λ c id x. or_false _; slot_is = λ c v rest. refl; columns_are = λ c id r v. refl; shows = λ c id. refl }
]
