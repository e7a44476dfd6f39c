-- What is computed for each schema, for each step from one to the next, and for each fill of such a step.
use Rattle.std.proofs.Common.{◌≡◌, ◌≢◌, ◌+◌, ℕ, zero, suc, pos, negsuc, Bool, true, false, ◌&&◌, cond, List, [], ◌∷◌, ◌++◌, map, drop, length, fold, find, slice_get, codes, Option, Some, None, option_map, option_and_then, unwrap_or, refl, sym, ap, subst, ◌∙◌, true≢false, arith}
use Rattle.std.specs.Prelude.{◌==◌, ⊤}
use Rattle.std.specs.List.{AllByRecursion, range_with_len}
use Rattle.std.proofs.lemmas.Option.{none-some, same_Some}
use Rattle.sqlite_value.specs.declared.value.Value.TheVariants.{Null, Int, Text}
use Rattle.sqlite_value.specs.declared.keys.Collation.TheVariants.{Binary}
use Rattle.sqlite_value.specs.Order.{Row, column}
use Rattle.sqlite_trees.specs.Tree.{Trees, rowid}
use Rattle.sqlite_trees.specs.View.{is_int}
use Rattle.sqlite_sql.specs.declared.ops.BinaryOp.TheVariants.{Compare}
use Rattle.sqlite_sql.specs.declared.ops.CompareOp.TheVariants.{Ge}
use Rattle.sqlite_sql.specs.Term.{Term, lit, col, op2, eval_all}
use Rattle.sqlite_sql.specs.Program.{overlay}
use Rattle.sqlite_sql.specs.Query.{Query}
use Rattle.sqlite_schema.specs.declared.command.Command.TheVariants.{Select}
use Rattle.sqlite_schema.specs.declared.schema.Schema.{Schema}
use Rattle.sqlite_tied.specs.Compute.{everything}
use Rattle.sqlite.specs.Rows.{stamped}
use Rattle.sqlite.specs.Listing.{understood, reads_listing}
use Rattle.sqlite.proofs.Callers.{IsPlain, command_of}
use Rattle.reply_register.specs.declared.kept.Kept.{Kept as Call}
use Rattle.table_meaning.specs.declared.tables.Fill.{Fill}
use Rattle.table_meaning.specs.declared.tables.Fill.TheVariants.{Calls, Classes, Marks}
use Rattle.table_meaning.specs.declared.tables.TableName.TheVariants.{Setting}
use Rattle.table_meaning.specs.declared.rows.StoredRow.{StoredRow}
use Rattle.table_meaning.specs.declared.rows.StoredRow.TheVariants.{Version, Kept}
use Rattle.table_meaning.specs.declared.rows.StoredVersion.{StoredVersion}
use Rattle.table_meaning.specs.Layouts.{former_kept, column_places}
use Rattle.table_meaning.specs.Schema.{newest, layouts_at, no_schema, schema_at, table_by, table_place}
use Rattle.table_meaning.specs.Texts.{Made}
use Rattle.table_meaning.specs.Rows.{tree_of, whole, table_of, columns_of, RowKey, kept_key, version_key, unit_key, class_key, mark_key, table_at, row_key_of, look_up}
use Rattle.table_meaning.specs.ByKey.{key_tests}
use Rattle.table_meaning.specs.Holding.{Contents}
use Rattle.table_meaning.specs.Worlds.{call_row}
use Rattle.table_meaning.specs.Schemas.{IsSchema, IsEarlier, has_tree, has_table, schema_text, definitions_between}
use Rattle.table_meaning.specs.Making.{with_made, MakeInTurn, AreFree, rows_at}
use Rattle.table_meaning.specs.Fills.{fills_of, source_of, target_of, schema_with, filled_key, filled_row, filled_columns, filled_from, next_text, fill_text, NumberedRows, numbered_row, HostCalls, KeepCalls, former_columns, platform_class, no_mark, brought}
use Rattle.table_meaning.proofs.ByComputing.{or_false, ReadsByKeyIn}
use Rattle.table_meaning.proofs.Columns.{key_by, source_by}
use Rattle.table_meaning.proofs.Inserting.{copy_command}
use Rattle.table_meaning.proofs.Putting.{PutsAt}
use Rattle.table_meaning.proofs.Reading.{projecting_query}

-- the schema that CREATE texts make from a schema
abbrev pub made_by : Schema → List (List ℕ × Made) → Schema
made_by = fold (λ schema d. with_made schema d.1)

-- ---- each schema

pub record OfSchema (n : ℕ) : Type 0 where
  -- its tables are the first ones of the newest schema, and those of the first schema are the first of them
  pub front : layouts_at newest ≡ layouts_at n ++ drop (length (layouts_at n)) (layouts_at newest)
  pub since_first : layouts_at n ≡ layouts_at 1 ++ drop (length (layouts_at 1)) (layouts_at n)
  -- the number of its tables determines its number
  pub number : find (λ m. length (schema_at m).tables == length (schema_at n).tables) (range_with_len 1 newest) ≡ Some n
  -- its CREATE texts make it
  pub made : made_by no_schema (definitions_between 0 n) ≡ schema_at n
  -- what the texts mean there that put and read the row that names the schema
  pub puts : PutsAt n Setting
  pub reads : ReadsByKeyIn (schema_at n) Setting (2 ∷ []) (codes "value" ∷ []) schema_text

pub of_schema : (n : ℕ) → IsSchema n → OfSchema n
unfolding understood everything
of_schema zero is = absurd (omega (arith, is.0))
of_schema (suc zero) is = record { front = refl; since_first = refl; number = refl; made = refl; puts = record { is = refl; plain_text = (refl, refl); listed = refl; meets = λ c id x. or_false _ }; reads = (refl, (refl, refl), refl) }
of_schema (suc (suc zero)) is = record { front = refl; since_first = refl; number = refl; made = refl; puts = record { is = refl; plain_text = (refl, refl); listed = refl; meets = λ c id x. or_false _ }; reads = (refl, (refl, refl), refl) }
of_schema (suc (suc (suc zero))) is = record { front = refl; since_first = refl; number = refl; made = refl; puts = record { is = refl; plain_text = (refl, refl); listed = refl; meets = λ c id x. or_false _ }; reads = (refl, (refl, refl), refl) }
of_schema (suc (suc (suc (suc n)))) is = absurd (omega (arith, is.1))

-- ---- each step

-- a fill leads to the next schema, and this schema lacks the table that is filled
abbrev pub LeadsTo : ℕ → Fill → Type 0
LeadsTo n f = (schema_with f ≡ n + 1) × (has_tree n (tree_of (target_of f)) ≡ false)

-- no two fills fill the same table
abbrev pub AreDistinct : List Fill → Type 0
AreDistinct [] = ⊤
AreDistinct (f ∷ more) = AllByRecursion (λ g. (tree_of (target_of g) == tree_of (target_of f)) ≡ false) more × AreDistinct more

pub record OfStep (n : ℕ) : Type 0 where
  -- the definitions of the next schema make it from this one, in turn, and no tree that is made has a row
  pub makes : MakeInTurn (schema_at n) (definitions_between n (n + 1))
  pub whole : made_by (schema_at n) (definitions_between n (n + 1)) ≡ schema_at (n + 1)
  pub split : definitions_between 0 (n + 1) ≡ definitions_between 0 n ++ definitions_between n (n + 1)
  pub free : (trees : Trees) → AreFree (rows_at n trees) (schema_at n) (definitions_between n (n + 1))
  pub lead : AllByRecursion (LeadsTo n) (fills_of n)
  pub distinct : AreDistinct (fills_of n)

pub of_step : (n : ℕ) → IsEarlier n → OfStep n
unfolding understood everything
of_step zero earlier = absurd (omega (arith, earlier.0))
of_step (suc zero) earlier = record { makes = ((refl, refl, refl), refl, (refl, refl), tt); whole = refl; split = refl; free = λ trees. (refl, tt); lead = ((refl, refl), tt); distinct = (tt, tt) }
of_step (suc (suc zero)) earlier = record {
  makes = ((refl, refl, refl), refl, (refl, refl), ((refl, refl, refl), refl, (refl, refl), tt));
  whole = refl;
  split = refl;
  free = λ trees. (refl, (refl, tt));
  lead = ((refl, refl), ((refl, refl), tt));
  distinct = ((refl, tt), (tt, tt));
}
of_step (suc (suc (suc n))) earlier = absurd (omega (arith, earlier.1))

-- ---- each fill

-- the columns that its text takes from a row of the source
abbrev pub fill_terms : Fill → List Term
fill_terms Calls = lit Null ∷ col 1 0 ∷ lit (Int (pos 0)) ∷ col 1 2 ∷ col 1 3 ∷ col 1 4 ∷ []
fill_terms Classes = col 1 0 ∷ lit Null ∷ col 1 3 ∷ []
fill_terms Marks = col 1 0 ∷ lit Null ∷ lit (Int (pos 0)) ∷ lit Null ∷ []

abbrev pub fill_query : Fill → Query
fill_query f = projecting_query (source_of f).tree (key_tests 0 (0 ∷ [])) (fill_terms f) (map (λ _. Binary) (fill_terms f)) (lit (Int (negsuc 0)))

-- the name of the column with the number
abbrev number_name : Fill → List ℕ
number_name Calls = codes "host_id"
number_name Classes = codes "id"
number_name Marks = codes "id"

abbrev pub next_terms : List Term
next_terms = op2 (Compare Ge Binary) (col 1 0) (col 0 0) ∷ []

-- the rows of the source, by their numbers
abbrev pub taken_from : HostCalls → Contents → Fill → NumberedRows
taken_from calls contents Calls n = option_map (former_columns n) (calls n)
taken_from calls contents Classes n = option_map columns_of (contents (version_key n))
taken_from calls contents Marks n = option_map columns_of (contents (unit_key n))

pub record OfFill (f : Fill) : Type 0 where
  -- what the text means that finds the next number
  pub next : command_of (understood (schema_at (schema_with f)) (next_text f))
      ≡ Select (record { lets = []; body = projecting_query (source_of f).tree next_terms (col 1 0 ∷ []) [] (lit (Int (pos 1))) }) (number_name f ∷ [])
  pub plain_next : IsPlain (understood (schema_at (schema_with f)) (next_text f))
  pub unlisted : reads_listing (schema_at (schema_with f)) (next_text f) ≡ false
  -- and the text that fills
  pub fills : command_of (understood (schema_at (schema_with f)) (fill_text f)) ≡ copy_command (table_place (target_of f)) (fill_query f)
  pub plain_text : IsPlain (understood (schema_at (schema_with f)) (fill_text f))
  pub listed : slice_get (schema_at (schema_with f)).tables (table_place (target_of f)) ≡ Some (table_by (target_of f))
  pub own : (trees : Trees) → overlay trees [] (source_of f).tree ≡ trees (source_of f).tree
  pub unstamped : (n : ℕ) → stamped (table_by (target_of f)) (whole n ∷ []) ≡ whole n ∷ []
  pub shows : (params r : Row) → eval_all (fill_terms f) (params ∷ r ∷ []) ≡ source_by (key_by (target_of f)) (filled_columns f (map (column r) (column_places (source_of f))))
  -- the tables exist, and the filled one differs from the other two
  pub is_schema : IsSchema (schema_with f)
  pub source_exists : has_tree (schema_with f) (source_of f).tree ≡ true
  pub target_exists : has_table (schema_with f) (target_of f) ≡ true
  pub calls_stand : has_tree (schema_with f) former_kept.tree ≡ true
  pub apart : (source_of f).tree ≢ tree_of (target_of f)
  pub calls_apart : former_kept.tree ≢ tree_of (target_of f)
  -- the key of the row that is put
  pub from_key : (n : ℕ) → filled_from f (filled_key f n) ≡ Some n
  pub row_key : (n : ℕ) (c : Row) → row_key_of (filled_row f n c) ≡ filled_key f n
  pub row_table : (n : ℕ) (c : Row) → table_of (filled_row f n c) ≡ target_of f
  -- the source has the rows of these calls and contents
  pub rows_are : (calls : HostCalls) (contents : Contents) (trees : Trees) → ((key : RowKey) → has_table (schema_with f) (table_at key) ≡ true → look_up trees key ≡ option_map columns_of (contents key))
      → (schema_with f ≡ 2 → KeepCalls trees calls) → (n : ℕ) → numbered_row (source_of f) trees n ≡ taken_from calls contents f n

pub of_fill : (f : Fill) → OfFill f
unfolding understood everything
of_fill f = elim f as OfFill [
  | Calls ↦ record { next = refl; plain_next = (refl, refl); unlisted = refl; fills = refl; plain_text = (refl, refl); listed = refl; own = λ trees. refl; unstamped = λ n. refl; shows = λ params r. refl; is_schema = (omega arith, omega arith); source_exists = refl; target_exists = refl; calls_stand = refl; apart = λ same. absurd (omega (arith, same)); calls_apart = λ same. absurd (omega (arith, same)); from_key = λ n. refl; row_key = λ n c. refl; row_table = λ n c. refl; rows_are = λ calls contents trees rows kept n. (kept refl).kept n }
  | Classes ↦ record { next = refl; plain_next = (refl, refl); unlisted = refl; fills = refl; plain_text = (refl, refl); listed = refl; own = λ trees. refl; unstamped = λ n. refl; shows = λ params r. refl; is_schema = (omega arith, omega arith); source_exists = refl; target_exists = refl; calls_stand = refl; apart = λ same. absurd (omega (arith, same)); calls_apart = λ same. absurd (omega (arith, same)); from_key = λ n. refl; row_key = λ n c. refl; row_table = λ n c. refl; rows_are = λ calls contents trees rows kept n. rows (version_key n) refl }
  | Marks ↦ record { next = refl; plain_next = (refl, refl); unlisted = refl; fills = refl; plain_text = (refl, refl); listed = refl; own = λ trees. refl; unstamped = λ n. refl; shows = λ params r. refl; is_schema = (omega arith, omega arith); source_exists = refl; target_exists = refl; calls_stand = refl; apart = λ same. absurd (omega (arith, same)); calls_apart = λ same. absurd (omega (arith, same)); from_key = λ n. refl; row_key = λ n c. refl; row_table = λ n c. refl; rows_are = λ calls contents trees rows kept n. rows (unit_key n) refl }
]

-- a key is filled from one number
pub key_back : (f : Fill) (key : RowKey) (n : ℕ) → filled_from f key ≡ Some n → key ≡ filled_key f n
key_back Calls (kept_key host slot) n is = go slot is
  where
    go : (s : ℕ) → cond (s == 0) (Some host) None ≡ Some n → kept_key host s ≡ kept_key n 0
    go zero is = ap (λ h. kept_key h 0) (same_Some _ _ is)
    go (suc s) is = let past : (suc s == 0) ≡ false = grind arith in absurd (none-some n (rw past at is))
key_back Classes (class_key id) n is = ap class_key (same_Some _ _ is)
key_back Marks (mark_key id) n is = ap mark_key (same_Some _ _ is)
key_back _ _ n is = absurd (none-some n is)

-- a row of four columns of which the first is a number is that of a version
abbrev is_version : Row → Bool
is_version c = (length c == 4) && is_int (column c 0)

version_of : (row : StoredRow) → is_version (columns_of row) ≡ true → (v : StoredVersion) × (row ≡ Version v)
version_of (Version v) is = (v, refl)
version_of _ is = absurd (true≢false (sym is))

module _ (calls : HostCalls) (contents : Contents) where
  -- each row of the source is a row of its tree, with its number
  abbrev pub HaveNumbers : Fill → Type 0
  HaveNumbers f = (n : ℕ) (c : Row) → taken_from calls contents f n ≡ Some c → (r : Row) × (map (column r) (column_places (source_of f)) ≡ c) × (rowid r ≡ whole n)

  -- the row at the key of a version is a version
  version_at : HaveNumbers Classes → (n : ℕ) (row : StoredRow) → contents (version_key n) ≡ Some row → (v : StoredVersion) × (row ≡ Version v) × (whole v.id ≡ whole n)
  version_at numbers n row stands =
      let it = numbers n (columns_of row) (ap (option_map columns_of) stands) in
      let is : is_version (columns_of row) ≡ true = sym (ap is_version it.1) ∙ ap is_int it.2 in
      let v = version_of row is in
      (v.0, v.1, sym (ap (λ c. column c 0) (it.1 ∙ ap columns_of v.1)) ∙ it.2)

-- each row has the form that the fill expects
pub are_fit : (calls : HostCalls) (contents : Contents) (f : Fill) → HaveNumbers calls contents f → (n : ℕ) (c : Row) → taken_from calls contents f n ≡ Some c → filled_columns f c ≡ columns_of (filled_row f n c)
are_fit calls contents Calls numbers n c is = go (calls n) is
  where
    go : (o : Option Call) → option_map (former_columns n) o ≡ Some c → filled_columns Calls c ≡ columns_of (filled_row Calls n c)
    go None none = absurd (none-some _ none)
    go (Some k) some = subst (λ d. filled_columns Calls d ≡ columns_of (filled_row Calls n d)) (same_Some _ _ some) refl
are_fit calls contents Classes numbers n c is = go (contents (version_key n)) refl is
  where
    go : (o : Option StoredRow) → contents (version_key n) ≡ o → option_map columns_of o ≡ Some c → filled_columns Classes c ≡ columns_of (filled_row Classes n c)
    go None stands none = absurd (none-some _ none)
    go (Some row) stands some =
        let v = version_at calls contents numbers n row stands in
        let columns : columns_of (Version v.0) ≡ c = ap columns_of (sym v.1) ∙ same_Some _ _ some in
        subst (λ d. filled_columns Classes d ≡ columns_of (filled_row Classes n d)) columns (ap (λ id. id ∷ Text v.0.platform ∷ []) v.2)
are_fit calls contents Marks numbers n c is = let it = numbers n c is in ap (λ id. id ∷ whole 0 ∷ Null ∷ []) (sym (ap (λ d. column d 0) it.1) ∙ it.2)

-- the rows made from them are what the fill inserts
pub is_brought : (calls : HostCalls) (contents : Contents) (f : Fill) → HaveNumbers calls contents f → (key : RowKey) → (tree_of (table_at key) == tree_of (target_of f)) ≡ true → contents key ≡ None
    → unwrap_or (option_map (λ n. option_map (filled_row f n) (taken_from calls contents f n)) (filled_from f key)) (contents key) ≡ brought f calls contents key
is_brought calls contents Calls numbers (kept_key host slot) at none = slots slot none
  where
    slots : (s : ℕ) → contents (kept_key host s) ≡ None → unwrap_or (option_map (λ n. option_map (filled_row Calls n) (taken_from calls contents Calls n)) (filled_from Calls (kept_key host s))) (contents (kept_key host s)) ≡ brought Calls calls contents (kept_key host s)
    slots zero none = elim (calls host) as (λ o. option_map (filled_row Calls host) (option_map (former_columns host) o) ≡ option_map (λ k. Kept (call_row host 0 k)) o) [ None ↦ refl | Some k ↦ refl ]
    slots (suc s) none = let past : (suc s == 0) ≡ false = grind arith in rw past none
is_brought calls contents Classes numbers (class_key id) at none = go (contents (version_key id)) refl
  where
    go : (o : Option StoredRow) → contents (version_key id) ≡ o → option_map (filled_row Classes id) (option_map columns_of o) ≡ option_and_then (platform_class id) o
    go None stands = refl
    go (Some row) stands = let v = version_at calls contents numbers id row stands in subst (λ r. Some (filled_row Classes id (columns_of r)) ≡ platform_class id r) (sym v.1) refl
is_brought calls contents Marks numbers (mark_key id) at none = elim (contents (unit_key id)) as (λ o. option_map (filled_row Marks id) (option_map columns_of o) ≡ option_map (λ _. no_mark id) o) [ None ↦ refl | Some row ↦ refl ]
is_brought calls contents _ numbers _ at none = absurd (true≢false (sym at))
