-- Rule. The SQL texts: those that make the tables, those that read each table whole or at a key, and those that put a row.
use Rattle.std.specs.Prelude.{ℕ, ◌+◌, ◌/◌, ◌%◌, Bool, true, false, ◌&&◌, ◌==◌, nat_lt, if◌then◌else◌, List, [], ◌∷◌, ◌++◌, map, filter, flat_map, length, codes, slice_index, slice_index_or, Option, Some, None}
use Rattle.std.specs.List.{range_with_len, enumerate_from, list_any}
use Rattle.sqlite_schema.specs.declared.schema.Kind.{Kind as SqlKind}
use Rattle.sqlite_schema.specs.declared.schema.Kind.TheVariants as sql
use Rattle.sqlite_schema.specs.declared.schema.Table.{Table}
use Rattle.sqlite_schema.specs.declared.schema.Index.{Index}
use Rattle.table_meaning.specs.declared.tables.TableName.{TableName}
use Rattle.table_meaning.specs.declared.tables.TableName.TheVariants.{Unit, Host, Instance}
use Rattle.table_meaning.specs.Layouts.{Column, Layout, layout_of, names, key_width, of_key, after_number}
use Rattle.table_meaning.specs.Schema.{type_of, is_by_number, is_needed, sql_table, table_by, Indexing, index_by, Part, a_table, a_former, an_index, parts_at, newest}

-- ---- lists of words

-- one after the other, with a text between them
abbrev joined_by : List ℕ → List (List ℕ) → List ℕ
joined_by between [] = []
joined_by between (word ∷ more) = word ++ flat_map (λ w. between ++ w) more

abbrev listed : List (List ℕ) → List ℕ
listed = joined_by (codes ", ")

abbrev in_parentheses : List (List ℕ) → List ℕ
in_parentheses all = codes "(" ++ listed all ++ codes ")"

-- the names of a table's key columns, and of the columns at some places
abbrev key_names : Layout → List (List ℕ)
key_names l = of_key l (names l)

abbrev names_at : Layout → List ℕ → List (List ℕ)
names_at l = map (λ at. slice_index_or (names l) at [])

-- ---- texts that make a table

abbrev type_text : SqlKind → List ℕ
type_text sql.Integer = codes " INTEGER"
type_text sql.Real = codes " REAL"
type_text sql.Text = codes " TEXT"
type_text sql.Blob = codes " BLOB"
type_text sql.Any = codes " ANY"

-- The columns at these places are just this one. A constraint of one column follows that column, and one of several follows all columns.
abbrev is_alone : ℕ → List ℕ → Bool
is_alone at places = (length places == 1) && (slice_index places 0 == at)

abbrev are_several : List ℕ → Bool
are_several places = nat_lt 1 (length places)

-- the places of the key among the columns
abbrev places_of_key : Layout → List ℕ
places_of_key l = range_with_len 0 (key_width l.key)

abbrev said_if : Bool → List ℕ → List ℕ
said_if holds text = if holds then text else []

abbrev parent_text : Option TableName → List ℕ
parent_text None = []
parent_text (Some parent) = codes " REFERENCES " ++ (layout_of parent).name

abbrev column_text : Layout → ℕ → Column → List ℕ
column_text l at c =
    c.name ++ type_text (type_of c.kind) ++ said_if (is_needed l.key at c.kind) (codes " NOT NULL") ++ said_if (is_alone at (places_of_key l)) (codes " PRIMARY KEY")
    ++ said_if (list_any (is_alone at) l.uniques) (codes " UNIQUE") ++ parent_text c.parent

abbrev rule_text : Layout → List ℕ → List ℕ → List ℕ
rule_text l rule places = rule ++ in_parentheses (names_at l places)

abbrev create_of : Layout → List ℕ
create_of l =
    codes "CREATE TABLE " ++ l.name ++ codes " "
    ++ in_parentheses (map (λ p. column_text l p.0 p.1) (enumerate_from 0 l.columns)
    ++ map (rule_text l (codes "PRIMARY KEY ")) (filter are_several (places_of_key l ∷ []))
    ++ map (rule_text l (codes "UNIQUE ")) (filter are_several l.uniques))
    ++ codes " STRICT"

abbrev index_text : Indexing → List ℕ
index_text i = codes "CREATE INDEX " ++ i.name ++ codes " ON instance " ++ in_parentheses (names_at (layout_of Instance) i.columns)

-- what a CREATE text makes: a table, or an index on the instances
pub data Made : Type 0 where
  made_table : Table → Made
  made_index : Index → Made

abbrev definition : Part → List ℕ × Made
definition (a_table t) = (create_of (layout_of t), made_table (table_by t))
definition (a_former l) = (create_of l, made_table (sql_table l))
definition (an_index i) = (index_text i, made_index (index_by i))

-- the CREATE texts in order, with what each makes
abbrev pub definitions : List (List ℕ × Made)
definitions = map definition (parts_at newest)

abbrev pub definition_texts : List (List ℕ)
definition_texts = map (λ d. d.0) definitions

-- ---- texts that read a table

-- the name of the row's number
abbrev number_name : Layout → List ℕ
number_name l = if is_by_number l.key then slice_index_or (names l) 0 [] else codes "rowid"

abbrev select_text : Layout → List ℕ
select_text l = codes "SELECT " ++ listed (names l) ++ codes " FROM " ++ l.name

abbrev order_text : Layout → List ℕ
order_text l = codes " ORDER BY " ++ number_name l

-- a parameter below 100, as SQL counts them from 1
abbrev parameter : ℕ → List ℕ
parameter n = codes "?" ++ (if nat_lt n 10 then (48 + n) ∷ [] else (48 + n / 10) ∷ (48 + n % 10) ∷ [])

-- reads a whole table, each row with its columns in order
abbrev pub read_text : TableName → List ℕ
read_text t = let l = layout_of t in select_text l ++ order_text l

abbrev is_parameter : ℕ × List ℕ → List ℕ
is_parameter test = test.1 ++ codes " = " ++ parameter test.0

-- the columns of the key are the first parameters
abbrev key_test : Layout → List ℕ
key_test l = codes " WHERE " ++ joined_by (codes " AND ") (map is_parameter (enumerate_from 1 (key_names l)))

-- reads the rows that have a key, whose columns are the parameters
abbrev pub key_text : TableName → List ℕ
key_text t = let l = layout_of t in select_text l ++ key_test l ++ order_text l

-- ---- texts that put a row

abbrev set_text : List ℕ → List ℕ
set_text name = name ++ codes " = excluded." ++ name

-- puts a row at its key; if one exists there, all its columns are replaced
abbrev pub put_text : TableName → List ℕ
put_text t =
    let l = layout_of t in
    codes "INSERT INTO " ++ l.name ++ codes " " ++ in_parentheses (names l) ++ codes " VALUES " ++ in_parentheses (map parameter (range_with_len 1 (length l.columns)))
    ++ codes " ON CONFLICT " ++ in_parentheses (key_names l) ++ codes " DO UPDATE SET " ++ listed (map set_text (after_number l.key (names l)))

-- changes the row that has the key: all its columns are replaced
abbrev pub update_text : TableName → List ℕ
update_text t = let l = layout_of t in codes "UPDATE " ++ l.name ++ codes " SET " ++ listed (map is_parameter (after_number l.key (enumerate_from 1 (names l)))) ++ key_test l

-- the tables whose rows mostly exist before they are put
abbrev pub mostly_exist : TableName → Bool
mostly_exist Unit = true
mostly_exist Host = true
mostly_exist Instance = true
mostly_exist _ = false

-- the text that is tried before a row of such a table is put
abbrev pub update_first : TableName → Option (List ℕ)
update_first t = if mostly_exist t then Some (update_text t) else None
