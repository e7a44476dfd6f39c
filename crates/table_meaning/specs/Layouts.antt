-- Rule. The layouts of the stored tables, and the tables of each schema. A layout has what differs between two tables: a name, a tree, a key and columns.
-- Everything else about a table follows from its layout. A schema is the front of one list of tables and indexes, and a new part is added at its end.
use Rattle.std.specs.Prelude.{ℕ, List, [], ◌∷◌, map, take, drop, length, codes, slice_index, Option, Some, None}
use Rattle.std.specs.List.{range_with_len}
use Prim.Native.String.{String}
use Rattle.table_meaning.specs.declared.tables.TableName.{TableName}
use Rattle.table_meaning.specs.declared.tables.TableName.TheVariants as table
use Rattle.table_meaning.specs.Kinds.{Kind, number, integer, words, flag, octets, optional, either}

pub record Column : Type 0 where
  pub name : List ℕ
  pub kind : Kind
  -- the table whose key it names, if it names one
  pub parent : Option TableName

-- what identifies a row of a table
pub data Key : Type 0 where
  -- the first column, which is the number of the row in its tree
  numbered : Key
  -- the first columns, as many as this number; the number of the row is not one of its columns
  by_first : ℕ → Key

pub record Layout : Type 0 where
  pub name : List ℕ
  pub tree : ℕ
  pub key : Key
  pub columns : List Column
  -- the lists of columns, other than the key, that identify a row; each as places among the columns
  pub uniques : List (List ℕ)

-- ---- the tables

abbrev has : String → Kind → Column
has name kind = record { name = codes name; kind = kind; parent = None }

abbrev refers_to : TableName → String → Kind → Column
refers_to parent name kind = record { name = codes name; kind = kind; parent = Some parent }

abbrev pub layout_of : TableName → Layout
layout_of table.Setting = record { name = codes "setting"; tree = 0; key = by_first 1; columns = has "name" words ∷ has "value" (either number words) ∷ []; uniques = [] }
layout_of table.Account = record { name = codes "account"; tree = 2; key = numbered; columns = has "id" number ∷ has "auth" words ∷ has "name" words ∷ []; uniques = (1 ∷ []) ∷ [] }
layout_of table.App = record { name = codes "app"; tree = 4; key = numbered; columns = has "id" number ∷ has "name" words ∷ has "agreement" (optional number) ∷ []; uniques = (1 ∷ []) ∷ [] }
layout_of table.Version = record {
  name = codes "version";
  tree = 6;
  key = numbered;
  columns = has "id" number ∷ refers_to table.App "app_id" number ∷ has "platform" words ∷ has "num" number ∷ [];
  uniques = (1 ∷ 2 ∷ 3 ∷ []) ∷ [];
}
layout_of table.Unit = record {
  name = codes "unit";
  tree = 8;
  key = numbered;
  columns =
      has "id" number
      ∷ has "name" words
      ∷ refers_to table.App "app_id" number
      ∷ has "min_quorum" number
      ∷ has "target_nresults" number
      ∷ has "max_error_results" number
      ∷ has "max_total_results" number
      ∷ has "max_success_results" number
      ∷ has "delay_bound" number
      ∷ has "rsc_fpops_est" integer
      ∷ has "rsc_memory_bound" integer
      ∷ has "rsc_disk_bound" integer
      ∷ has "credit" number
      ∷ has "status" number
      ∷ [];
  uniques = (1 ∷ []) ∷ [];
}
layout_of table.Host = record {
  name = codes "host";
  tree = 10;
  key = numbered;
  columns =
      has "id" number
      ∷ refers_to table.Account "account_id" number
      ∷ has "cpid" words
      ∷ has "platforms" words
      ∷ has "fpops" integer
      ∷ has "memory" integer
      ∷ has "disk" integer
      ∷ has "quota" number
      ∷ has "held" number
      ∷ has "credit" integer
      ∷ [];
  uniques = (1 ∷ 2 ∷ []) ∷ [];
}
layout_of table.Instance = record {
  name = codes "instance";
  tree = 12;
  key = by_first 2;
  columns =
      refers_to table.Unit "unit_id" number
      ∷ has "num" number
      ∷ refers_to table.Host "host_id" (optional number)
      ∷ has "sent" (optional integer)
      ∷ has "deadline" (optional integer)
      ∷ has "lapse" number
      ∷ has "outcome" (optional number)
      ∷ has "output" (optional words)
      ∷ has "place" (optional number)
      ∷ has "queued" flag
      ∷ [];
  uniques = [];
}
layout_of table.Kept = record {
  name = codes "kept4";
  tree = 21;
  key = by_first 2;
  columns = refers_to table.Host "host_id" number ∷ has "slot" number ∷ has "seqno" number ∷ has "text" words ∷ has "reply" words ∷ [];
  uniques = [];
}
layout_of table.Batch = record { name = codes "batch"; tree = 15; key = by_first 2; columns = has "kind" words ∷ has "name" words ∷ has "text" octets ∷ has "answer" words ∷ []; uniques = [] }
layout_of table.VersionClass = record {
  name = codes "version_class";
  tree = 23;
  key = numbered;
  columns = refers_to table.Version "version_id" number ∷ has "class" words ∷ [];
  uniques = [];
}
layout_of table.UnitMark = record {
  name = codes "unit_mark";
  tree = 24;
  key = numbered;
  columns = refers_to table.Unit "unit_id" number ∷ has "marked" flag ∷ has "class" (optional words) ∷ [];
  uniques = [];
}

-- The table in which the first schema keeps the last call of each host. The later schemas leave it as it is and do not read it.
abbrev pub former_kept : Layout
former_kept = record {
  name = codes "kept";
  tree = 14;
  key = numbered;
  columns = refers_to table.Host "host_id" number ∷ has "seqno" number ∷ has "text" words ∷ has "reply" words ∷ [];
  uniques = [];
}

-- ---- the schemas

-- an index over the instances
pub record Indexing : Type 0 where
  pub name : List ℕ
  pub tree : ℕ
  -- places among the columns of an instance
  pub columns : List ℕ

pub data Part : Type 0 where
  a_table : TableName → Part
  -- a table that nobody reads any more
  a_former : Layout → Part
  an_index : Indexing → Part

-- in the order in which they were added
abbrev pub parts : List Part
parts =
    a_table table.Setting
    ∷ a_table table.Account
    ∷ a_table table.App
    ∷ a_table table.Version
    ∷ a_table table.Unit
    ∷ a_table table.Host
    ∷ a_table table.Instance
    ∷ a_former former_kept
    ∷ a_table table.Batch
    -- the waiting instances by place
    ∷ an_index (record { name = codes "instance_queue"; tree = 17; columns = 9 ∷ 0 ∷ 1 ∷ [] })
    -- the instances of a host by place, and by the moment of sending
    ∷ an_index (record { name = codes "instance_owner"; tree = 18; columns = 2 ∷ 0 ∷ 1 ∷ [] })
    ∷ an_index (record { name = codes "instance_sent"; tree = 19; columns = 2 ∷ 3 ∷ [] })
    ∷ an_index (record { name = codes "instance_deadline"; tree = 20; columns = 4 ∷ [] })
    ∷ a_table table.Kept
    ∷ a_table table.VersionClass
    ∷ a_table table.UnitMark
    ∷ []

-- how many parts each schema has, by its number; number 0 has none
abbrev sizes : List ℕ
sizes = 0 ∷ 13 ∷ 14 ∷ 16 ∷ []

abbrev pub parts_at : ℕ → List Part
parts_at schema = take (slice_index sizes schema) parts

-- the number of the schema that the program uses
abbrev pub newest : ℕ
newest = 3

-- ---- the columns of a table

abbrev pub names : Layout → List (List ℕ)
names l = map (λ c. c.name) l.columns

abbrev pub kinds : Layout → List Kind
kinds l = map (λ c. c.kind) l.columns

-- The places of the columns in a row of the tree. Place 0 is the row's number. If the first column is that number, place 1 is NULL and the column is at place 0.
abbrev pub places_by : Key → ℕ → List ℕ
places_by numbered count = 0 ∷ drop 1 (range_with_len 1 count)
places_by (by_first n) count = range_with_len 1 count

abbrev pub column_places : Layout → List ℕ
column_places l = places_by l.key (length l.columns)

-- how many columns the key has
abbrev pub key_width : Key → ℕ
key_width numbered = 1
key_width (by_first n) = n

-- the items for the columns of the key, of a list with one item for each column
abbrev pub of_key : {X : Type 0} → Layout → List X → List X
of_key l = take (key_width l.key)

-- the items for the columns after the row's number, of a list with one item for each column
abbrev pub after_number : {X : Type 0} → Key → List X → List X
after_number numbered all = drop 1 all
after_number (by_first n) all = all
