-- What a reading of all tables keeps of their rows.
use Rattle.std.proofs.Common.{◌≡◌, ◌&&◌, List, [], ◌∷◌, ◌++◌, map, fold, Option, Some, None, refl, sym, ap, subst, ◌∙◌, inl, inr}
use Rattle.std.specs.Prelude.{IfSome}
use Rattle.std.specs.List.{AllByRecursion, list_all}
use Rattle.std.proofs.lemmas.List.{append-nil, append_assoc}
use Rattle.sqlite_trees.specs.Tree.{Trees}
use Rattle.table_meaning.specs.declared.rows.StoredRow.{StoredRow}
use Rattle.table_meaning.specs.declared.rows.StoredRow.TheVariants as stored
use Rattle.table_meaning.specs.declared.tables.TableName.{TableName}
use Rattle.table_meaning.specs.declared.tables.TableName.TheVariants as name
use Rattle.sqlite_rules.specs.Lists.{Has}
use Rattle.sqlite_rules.proofs.ProbeLemmas.{has_mapped}
use Rattle.sqlite_rules.proofs.ListLemmas.{all_has}
use Rattle.sqlite_value.specs.Order.{Row}
use Rattle.table_meaning.specs.Rows.{table_of, table_at, columns_of, rows_in, look_up}
use Rattle.table_meaning.proofs.RowsKeyed.{row_has}
use Rattle.table_rows.specs.Utf8.{HasUtf8}
use Rattle.table_rows.specs.Visits.{VisitsAll, VisitsRows, VisitsTables}
use Rattle.table_reading.specs.declared.rows.Reading.{Reading}
use Rattle.table_reading.specs.Counting.{noted}
use Rattle.table_reading.specs.Reading.{AllRows, AreAllRead, AreTyped, AreUtf8, all_tables, is_call, is_import, later_host, no_rows, reading_of, with_row}
use Rattle.sqlite_tied.proofs.RuleLemmas.{and_assoc, and_true}

abbrev pub Takes : Reading → StoredRow → Reading → Type 0
Takes old row new = new ≡ with_row old row

-- a reading with more rows of one table
abbrev with_more : TableName → Reading → List StoredRow → Reading
with_more name.Setting r rows = record r { rows = record r.rows { settings = r.rows.settings ++ rows } }
with_more name.Account r rows = record r { rows = record r.rows { accounts = r.rows.accounts ++ rows } }
with_more name.App r rows = record r { rows = record r.rows { apps = r.rows.apps ++ rows } }
with_more name.Version r rows = record r { rows = record r.rows { versions = r.rows.versions ++ rows } }
with_more name.VersionClass r rows = record r { rows = record r.rows { classes = r.rows.classes ++ rows } }
with_more name.Unit r rows = record r { units = fold noted r.units rows }
with_more name.UnitMark r rows = record r { units = fold noted r.units rows }
with_more name.Host r rows = record r { rows = record r.rows { hosts = r.rows.hosts ++ rows } }
with_more name.Instance r rows = record r { units = fold noted r.units rows }
with_more name.Kept r rows = record r { are_calls = r.are_calls && list_all is_call rows; last_host = fold later_host r.last_host rows }
with_more name.Batch r rows = record r { are_imports = r.are_imports && list_all is_import rows }

none_more : (t : TableName) (r : Reading) → with_more t r [] ≡ r
none_more name.Setting r = ap (λ xs. record r { rows = record r.rows { settings = xs } }) (append-nil r.rows.settings)
none_more name.Account r = ap (λ xs. record r { rows = record r.rows { accounts = xs } }) (append-nil r.rows.accounts)
none_more name.App r = ap (λ xs. record r { rows = record r.rows { apps = xs } }) (append-nil r.rows.apps)
none_more name.Version r = ap (λ xs. record r { rows = record r.rows { versions = xs } }) (append-nil r.rows.versions)
none_more name.VersionClass r = ap (λ xs. record r { rows = record r.rows { classes = xs } }) (append-nil r.rows.classes)
none_more name.Unit r = refl
none_more name.UnitMark r = refl
none_more name.Host r = ap (λ xs. record r { rows = record r.rows { hosts = xs } }) (append-nil r.rows.hosts)
none_more name.Instance r = refl
none_more name.Kept r = ap (λ b. record r { are_calls = b }) (and_true r.are_calls)
none_more name.Batch r = ap (λ b. record r { are_imports = b }) (and_true r.are_imports)

one_more : (r : Reading) (row : StoredRow) (rows : List StoredRow) → with_more (table_of row) (with_row r row) rows ≡ with_more (table_of row) r (row ∷ rows)
one_more r (stored.Setting x) rows = ap (λ xs. record r { rows = record r.rows { settings = xs } }) (append_assoc r.rows.settings (stored.Setting x ∷ []) rows)
one_more r (stored.Account x) rows = ap (λ xs. record r { rows = record r.rows { accounts = xs } }) (append_assoc r.rows.accounts (stored.Account x ∷ []) rows)
one_more r (stored.App x) rows = ap (λ xs. record r { rows = record r.rows { apps = xs } }) (append_assoc r.rows.apps (stored.App x ∷ []) rows)
one_more r (stored.Version x) rows = ap (λ xs. record r { rows = record r.rows { versions = xs } }) (append_assoc r.rows.versions (stored.Version x ∷ []) rows)
one_more r (stored.VersionClass x) rows = ap (λ xs. record r { rows = record r.rows { classes = xs } }) (append_assoc r.rows.classes (stored.VersionClass x ∷ []) rows)
one_more r (stored.Unit x) rows = refl
one_more r (stored.UnitMark x) rows = refl
one_more r (stored.Host x) rows = ap (λ xs. record r { rows = record r.rows { hosts = xs } }) (append_assoc r.rows.hosts (stored.Host x ∷ []) rows)
one_more r (stored.Instance x) rows = refl
one_more r (stored.Kept x) rows = ap (λ b. record r { are_calls = b; last_host = fold later_host r.last_host (stored.Kept x ∷ rows) }) (and_assoc r.are_calls (is_call (stored.Kept x)) (list_all is_call rows))
one_more r (stored.Batch x) rows = ap (λ b. record r { are_imports = b }) (and_assoc r.are_imports (is_import (stored.Batch x)) (list_all is_import rows))

rows_taken : (t : TableName) (old new : Reading) (rows : List StoredRow) → AllByRecursion (λ r. table_of r ≡ t) rows → VisitsAll Takes old rows new → new ≡ with_more t old rows
rows_taken t old new [] all same = same ∙ sym (none_more t old)
rows_taken t old new (row ∷ rows) all (mid, took, rest) =
    rows_taken t mid new rows all.1 rest ∙ ap (λ r. with_more t r rows) took ∙ subst (λ (t' : TableName). with_more t' (with_row old row) rows ≡ with_more t' old (row ∷ rows)) all.0 (one_more old row rows)

-- the tables are read one after the other
abbrev Fills : Trees → Reading → List TableName → Reading → Type 0
Fills trees old [] new = new ≡ old
Fills trees old (t ∷ ts) new = (rows : List StoredRow) × (map columns_of rows ≡ rows_in trees t) × AllByRecursion (λ r. table_of r ≡ t) rows × Fills trees (with_more t old rows) ts new

tables_taken : (trees : Trees) (tables : List TableName) (old new : Reading) → VisitsTables Takes trees old tables new → Fills trees old tables new
tables_taken trees [] old new same = same
tables_taken trees (t ∷ ts) old new (mid, (rows, are, of_table, _, took), rest) =
    (rows, are, of_table, subst (λ r. Fills trees r ts new) (rows_taken t old mid rows of_table took) (tables_taken trees ts mid new rest))

-- each row of these tables has its texts in UTF-8
tables_utf8 : (trees : Trees) (tables : List TableName) (old new : Reading) → VisitsTables Takes trees old tables new → (t : TableName) → Has tables t → (row : Row) → Has (rows_in trees t) row → HasUtf8 row
tables_utf8 trees [] old new same t has row there = absurd has
tables_utf8 trees (first ∷ ts) old new (mid, (rows, are, of_table, texts, took), rest) t (inl is) row there =
    let among : Has (map columns_of rows) row = subst (λ l. Has l row) (ap (rows_in trees) is ∙ sym are) there in
    let one = has_mapped columns_of rows row among in
    subst HasUtf8 (sym one.2) (all_has (λ r. HasUtf8 (columns_of r)) rows one.0 texts one.1)
tables_utf8 trees (first ∷ ts) old new (mid, visited, rest) t (inr later) row there = tables_utf8 trees ts mid new rest t later row there

each_table : (t : TableName) → Has all_tables t
each_table name.Setting = inl refl
each_table name.Account = inr (inl refl)
each_table name.App = inr (inr (inl refl))
each_table name.Version = inr (inr (inr (inl refl)))
each_table name.VersionClass = inr (inr (inr (inr (inl refl))))
each_table name.Unit = inr (inr (inr (inr (inr (inl refl)))))
each_table name.UnitMark = inr (inr (inr (inr (inr (inr (inl refl))))))
each_table name.Host = inr (inr (inr (inr (inr (inr (inr (inl refl)))))))
each_table name.Instance = inr (inr (inr (inr (inr (inr (inr (inr (inl refl))))))))
each_table name.Kept = inr (inr (inr (inr (inr (inr (inr (inr (inr (inl refl)))))))))
each_table name.Batch = inr (inr (inr (inr (inr (inr (inr (inr (inr (inr (inl refl))))))))))

pub all_utf8 : (trees : Trees) (old new : Reading) → VisitsTables Takes trees old all_tables new → AreUtf8 trees
all_utf8 trees old new took key = go (look_up trees key) refl
  where
    go : (o : Option Row) → look_up trees key ≡ o → IfSome o HasUtf8
    go None is = tt
    go (Some row) is = tables_utf8 trees all_tables old new took (table_at key) (each_table (table_at key)) row (row_has trees key row is)

pub tables_more : (trees : Trees) (tables : List TableName) (t : TableName) (old mid new : Reading) → VisitsTables Takes trees old tables mid → VisitsRows Takes t mid (rows_in trees t) new → VisitsTables Takes trees old (tables ++ t ∷ []) new
tables_more trees [] t old mid new same visits = (new, subst (λ r. VisitsRows Takes t r (rows_in trees t) new) same visits, refl)
tables_more trees (first ∷ tables) t old mid new (next, one, rest) visits = (next, one, tables_more trees tables t next mid new rest visits)

pub all_taken : (trees : Trees) (new : Reading) → VisitsTables Takes trees (reading_of no_rows) all_tables new → (all : AllRows) × AreAllRead trees all × AreTyped all × (new ≡ reading_of all)
all_taken trees new took =
    let (settings, settings_are, _, (accounts, accounts_are, _, (apps, apps_are, _, (versions, versions_are, _, (classes, classes_are, _, (units, units_are, of_units, (marks, marks_are, of_marks, (hosts, hosts_are, _, (instances, instances_are, of_instances, (calls, calls_are, _, (batches, batches_are, _, same))))))))))) = tables_taken trees all_tables (reading_of no_rows) new took in (
      record { world = record { settings = settings; accounts = accounts; apps = apps; versions = versions; classes = classes; units = units; marks = marks; hosts = hosts; instances = instances }; calls = calls; batches = batches },
      record {
        world = record { settings = settings_are; accounts = accounts_are; apps = apps_are; versions = versions_are; classes = classes_are; units = units_are; marks = marks_are; hosts = hosts_are; instances = instances_are };
        calls = calls_are;
        batches = batches_are;
      },
      record { units = of_units; marks = of_marks; instances = of_instances },
      same,
    )
