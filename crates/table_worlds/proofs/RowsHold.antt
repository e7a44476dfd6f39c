-- Tables whose rows are those of a world hold the world.
use Rattle.std.proofs.Common.{◌≡◌, ◌⊎◌, ℕ, List, [], ◌∷◌, map, length, Option, Some, None, option_map, refl, sym, ap, subst, ◌∙◌, inl, inr, filter_map}
use Rattle.std.specs.Prelude.{unwrap_or}
use Rattle.std.specs.List.{range_with_len, cons_option}
use Rattle.std.proofs.lemmas.Bool.{cases_Bool}
use Rattle.std.proofs.lemmas.Option.{none-some}
use Rattle.sqlite_rules.specs.Lists.{Has}
use Rattle.sqlite_rules.proofs.ProbeLemmas.{mapped_has, has_mapped}
use Rattle.sqlite_rules.proofs.ListLemmas.{all_has, some_has}
use Rattle.sqlite_trees.specs.Tree.{Trees}
use Rattle.sched_book.specs.Places.{nth, places}
use Rattle.sched_book.specs.Step.{empty_world}
use Rattle.sched_book.specs.declared.instance.Place.{Place}
use Rattle.sched_book.specs.declared.settings.Settings.{Settings}
use Rattle.sched_book.specs.declared.world.World.{World}
use Rattle.table_meaning.specs.declared.rows.SettingValue.{SettingValue}
use Rattle.table_meaning.specs.declared.rows.StoredRow.{StoredRow}
use Rattle.table_meaning.specs.declared.rows.StoredRow.TheVariants as stored
use Rattle.table_meaning.specs.declared.tables.TableName.{TableName}
use Rattle.table_meaning.specs.declared.tables.TableName.TheVariants as name
use Rattle.table_meaning.specs.Holding.{HaveKeys}
use Rattle.table_meaning.specs.Rows.{RowKey, tree_of, setting_key, account_key, app_key, version_key, class_key, unit_key, mark_key, host_key, instance_key, kept_key, batch_key, table_at, row_key_of, columns_of, rows_in, look_up, same_row_key}
use Rattle.table_meaning.specs.Worlds.{BatchText, SlotCalls, setting_in, contents_of}
use Rattle.table_meaning.proofs.Keys.{is_put, one_key}
use Rattle.table_meaning.proofs.RowsHeld.{held_at, keyed_by}
use Rattle.table_worlds.specs.declared.keys.NumberedTable.{NumberedTable}
use Rattle.table_worlds.specs.declared.keys.NumberedTable.TheVariants as table
use Rattle.table_worlds.specs.declared.keys.WorldKey.{WorldKey}
use Rattle.table_worlds.specs.declared.keys.WorldKey.TheVariants.{Instance}
use Rattle.table_worlds.specs.Keys.{row_key, row_in, keyed, numbered}
use Rattle.table_worlds.specs.RowsOf.{setting_rows, HaveSame, WorldRows, AreRowsOf, AreRead}
use Rattle.table_worlds.proofs.KeysListed.{by_number, instance_listed, no_row, row_has_key}
use Rattle.table_worlds.proofs.NewWorld.{each_stands, others_none}

-- ---- lists of the results of a function

pub kept_by : {X Y : Type 0} (f : X → Option Y) (xs : List X) (x : X) (y : Y) → Has xs x → f x ≡ Some y → Has (filter_map f xs) y
kept_by f [] x y has is = absurd has
kept_by f (z ∷ xs) x y (inl same) is = subst (λ o. Has (cons_option o (filter_map f xs)) y) (sym (ap f (sym same) ∙ is)) (inl refl)
kept_by {X} {Y} f (z ∷ xs) x y (inr later) is = go (f z) (kept_by f xs x y later is)
  where
    go : (o : Option Y) → Has (filter_map f xs) y → Has (cons_option o (filter_map f xs)) y
    go None has = has
    go (Some v) has = inr has

pub given_by : {X Y : Type 0} (f : X → Option Y) (xs : List X) (y : Y) → Has (filter_map f xs) y → (x : X) × Has xs x × (f x ≡ Some y)
given_by f [] y has = absurd has
given_by {X} {Y} f (z ∷ xs) y has = go (f z) refl has (given_by f xs y)
  where
    go : (o : Option Y) → f z ≡ o → Has (cons_option o (filter_map f xs)) y → (Has (filter_map f xs) y → (x : X) × Has xs x × (f x ≡ Some y)) → (x : X) × Has (z ∷ xs) x × (f x ≡ Some y)
    go None is later more = let one = more later in (one.0, inr one.1, one.2)
    go (Some v) is (inl same) more = (z, inl refl, is ∙ ap Some (sym same))
    go (Some v) is (inr later) more = let one = more later in (one.0, inr one.1, one.2)

-- ---- the keys of a table

abbrev pub table_name : NumberedTable → TableName
table_name table.Account = name.Account
table_name table.App = name.App
table_name table.Version = name.Version
table_name table.Class = name.VersionClass
table_name table.Unit = name.Unit
table_name table.Mark = name.UnitMark
table_name table.Host = name.Host

pub table_of_key : (t : NumberedTable) (id : ℕ) → table_at (row_key (keyed t id)) ≡ table_name t
table_of_key table.Account id = refl
table_of_key _ id = refl

module _ (trees : Trees) (w : World) where
  -- the rows at some keys, as a table
  module _ (t : TableName) (keys : List WorldKey) (rows : List StoredRow) (read : map columns_of rows ≡ rows_in trees t) (in_rows : (r : StoredRow) → Has rows r → Has (filter_map (row_in w) keys) r)
      (of_rows : (r : StoredRow) → Has (filter_map (row_in w) keys) r → Has rows r) (of_table : (k : WorldKey) → Has keys k → table_at (row_key k) ≡ t) where
    at_key : (key : WorldKey) → table_at (row_key key) ≡ t → ((row_in w key ≡ None) ⊎ Has keys key) → look_up trees (row_key key) ≡ option_map columns_of (row_in w key)
    at_key key at listed =
        held_at trees t rows read (λ r has. let k = given_by (row_in w) keys r (in_rows r has) in ap table_at (row_has_key w k.0 r k.2) ∙ of_table k.0 k.1) (row_key key) at (row_in w key)
        (λ r is. (elim listed [ inl none ↦ absurd (none-some r (sym none ∙ is)) | inr has ↦ of_rows r (kept_by (row_in w) keys key r has is) ], row_has_key w key r is))
        (λ r has same.
        let k = given_by (row_in w) keys r (in_rows r has) in
        ap (contents_of w (λ _ _. None) (λ _ _. None)) (sym (sym (row_has_key w k.0 r k.2) ∙ same)) ∙ k.2)

  -- a table whose rows are numbered
  numbered_at : {X : Type 0} (t : NumberedTable) (xs : List X) (rows : List StoredRow) → map columns_of rows ≡ rows_in trees (table_name t) → rows ≡ filter_map (row_in w) (numbered t (length xs))
      → (id : ℕ) → ((nth xs id ≡ None) → row_in w (keyed t id) ≡ None) → look_up trees (row_key (keyed t id)) ≡ option_map columns_of (row_in w (keyed t id))
  numbered_at t xs rows read are id none =
      at_key (table_name t) (numbered t (length xs)) rows read (λ r. subst (λ l. Has l r) are) (λ r. subst (λ l. Has l r) (sym are))
      (λ k has. let from = has_mapped (keyed t) (range_with_len 1 (length xs)) k has in ap (λ j. table_at (row_key j)) from.2 ∙ table_of_key t from.0)
      (keyed t id) (table_of_key t id) (elim (by_number t xs id) [ inl gone ↦ inl (none gone) | inr has ↦ inr has ])

  instances_at : (rows : List StoredRow) → map columns_of rows ≡ rows_in trees name.Instance → HaveSame rows (filter_map (row_in w) (map Instance (places w))) → (p : Place)
      → look_up trees (row_key (Instance p)) ≡ option_map columns_of (row_in w (Instance p))
  instances_at rows read same p =
      at_key name.Instance (map Instance (places w)) rows read same.0 same.1
      (λ k has. let from = has_mapped Instance (places w) k has in ap (λ j. table_at (row_key j)) from.2)
      (Instance p) refl (elim (instance_listed w p.unit p.number) [ inl gone ↦ inl gone | inr has ↦ inr (mapped_has Instance (places w) p has) ])

  -- each of these rows has a key
  rows_keyed : (t : TableName) (keys : List WorldKey) (rows : List StoredRow) → map columns_of rows ≡ rows_in trees t → ((r : StoredRow) → Has rows r → Has (filter_map (row_in w) keys) r)
      → ((k : WorldKey) → Has keys k → table_at (row_key k) ≡ t) → HaveKeys t (trees (tree_of t))
  rows_keyed t keys rows read in_rows of_table =
      keyed_by trees t rows read (λ r has. let k = given_by (row_in w) keys r (in_rows r has) in ap table_at (row_has_key w k.0 r k.2) ∙ of_table k.0 k.1)

  numbered_keyed : (t : NumberedTable) (count : ℕ) (rows : List StoredRow) → map columns_of rows ≡ rows_in trees (table_name t) → rows ≡ filter_map (row_in w) (numbered t count) → HaveKeys (table_name t) (trees (tree_of (table_name t)))
  numbered_keyed t count rows read are =
      rows_keyed (table_name t) (numbered t count) rows read (λ r. subst (λ l. Has l r) are)
      (λ k has. let from = has_mapped (keyed t) (range_with_len 1 count) k has in ap (λ j. table_at (row_key j)) from.2 ∙ table_of_key t from.0)

-- ---- settings

module _ (s : Settings) where
  abbrev empty : RowKey → Option StoredRow
  empty = contents_of (empty_world s) (λ _ _. None) (λ _ _. None)

  -- a setting that exists is one of the eight
  pub setting_listed : (key : RowKey) (r : StoredRow) → empty key ≡ Some r → Has (setting_rows s) r
  setting_listed key r is = elim (cases_Bool (is_put (setting_rows s) key)) [
    | inl put ↦
        let one = some_has (λ row. same_row_key key (row_key_of row)) (setting_rows s) put in
        let same : key ≡ row_key_of one.0 = one_key key (row_key_of one.0) one.2 in
        let stands : Some one.0 ≡ Some r = sym (ap empty same ∙ all_has (λ q. empty (row_key_of q) ≡ Some q) (setting_rows s) one.0 (each_stands s) one.1) ∙ is in
        subst (Has (setting_rows s)) (ap (λ o. unwrap_or o r) stands) one.1
    | inr other ↦ absurd (none-some r (others_none s key other ∙ is))
  ]

  pub table_of_setting : (r : StoredRow) → Has (setting_rows s) r → table_at (row_key_of r) ≡ name.Setting
  table_of_setting r has = all_has (λ q. table_at (row_key_of q) ≡ name.Setting) (setting_rows s) r (refl, (refl, (refl, (refl, (refl, (refl, (refl, (refl, tt)))))))) has

  settings_at : (trees : Trees) (rows : List StoredRow) → map columns_of rows ≡ rows_in trees name.Setting → HaveSame rows (setting_rows s) → (text : List ℕ)
      → look_up trees (setting_key text) ≡ option_map columns_of (empty (setting_key text))
  settings_at trees rows read same text =
      held_at trees name.Setting rows read (λ r has. table_of_setting r (same.0 r has)) (setting_key text) refl (empty (setting_key text))
      (λ r is. (same.1 r (setting_listed (setting_key text) r is), of_setting (setting_in s text) r is))
      (λ r has key. ap empty (sym key) ∙ all_has (λ q. empty (row_key_of q) ≡ Some q) (setting_rows s) r (each_stands s) (same.0 r has))
    where
      of_setting : (o : Option SettingValue) (r : StoredRow) → option_map (λ v. stored.Setting (record { name = text; value = v })) o ≡ Some r → row_key_of r ≡ setting_key text
      of_setting None r is = absurd (none-some r is)
      of_setting (Some v) r is = ap (λ o. row_key_of (unwrap_or o (stored.Setting (record { name = text; value = v })))) (sym is)

-- ---- the whole world

pub world_held : (trees : Trees) (w : World) (rows : WorldRows) → AreRead trees rows → AreRowsOf w rows → (calls : SlotCalls) (batches : List ℕ → List ℕ → Option BatchText)
    → ((host slot : ℕ) → look_up trees (kept_key host slot) ≡ option_map columns_of (contents_of w calls batches (kept_key host slot)))
    → ((kind text : List ℕ) → look_up trees (batch_key kind text) ≡ option_map columns_of (contents_of w calls batches (batch_key kind text)))
    → (key : RowKey) → look_up trees key ≡ option_map columns_of (contents_of w calls batches key)
world_held trees w rows read are calls batches kept imports (setting_key text) = settings_at w.settings trees rows.settings read.settings are.settings text
world_held trees w rows read are calls batches kept imports (account_key id) = numbered_at trees w table.Account w.accounts rows.accounts read.accounts are.accounts id (no_row _ (nth w.accounts id))
world_held trees w rows read are calls batches kept imports (app_key id) = numbered_at trees w table.App w.apps rows.apps read.apps are.apps id (no_row _ (nth w.apps id))
world_held trees w rows read are calls batches kept imports (version_key id) = numbered_at trees w table.Version w.versions rows.versions read.versions are.versions id (no_row _ (nth w.versions id))
world_held trees w rows read are calls batches kept imports (class_key id) = numbered_at trees w table.Class w.versions rows.classes read.classes are.classes id (no_row _ (nth w.versions id))
world_held trees w rows read are calls batches kept imports (unit_key id) = numbered_at trees w table.Unit w.units rows.units read.units are.units id (no_row _ (nth w.units id))
world_held trees w rows read are calls batches kept imports (mark_key id) = numbered_at trees w table.Mark w.units rows.marks read.marks are.marks id (no_row _ (nth w.units id))
world_held trees w rows read are calls batches kept imports (host_key id) = numbered_at trees w table.Host w.hosts rows.hosts read.hosts are.hosts id (no_row _ (nth w.hosts id))
world_held trees w rows read are calls batches kept imports (instance_key unit num) = instances_at trees w rows.instances read.instances are.instances (record { unit = unit; number = num })
world_held trees w rows read are calls batches kept imports (kept_key host slot) = kept host slot
world_held trees w rows read are calls batches kept imports (batch_key kind text) = imports kind text

-- each row of each table has a key, if the kept calls and imports have one
pub world_keyed : (trees : Trees) (w : World) (rows : WorldRows) → AreRead trees rows → AreRowsOf w rows → HaveKeys name.Kept (trees (tree_of name.Kept)) → HaveKeys name.Batch (trees (tree_of name.Batch))
    → (t : TableName) → HaveKeys t (trees (tree_of t))
world_keyed trees w rows read are calls imports name.Setting = keyed_by trees name.Setting rows.settings read.settings (λ r has. table_of_setting w.settings r (are.settings.0 r has))
world_keyed trees w rows read are calls imports name.Account = numbered_keyed trees w table.Account (length w.accounts) rows.accounts read.accounts are.accounts
world_keyed trees w rows read are calls imports name.App = numbered_keyed trees w table.App (length w.apps) rows.apps read.apps are.apps
world_keyed trees w rows read are calls imports name.Version = numbered_keyed trees w table.Version (length w.versions) rows.versions read.versions are.versions
world_keyed trees w rows read are calls imports name.VersionClass = numbered_keyed trees w table.Class (length w.versions) rows.classes read.classes are.classes
world_keyed trees w rows read are calls imports name.Unit = numbered_keyed trees w table.Unit (length w.units) rows.units read.units are.units
world_keyed trees w rows read are calls imports name.UnitMark = numbered_keyed trees w table.Mark (length w.units) rows.marks read.marks are.marks
world_keyed trees w rows read are calls imports name.Host = numbered_keyed trees w table.Host (length w.hosts) rows.hosts read.hosts are.hosts
world_keyed trees w rows read are calls imports name.Instance =
    rows_keyed trees w name.Instance (map Instance (places w)) rows.instances read.instances are.instances.0 (λ k has. let from = has_mapped Instance (places w) k has in ap (λ j. table_at (row_key j)) from.2)
world_keyed trees w rows read are calls imports name.Kept = calls
world_keyed trees w rows read are calls imports name.Batch = imports
