-- The rows of tables that hold a world are the world's, and no others.
use Rattle.std.proofs.Common.{◌≡◌, ℕ, zero, suc, ◌<◌, List, [], ◌∷◌, map, length, Option, Some, None, refl, sym, ap, subst, ◌∙◌, inl, inr, arith}
use Rattle.std.specs.Prelude.{filter_map}
use Rattle.std.specs.List.{range_with_len, cons_option}
use Rattle.std.proofs.lemmas.Option.{none-some, slice_get_past}
use Rattle.sqlite_rules.proofs.ProbeLemmas.{mapped_has, has_mapped}
use Rattle.sqlite_value.specs.Order.{column}
use Rattle.sqlite_rules.proofs.ListLemmas.{all_has}
use Rattle.sqlite.specs.Effect.{Database}
use Rattle.sched_book.specs.Places.{nth, places}
use Rattle.sched_book.specs.Step.{empty_world}
use Rattle.sched_book.specs.declared.instance.Place.{Place}
use Rattle.sched_book.specs.declared.world.World.{World}
use Rattle.sched_book.proofs.PlacesOf.{nth-suc}
use Rattle.table_meaning.specs.declared.rows.StoredRow.{StoredRow}
use Rattle.table_meaning.specs.declared.tables.TableName.TheVariants as name
use Rattle.table_meaning.specs.Holding.{Contents}
use Rattle.table_meaning.specs.Listings.{existing_rows}
use Rattle.table_meaning.specs.Rows.{RowKey, rows_in, columns_of, table_at, key_columns, row_key_of}
use Rattle.table_meaning.specs.Worlds.{BatchText, SlotCalls, contents_of, HoldWorld}
use Rattle.table_meaning.proofs.EachRow.{number_in, key_of_table}
use Rattle.table_meaning.proofs.Listings.{IsByNumber, all_listed, keyed_by_number}
use Rattle.table_meaning.proofs.RowsKeyed.{all_told, rows_stand, all_are_read}
use Rattle.table_worlds.specs.declared.keys.NumberedTable.{NumberedTable}
use Rattle.table_worlds.specs.declared.keys.NumberedTable.TheVariants as table
use Rattle.table_worlds.specs.declared.keys.WorldKey.TheVariants.{Instance}
use Rattle.table_worlds.specs.Keys.{row_key, row_in, keyed, numbered}
use Rattle.table_worlds.specs.RowsOf.{setting_rows, HaveSame, WorldRows, AreRowsOf, AreRead}
use Rattle.table_worlds.proofs.KeysListed.{instance_listed, no_row}
use Rattle.table_worlds.proofs.NewWorld.{each_stands}
use Rattle.table_worlds.proofs.RowsHold.{kept_by, given_by, table_name, setting_listed, table_of_setting}

over_map : {X Y Z : Type 0} (f : Y → Option Z) (g : X → Y) (xs : List X) → filter_map f (map g xs) ≡ filter_map (λ x. f (g x)) xs
over_map f g [] = refl
over_map f g (x ∷ xs) = ap (cons_option (f (g x))) (over_map f g xs)

-- ---- tables whose keys are numbers

abbrev key_at : NumberedTable → ℕ → RowKey
key_at t n = row_key (keyed t n)

by_number : (t : NumberedTable) → IsByNumber (table_name t) (key_at t)
by_number table.Account = keyed_by_number name.Account refl
by_number t = keyed_by_number (table_name t) refl

module _ (db : Database) (w : World) (calls : SlotCalls) (batches : List ℕ → List ℕ → Option BatchText) (holds : HoldWorld db w calls batches) where
  abbrev contents : Contents
  contents = contents_of w calls batches

  count_of : NumberedTable → ℕ
  count_of table.Account = length w.accounts
  count_of table.App = length w.apps
  count_of table.Version = length w.versions
  count_of table.Class = length w.versions
  count_of table.Unit = length w.units
  count_of table.Mark = length w.units
  count_of table.Host = length w.hosts

  none_at_zero : (t : NumberedTable) → contents (key_at t 0) ≡ None
  none_at_zero table.Account = refl
  none_at_zero _ = refl

  past : {X : Type 0} (xs : List X) (n : ℕ) → length xs < n → nth xs n ≡ None
  past xs zero lt = absurd (omega (arith, lt))
  past xs (suc n) lt = nth-suc xs n ∙ slice_get_past xs n (omega (arith, lt))

  none_past : (t : NumberedTable) (n : ℕ) → count_of t < n → contents (key_at t n) ≡ None
  unfolding count_of
  none_past table.Account n lt = no_row _ _ (past w.accounts n lt)
  none_past table.App n lt = no_row _ _ (past w.apps n lt)
  none_past table.Version n lt = no_row _ _ (past w.versions n lt)
  none_past table.Class n lt = no_row _ _ (past w.versions n lt)
  none_past table.Unit n lt = no_row _ _ (past w.units n lt)
  none_past table.Mark n lt = no_row _ _ (past w.units n lt)
  none_past table.Host n lt = no_row _ _ (past w.hosts n lt)

  same_row : (t : NumberedTable) (n : ℕ) → contents (key_at t n) ≡ row_in w (keyed t n)
  same_row table.Account n = refl
  same_row _ n = refl

  -- the rows are those of the world, in the order of their numbers
  rows_are : (t : NumberedTable) (rows : List StoredRow) → map columns_of rows ≡ rows_in db.trees (table_name t) → rows ≡ filter_map (row_in w) (numbered t (count_of t))
  rows_are t rows read =
      let every = all_listed (table_name t) (key_at t) (by_number t) db contents holds (count_of t) (none_at_zero t) (none_past t) in
      all_told rows (existing_rows contents (key_at t) 1 (count_of t)) (read ∙ every)
      ∙ (λ i. filter_map (λ n. same_row t n i) (range_with_len 1 (count_of t))) ∙ sym (over_map (row_in w) (keyed t) (range_with_len 1 (count_of t)))

  -- ---- settings and instances

  same_setting : (key : RowKey) → table_at key ≡ name.Setting → contents key ≡ contents_of (empty_world w.settings) (λ _ _. None) (λ _ _. None) key
  same_setting key at = subst (λ k. contents k ≡ contents_of (empty_world w.settings) (λ _ _. None) (λ _ _. None) k) (sym (key_of_table name.Setting key at)) refl

  settings_are : (rows : List StoredRow) → map columns_of rows ≡ rows_in db.trees name.Setting → HaveSame rows (setting_rows w.settings)
  settings_are rows read = (
    λ r has. let stands = rows_stand db contents holds name.Setting rows read r has in setting_listed w.settings stands.0 r (sym (same_setting stands.0 stands.1) ∙ stands.2),
    λ r has.
        let at = table_of_setting w.settings r has in
        all_are_read db contents holds name.Setting rows read (row_key_of r) at r
        (same_setting (row_key_of r) at ∙ all_has (λ s. contents_of (empty_world w.settings) (λ _ _. None) (λ _ _. None) (row_key_of s) ≡ Some s) (setting_rows w.settings) r (each_stands w.settings) has),
  )

  instances_are : (rows : List StoredRow) → map columns_of rows ≡ rows_in db.trees name.Instance → HaveSame rows (filter_map (row_in w) (map Instance (places w)))
  instances_are rows read = (
    λ r has.
        let stands = rows_stand db contents holds name.Instance rows read r has in
        let columns = key_columns stands.0 in
        let place : Place = record { unit = number_in (column columns 0); number = number_in (column columns 1) } in
        let is : row_in w (Instance place) ≡ Some r = ap contents (sym (key_of_table name.Instance stands.0 stands.1)) ∙ stands.2 in
        elim (instance_listed w place.unit place.number) [
          | inl none ↦ absurd (none-some r (sym none ∙ is))
          | inr among ↦ kept_by (row_in w) (map Instance (places w)) (Instance place) r (mapped_has Instance (places w) place among) is
        ],
    λ r has.
        let given = given_by (row_in w) (map Instance (places w)) r has in
        let place = has_mapped Instance (places w) given.0 given.1 in
        all_are_read db contents holds name.Instance rows read (row_key (Instance place.0)) refl r (ap (row_in w) (sym place.2) ∙ given.2),
  )

  -- ---- all tables

  pub rows_of_world : (rows : WorldRows) → AreRead db.trees rows → AreRowsOf w rows
  unfolding count_of
  rows_of_world rows read = record {
    settings = settings_are rows.settings read.settings;
    accounts = rows_are table.Account rows.accounts read.accounts;
    apps = rows_are table.App rows.apps read.apps;
    versions = rows_are table.Version rows.versions read.versions;
    classes = rows_are table.Class rows.classes read.classes;
    units = rows_are table.Unit rows.units read.units;
    marks = rows_are table.Mark rows.marks read.marks;
    hosts = rows_are table.Host rows.hosts read.hosts;
    instances = instances_are rows.instances read.instances;
  }
