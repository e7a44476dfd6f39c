-- Tables that hold a sound world, with calls and imports that may be kept with it, are always read as that world.
use Rattle.std.proofs.Common.{◌≡◌, ℕ, true, List, map, Option, Some, None, option_map, refl, sym, ap, subst, ◌∙◌, inl, IsTrue}
use Rattle.std.specs.Prelude.{IfSome}
use Rattle.std.specs.List.{list_all}
use Rattle.std.proofs.lemmas.Option.{none-some, same_Some}
use Rattle.sqlite.specs.Effect.{Database}
use Rattle.sqlite_rules.specs.Lists.{Has}
use Rattle.sqlite_rules.proofs.ProbeLemmas.{has_mapped}
use Rattle.sqlite_rules.proofs.ListLemmas.{test_has, test_from}
use Rattle.sqlite_value.specs.Order.{Row, column}
use Rattle.reply_register.specs.declared.kept.Kept.{Kept as Call}
use Rattle.sched_book.specs.Sound.{Sound}
use Rattle.sched_book.specs.declared.world.World.{World}
use Rattle.table_meaning.specs.declared.rows.StoredRow.{StoredRow}
use Rattle.table_meaning.specs.declared.rows.StoredRow.TheVariants as stored
use Rattle.table_meaning.specs.declared.tables.TableName.TheVariants as name
use Rattle.table_meaning.specs.Formats.{IsStored}
use Rattle.table_meaning.specs.Holding.{Contents, Hold}
use Rattle.table_meaning.specs.Kept.{call_of, batch_of, calls_in, batches_in}
use Rattle.table_meaning.specs.Rows.{RowKey, kept_key, batch_key, table_at, key_columns, columns_of, rows_in, look_up}
use Rattle.table_meaning.specs.Worlds.{BatchText, SlotCalls, call_row, contents_of, HoldWorld}
use Rattle.table_meaning.proofs.EachRow.{columns_told, number_in, key_of_table}
use Rattle.table_meaning.proofs.RowsHeld.{held_row}
use Rattle.table_meaning.proofs.RowsKeyed.{rows_told, rows_stand}
use Rattle.table_rows.specs.Utf8.{HasUtf8}
use Rattle.table_worlds.proofs.RowsAre.{rows_of_world}
use Rattle.table_reading.proofs.KeptRows.{import_row, call_table, import_table, call_shown, import_shown}
use Rattle.table_reading.specs.Reading.{AllRows, AreAllRead, Represent, ReadFrom, RepresentNone, HasBadTable, HasOtherSchema, MayBeKeptWith, is_call_of, is_import}

-- a row made of an item, if there is one, passes if that of each item does
made_passes : {X : Type 0} (P : StoredRow → Type 0) (f : X → StoredRow) (o : Option X) (r : StoredRow) → option_map f o ≡ Some r → IfSome o (λ x. P (f x)) → P r
made_passes P f None r is fits = absurd (none-some r is)
made_passes P f (Some x) r is fits = subst P (same_Some (f x) r is) fits

-- ---- calls and imports in rows that represent a world may be kept with it

module _ (db : Database) (w : World) (all : AllRows) (read : AreAllRead db.trees all) (stand : Represent w all) where
  call_fits : (host slot : ℕ) (o : Option Row) → look_up db.trees (kept_key host slot) ≡ o → IfSome (option_map call_of o) (λ k. IsTrue (is_call_of w (stored.Kept (call_row host slot k))))
  call_fits host slot None is = tt
  call_fits host slot (Some row) is =
      let s = held_row db.trees name.Kept all.calls read.calls (λ r has. call_table w r (test_has (is_call_of w) all.calls r stand.calls has)) (kept_key host slot) refl row is in
      let passes = test_has (is_call_of w) all.calls s.0 stand.calls s.1 in
      let one = columns_told s.0 (stored.Kept (call_row host slot (call_of (columns_of s.0)))) (call_shown w host slot s.0 passes s.3) in
      subst (λ (r : Row). is_call_of w (stored.Kept (call_row host slot (call_of r))) ≡ true) (sym s.2) (sym (ap (is_call_of w) one) ∙ passes)

  import_fits : (kind text : List ℕ) (o : Option Row) → look_up db.trees (batch_key kind text) ≡ o
      → IfSome (option_map batch_of o) (λ b. IsTrue (is_import (stored.Batch (record { kind = kind; name = text; text = b.0; answer = b.1 }))))
  import_fits kind text None is = tt
  import_fits kind text (Some row) is =
      let s = held_row db.trees name.Batch all.batches read.batches (λ r has. import_table r (test_has is_import all.batches r stand.batches has)) (batch_key kind text) refl row is in
      let passes = test_has is_import all.batches s.0 stand.batches s.1 in
      let one = columns_told s.0 (import_row kind text (columns_of s.0)) (import_shown kind text s.0 passes s.3) in
      subst (λ (r : Row). is_import (import_row kind text r) ≡ true) (sym s.2) (sym (ap is_import one) ∙ passes)

  pub read_beside : MayBeKeptWith w (calls_in db.trees) (batches_in db.trees)
  read_beside = record {
    calls_fit = λ host slot. call_fits host slot (look_up db.trees (kept_key host slot)) refl;
    imports_fit = λ kind text. import_fits kind text (look_up db.trees (batch_key kind text)) refl;
  }

-- ---- rows of tables that hold a world

-- each of the rows has the format of its table
abbrev pub HaveFormats : Contents → Type 0
HaveFormats contents = (key : RowKey) → IfSome (contents key) (λ r. IsStored (table_at key) (columns_of r))

-- each text of each of the rows is in UTF-8
abbrev pub HaveTexts : Contents → Type 0
HaveTexts contents = (key : RowKey) → IfSome (contents key) (λ r. HasUtf8 (columns_of r))

-- no row of tables whose rows have their formats lacks its format
pub formed : (db : Database) (contents : Contents) → Hold db contents → HaveFormats contents → ¬ HasBadTable db.trees
formed db contents holds formats bad =
    let t = bad.0 in
    let rows = rows_told db contents holds t in
    let one = has_mapped columns_of rows.0 bad.1.0 (subst (λ l. Has l bad.1.0) (sym rows.1) bad.1.1) in
    let stands = rows_stand db contents holds t rows.0 rows.1 one.0 one.1 in
    let stored : IsStored (table_at stands.0) (columns_of one.0) = of_some (λ r. IsStored (table_at stands.0) (columns_of r)) (contents stands.0) one.0 stands.2 (formats stands.0) in
    bad.1.2 (subst (λ u. IsStored u bad.1.0) stands.1 (subst (IsStored (table_at stands.0)) (sym one.2) stored))
  where
    of_some : (P : StoredRow → Type 0) (o : Option StoredRow) (r : StoredRow) → o ≡ Some r → IfSome o P → P r
    of_some P None r is fits = absurd (none-some r is)
    of_some P (Some s) r is fits = subst P (same_Some s r is) fits

module _ (db : Database) (w : World) (calls : SlotCalls) (batches : List ℕ → List ℕ → Option BatchText) (holds : HoldWorld db w calls batches) (sound : Sound w) (beside : MayBeKeptWith w calls batches) where
  abbrev contents : Contents
  contents = contents_of w calls batches

  calls_pass : (rows : List StoredRow) → map columns_of rows ≡ rows_in db.trees name.Kept → list_all (is_call_of w) rows ≡ true
  calls_pass rows read = test_from (is_call_of w) rows (λ r has.
      let stands = rows_stand db contents holds name.Kept rows read r has in
      let columns = key_columns stands.0 in
      let host = number_in (column columns 0) in
      let slot = number_in (column columns 1) in
      made_passes (λ s. is_call_of w s ≡ true) (λ (k : Call). stored.Kept (call_row host slot k)) (calls host slot) r
      (sym (ap contents (key_of_table name.Kept stands.0 stands.1)) ∙ stands.2) (beside.calls_fit host slot))

  imports_pass : (rows : List StoredRow) → map columns_of rows ≡ rows_in db.trees name.Batch → list_all is_import rows ≡ true
  imports_pass rows read = test_from is_import rows (λ r has.
      let stands = rows_stand db contents holds name.Batch rows read r has in
      go stands.0 stands.1 r stands.2)
    where
      go : (key : RowKey) → table_at key ≡ name.Batch → (r : StoredRow) → contents key ≡ Some r → is_import r ≡ true
      go (batch_key kind text) at r is = made_passes (λ s. is_import s ≡ true) (λ (b : BatchText). stored.Batch (record { kind = kind; name = text; text = b.0; answer = b.1 })) (batches kind text) r is (beside.imports_fit kind text)
      go _ at r is = cc

  -- any rows that are read from them represent the world
  pub each_stands : (all : AllRows) → AreAllRead db.trees all → Represent w all
  each_stands all read = record {
    sound = sound;
    rows = rows_of_world db w calls batches holds all.world read.world;
    calls = calls_pass all.calls read.calls;
    batches = imports_pass all.batches read.batches;
  }

  -- and some rows are read
  pub held_is_read : ReadFrom db.trees w
  held_is_read =
      let rows = rows_told db contents holds in
      let all : AllRows = record {
        world = record {
          settings = (rows name.Setting).0;
          accounts = (rows name.Account).0;
          apps = (rows name.App).0;
          versions = (rows name.Version).0;
          classes = (rows name.VersionClass).0;
          units = (rows name.Unit).0;
          marks = (rows name.UnitMark).0;
          hosts = (rows name.Host).0;
          instances = (rows name.Instance).0;
        };
        calls = (rows name.Kept).0;
        batches = (rows name.Batch).0;
      } in
      let read : AreAllRead db.trees all = record {
        world = record {
          settings = (rows name.Setting).1;
          accounts = (rows name.Account).1;
          apps = (rows name.App).1;
          versions = (rows name.Version).1;
          classes = (rows name.VersionClass).1;
          units = (rows name.Unit).1;
          marks = (rows name.UnitMark).1;
          hosts = (rows name.Host).1;
          instances = (rows name.Instance).1;
        };
        calls = (rows name.Kept).1;
        batches = (rows name.Batch).1;
      } in
      (all, read, each_stands all read)

  pub stands_for_one : ¬ RepresentNone db.trees
  stands_for_one none = none.2 w (each_stands none.0 none.1)

  pub names_schema : ¬ HasOtherSchema db.trees
  names_schema other = other.2 ((each_stands other.0 other.1).rows.settings.1 _ (inl refl))
