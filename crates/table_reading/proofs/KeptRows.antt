-- If rows represent a world, the tables hold it with the calls and imports that they keep.
use Rattle.std.proofs.Common.{◌≡◌, ℕ, true, List, map, Option, Some, None, option_map, refl, sym, ap, subst, true≢false}
use Rattle.std.specs.List.{list_all}
use Rattle.sqlite.specs.Effect.{Database}
use Rattle.sqlite_rules.proofs.ListLemmas.{test_has}
use Rattle.sqlite_trees.specs.Tree.{Trees}
use Rattle.sqlite_value.specs.Order.{Row}
use Rattle.sched_book.specs.declared.world.World.{World}
use Rattle.table_meaning.specs.declared.rows.StoredRow.{StoredRow}
use Rattle.table_meaning.specs.declared.rows.StoredRow.TheVariants as stored
use Rattle.table_meaning.specs.declared.tables.TableName.TheVariants as name
use Rattle.table_meaning.specs.Holding.{AreKnown}
use Rattle.table_meaning.specs.Kept.{call_of, batch_of, calls_in, batches_in}
use Rattle.table_meaning.specs.Rows.{kept_key, batch_key, table_at, columns_of, row_key_of, rows_in, look_up}
use Rattle.table_meaning.specs.Worlds.{call_row, contents_of, HoldWorld}
use Rattle.table_meaning.proofs.RowsHeld.{held_row, keyed_by}
use Rattle.table_worlds.proofs.RowsHold.{world_held, world_keyed}
use Rattle.table_reading.specs.Reading.{AllRows, AreAllRead, Represent, is_call_of, is_import}

-- ---- a row that passes is of its table

pub call_table : (w : World) (r : StoredRow) → is_call_of w r ≡ true → table_at (row_key_of r) ≡ name.Kept
call_table w (stored.Kept k) is = refl
call_table w _ is = absurd (true≢false (sym is))

pub import_table : (r : StoredRow) → is_import r ≡ true → table_at (row_key_of r) ≡ name.Batch
import_table (stored.Batch b) is = refl
import_table _ is = absurd (true≢false (sym is))

-- ---- the row at a key is what is kept there

-- the row of a call, from the columns that it shows
abbrev shown_call : ℕ → ℕ → Row → StoredRow
shown_call host slot row = stored.Kept (call_row host slot (call_of row))

abbrev pub import_row : List ℕ → List ℕ → Row → StoredRow
import_row kind text row = stored.Batch (record { kind = kind; name = text; text = (batch_of row).0; answer = (batch_of row).1 })

pub call_shown : (w : World) (host slot : ℕ) (s : StoredRow) → is_call_of w s ≡ true → row_key_of s ≡ kept_key host slot → columns_of s ≡ columns_of (shown_call host slot (columns_of s))
call_shown w host slot (stored.Kept k) is key =
    let of_host : k.host_id ≡ host = cc in
    let in_slot : k.slot ≡ slot = cc in
    λ i. columns_of (stored.Kept (record k { host_id = of_host i; slot = in_slot i }))
call_shown w host slot _ is key = absurd (true≢false (sym is))

pub import_shown : (kind text : List ℕ) (s : StoredRow) → is_import s ≡ true → row_key_of s ≡ batch_key kind text → columns_of s ≡ columns_of (import_row kind text (columns_of s))
import_shown kind text (stored.Batch b) is key =
    let of_kind : b.kind ≡ kind = cc in
    let of_name : b.name ≡ text = cc in
    λ i. columns_of (stored.Batch (record b { kind = of_kind i; name = of_name i }))
import_shown kind text _ is key = absurd (true≢false (sym is))

module _ (trees : Trees) (w : World) where
  calls_stand : (calls : List StoredRow) → map columns_of calls ≡ rows_in trees name.Kept → list_all (is_call_of w) calls ≡ true → (host slot : ℕ)
      → look_up trees (kept_key host slot) ≡ option_map columns_of (contents_of w (calls_in trees) (batches_in trees) (kept_key host slot))
  calls_stand calls read fit host slot = go (look_up trees (kept_key host slot)) refl
    where
      go : (o : Option Row) → look_up trees (kept_key host slot) ≡ o → o ≡ option_map columns_of (option_map (λ k. stored.Kept (call_row host slot k)) (option_map call_of o))
      go None is = refl
      go (Some row) is =
          let s = held_row trees name.Kept calls read (λ r has. call_table w r (test_has (is_call_of w) calls r fit has)) (kept_key host slot) refl row is in
          let passes = test_has (is_call_of w) calls s.0 fit s.1 in
          subst (λ (r : Row). Some r ≡ Some (columns_of (shown_call host slot r))) (sym s.2) (ap Some (call_shown w host slot s.0 passes s.3))

  imports_stand : (batches : List StoredRow) → map columns_of batches ≡ rows_in trees name.Batch → list_all is_import batches ≡ true → (kind text : List ℕ)
      → look_up trees (batch_key kind text) ≡ option_map columns_of (contents_of w (calls_in trees) (batches_in trees) (batch_key kind text))
  imports_stand batches read fit kind text = go (look_up trees (batch_key kind text)) refl
    where
      go : (o : Option Row) → look_up trees (batch_key kind text) ≡ o → o ≡ option_map columns_of (option_map (λ b. stored.Batch (record { kind = kind; name = text; text = b.0; answer = b.1 })) (option_map batch_of o))
      go None is = refl
      go (Some row) is =
          let s = held_row trees name.Batch batches read (λ r has. import_table r (test_has is_import batches r fit has)) (batch_key kind text) refl row is in
          let passes = test_has is_import batches s.0 fit s.1 in
          subst (λ (r : Row). Some r ≡ Some (columns_of (import_row kind text r))) (sym s.2) (ap Some (import_shown kind text s.0 passes s.3))

pub held_by_rows : (db : Database) (w : World) (all : AllRows) → AreKnown db → AreAllRead db.trees all → Represent w all → HoldWorld db w (calls_in db.trees) (batches_in db.trees)
held_by_rows db w all known read stand = record {
  known = known;
  rows = world_held db.trees w all.world read.world stand.rows (calls_in db.trees) (batches_in db.trees) (calls_stand db.trees w all.calls read.calls stand.calls) (imports_stand db.trees w all.batches read.batches stand.batches);
  keyed = world_keyed db.trees w all.world read.world stand.rows
      (keyed_by db.trees name.Kept all.calls read.calls (λ r has. call_table w r (test_has (is_call_of w) all.calls r stand.calls has)))
      (keyed_by db.trees name.Batch all.batches read.batches (λ r has. import_table r (test_has is_import all.batches r stand.batches has)));
}
