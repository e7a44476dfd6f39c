-- Tables that hold a world hold the world after changes, once the rows of these changes are put.
use Rattle.std.proofs.Common.{◌≡◌, ℕ, false, List, [], ◌∷◌, ◌++◌, Option, Some, option_map, refl, sym, ap, ◌∙◌, inl, inr}
use Rattle.std.specs.List.{AllByRecursion}
use Rattle.std.proofs.lemmas.List.Folds.{list_any-append}
use Rattle.std.proofs.lemmas.Bool.{or_parts}
use Rattle.reply_register.specs.declared.kept.Kept.{Kept as Call}
use Rattle.sched_book.specs.Delta.{applied}
use Rattle.sched_book.specs.declared.delta.Delta.{Delta}
use Rattle.sched_book.specs.declared.world.World.{World}
use Rattle.sched_book.proofs.Fitting.{settings_stay_in}
use Rattle.table_meaning.specs.declared.rows.StoredRow.{StoredRow}
use Rattle.table_meaning.specs.declared.rows.StoredRow.TheVariants as stored
use Rattle.table_meaning.specs.Rows.{RowKey, setting_key, account_key, app_key, version_key, class_key, unit_key, mark_key, host_key, instance_key, kept_key, batch_key, row_key_of}
use Rattle.table_meaning.specs.Holding.{with_stored_rows}
use Rattle.table_meaning.specs.Worlds.{setting_in, call_row, BatchText, SlotCalls, contents_of}
use Rattle.table_meaning.proofs.Keys.{is_put, settled}
use Rattle.table_worlds.specs.declared.keys.WorldKey.{WorldKey}
use Rattle.table_worlds.specs.declared.keys.WorldKey.TheVariants.{Account, App, Version, Class, Unit, Mark, Host, Instance}
use Rattle.table_worlds.specs.Keys.{row_key, row_in}
use Rattle.table_worlds.specs.Changes.{AreChanges}
use Rattle.table_worlds.proofs.KeysListed.{row_has_key}
use Rattle.table_worlds.proofs.RowsRemain.{none_goes}

-- the row that tables hold at a key of a world is the world's row, for any calls and imports that they keep
at_world_key : (w : World) (calls : SlotCalls) (batches : List ℕ → List ℕ → Option BatchText) (key : WorldKey) → contents_of w calls batches (row_key key) ≡ row_in w key
at_world_key w calls batches (Account id) = refl
at_world_key w calls batches _ = refl

module _ (w : World) (cs : Delta) (rows : List StoredRow) (changes : AreChanges w (applied w cs) rows)
    (calls calls' : SlotCalls) (batches batches' : List ℕ → List ℕ → Option BatchText) (more : List StoredRow)
    (kept : AllByRecursion (λ r. contents_of (applied w cs) calls' batches' (row_key_of r) ≡ Some r) more)
    (other_calls : (host slot : ℕ) → is_put more (kept_key host slot) ≡ false → calls host slot ≡ calls' host slot)
    (other_batches : (kind name : List ℕ) → is_put more (batch_key kind name) ≡ false → batches kind name ≡ batches' kind name) where
  abbrev w' : World
  w' = applied w cs

  each_holds : (xs : List StoredRow) → AllByRecursion (λ r. (key : WorldKey) × (row_in w' key ≡ Some r)) xs
      → AllByRecursion (λ r. contents_of w' calls' batches' (row_key_of r) ≡ Some r) (xs ++ more)
  each_holds [] all = kept
  each_holds (r ∷ xs) all = (
    ap (contents_of w' calls' batches') (row_has_key w' all.0.0 r all.0.1) ∙ at_world_key w' calls' batches' all.0.0 ∙ all.0.1,
    each_holds xs all.1,
  )

  not_put : (key : RowKey) → is_put (rows ++ more) key ≡ false → (is_put rows key ≡ false) × (is_put more key ≡ false)
  not_put key none = or_parts (is_put rows key) (is_put more key) (sym (list_any-append _ rows more) ∙ none)

  same_at : (key : WorldKey) → is_put (rows ++ more) (row_key key) ≡ false → row_in w key ≡ row_in w' key
  same_at key none = elim (changes.others key (not_put (row_key key) none).0) [
    | inl gone ↦ none_goes w cs key gone ∙ sym gone
    | inr same ↦ same
  ]

  others_hold : (key : RowKey) → is_put (rows ++ more) key ≡ false → contents_of w calls batches key ≡ contents_of w' calls' batches' key
  others_hold (setting_key name) none = ap (λ s. option_map (λ v. stored.Setting (record { name = name; value = v })) (setting_in s name)) (sym (settings_stay_in w cs))
  others_hold (account_key id) none = same_at (Account id) none
  others_hold (app_key id) none = same_at (App id) none
  others_hold (version_key id) none = same_at (Version id) none
  others_hold (class_key id) none = same_at (Class id) none
  others_hold (unit_key id) none = same_at (Unit id) none
  others_hold (mark_key id) none = same_at (Mark id) none
  others_hold (host_key id) none = same_at (Host id) none
  others_hold (instance_key unit num) none = same_at (Instance (record { unit = unit; number = num })) none
  others_hold (kept_key host slot) none = ap (option_map (λ (k : Call). stored.Kept (call_row host slot k))) (other_calls host slot (not_put (kept_key host slot) none).1)
  others_hold (batch_key kind name) none = ap (option_map (λ (b : BatchText). stored.Batch (record { kind = kind; name = name; text = b.0; answer = b.1 }))) (other_batches kind name (not_put (batch_key kind name) none).1)

  pub world_settled : (key : RowKey) → with_stored_rows (contents_of w calls batches) (rows ++ more) key ≡ contents_of w' calls' batches' key
  world_settled = settled (contents_of w calls batches) (contents_of w' calls' batches') (rows ++ more) (each_holds rows changes.each) others_hold
