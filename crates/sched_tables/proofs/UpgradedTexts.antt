-- The texts of upgraded tables are in UTF-8, as they were before, so the tables can be opened.
use Rattle.std.proofs.Common.{◌≡◌, ◌≢◌, ℕ, zero, suc, Bool, true, false, cond, Option, Some, None, codes, option_map, refl, sym, ap, subst, arith}
use Rattle.std.specs.Prelude.{IfSome}
use Rattle.sqlite.specs.Effect.{Database}
use Rattle.sqlite.specs.Values.{or_null}
use Rattle.sqlite_value.specs.Order.{Row}
use Rattle.sqlite_value.specs.declared.value.Value.TheVariants.{Text}
use Rattle.reply_register.specs.declared.kept.Kept.{Kept}
use Rattle.texts.proofs.Words.{IsUtf8-word}
use Rattle.sched_book.specs.Classes.{class_of}
use Rattle.sched_book.specs.Former.{IsOfItsPlatform, IsUnmarked, IsUnclassed}
use Rattle.sched_book.specs.Places.{nth, unit_at}
use Rattle.sched_book.specs.declared.instance.UnitBook.{UnitBook}
use Rattle.sched_book.specs.declared.rows.ClassRule.{ClassRule}
use Rattle.sched_book.specs.declared.rows.Version.{Version}
use Rattle.sched_book.specs.declared.world.World.{World}
use Rattle.table_meaning.specs.Holding.{Contents, with_row}
use Rattle.table_meaning.specs.Rows.{RowKey, setting_key, account_key, app_key, version_key, unit_key, host_key, instance_key, kept_key, batch_key, class_key, mark_key, columns_of, same_row_key, table_at}
use Rattle.table_meaning.specs.Schemas.{IsSchema, has_table, HoldAt}
use Rattle.table_meaning.specs.Fills.{former_columns}
use Rattle.table_meaning.specs.Upgrades.{FitsSchema, schema_row_of}
use Rattle.table_meaning.specs.declared.tables.TableName.TheVariants.{Setting, Account, App, Version as Versions, Unit, Host, Instance, Kept as Calls, Batch, VersionClass, UnitMark}
use Rattle.table_meaning.specs.Worlds.{SlotCalls, call_row, class_row, mark_row, version_row, contents_of}
use Rattle.table_meaning.specs.declared.rows.StoredRow.{StoredRow}
use Rattle.table_meaning.specs.declared.rows.StoredRow.TheVariants as stored
use Rattle.table_meaning.proofs.Keys.{one_key}
use Rattle.table_meaning.proofs.SchemaTables.{stands_since_first}
use Rattle.table_reading.proofs.HeldRows.{HaveTexts}
use Rattle.table_rows.specs.Utf8.{IsUtf8Value, HasUtf8}
use Rattle.table_worlds.proofs.ByPlace.{all_nth}
use Rattle.sched_tables.specs.Commits.{Imports}
use Rattle.sched_tables.specs.Laws.{AreUtf8At, UpgradedCanBeOpened}
use Rattle.sched_tables.proofs.Reopened.{held_can_be_opened}
use Rattle.sched_tables.proofs.TextsKept.{of_columns, utf8_of}

abbrev HasTexts : Option StoredRow → Type 0
HasTexts o = IfSome o (λ r. HasUtf8 (columns_of r))

-- if the texts in tables of a schema are in UTF-8, so are those of their contents
texts_at : (n : ℕ) (db : Database) (contents : Contents) → HoldAt n db contents → AreUtf8At n db.trees → (key : RowKey) → has_table n (table_at key) ≡ true → HasTexts (contents key)
texts_at n db contents holds utf8 key has = of_columns (contents key) (subst (λ (o : Option Row). IfSome o HasUtf8) (holds.rows key has) (utf8 key has))

-- ---- what an upgrade adds

module _ (w : World) (unclassed : IsUnclassed w) where
  class_texts : (id : ℕ) (o : Option Version) → nth w.versions id ≡ o → HasTexts (option_map (λ v. stored.Version (version_row w id v)) o)
      → HasTexts (option_map (λ v. stored.VersionClass (class_row id v)) o)
  class_texts id None is texts = tt
  class_texts id (Some v) is texts =
      (tt, (subst (λ class. IsUtf8Value (Text class)) (sym (all_nth IsOfItsPlatform w.versions id v is unclassed.versions)) texts.1.1.0, tt))

  mark_texts : (id : ℕ) (o : Option UnitBook) → unit_at w id ≡ o → HasTexts (option_map (λ b. stored.UnitMark (mark_row id b)) o)
  mark_texts id None is = tt
  mark_texts id (Some b) is =
      let none = all_nth (λ (u : UnitBook). IsUnmarked u.unit) w.units id b is unclassed.units in
      (tt, (tt, (subst (λ (rule : ClassRule). IsUtf8Value (or_null Text (class_of rule))) (sym none) tt, tt)))

-- the call that the first schema keeps of a host, in the host's slots
slot_texts : (calls : SlotCalls) → ((host slot : ℕ) → slot ≢ 0 → calls host slot ≡ None) → ((host : ℕ) → IfSome (option_map (former_columns host) (calls host 0)) HasUtf8) → (host slot : ℕ)
    → HasTexts (option_map (λ k. stored.Kept (call_row host slot k)) (calls host slot))
slot_texts calls others utf8 host zero = go (calls host 0) (utf8 host)
  where
    go : (o : Option Kept) → IfSome (option_map (former_columns host) o) HasUtf8 → HasTexts (option_map (λ k. stored.Kept (call_row host 0 k)) o)
    go None utf8 = tt
    go (Some k) utf8 = (tt, (tt, (tt, (utf8.1.1.0, (utf8.1.1.1.0, tt)))))
slot_texts calls others utf8 host (suc slot) = subst (λ (o : Option Kept). HasTexts (option_map (λ k. stored.Kept (call_row host (suc slot) k)) o)) (sym (others host (suc slot) (λ same. omega (arith, same)))) tt

-- ---- all texts of a world are in UTF-8 if those of the tables of a schema are

module _ (n : ℕ) (is : IsSchema n) (w : World) (calls : SlotCalls) (batches : Imports) (fits : FitsSchema n w) where
  abbrev all : Contents
  all = contents_of w calls batches

  abbrev HasThem : RowKey → Type 0
  HasThem key = HasTexts (all key)

  module _ (texts : (key : RowKey) → has_table n (table_at key) ≡ true → HasTexts (with_row all (schema_row_of n) key)) (kept : n ≡ 1 → (host slot : ℕ) → HasThem (kept_key host slot)) where
    -- the tables that later schemas added
    gained : (m : ℕ) → n ≡ m → ((host slot : ℕ) → HasThem (kept_key host slot)) × ((id : ℕ) → HasThem (version_key id) → HasThem (class_key id)) × ((id : ℕ) → HasThem (mark_key id))
    gained zero same = absurd (omega (arith, same, is.0))
    gained (suc zero) same = let old = fits (omega (arith, same)) in (kept same, λ id. class_texts w old id (nth w.versions id) refl, λ id. mark_texts w old id (unit_at w id) refl)
    gained (suc (suc zero)) same =
        let old = fits (omega (arith, same)) in
        (λ host slot. texts (kept_key host slot) (ap (λ m. has_table m Calls) same), λ id. class_texts w old id (nth w.versions id) refl, λ id. mark_texts w old id (unit_at w id) refl)
    gained (suc (suc (suc zero))) same = (
      λ host slot. texts (kept_key host slot) (ap (λ m. has_table m Calls) same),
      λ id _. texts (class_key id) (ap (λ m. has_table m VersionClass) same),
      λ id. texts (mark_key id) (ap (λ m. has_table m UnitMark) same),
    )
    gained (suc (suc (suc (suc m)))) same = absurd (omega (arith, same, is.1))

    all_texts : HaveTexts all
    all_texts (setting_key name) = one (same_row_key (setting_key name) (setting_key (codes "schema"))) refl
      where
        one : (b : Bool) → same_row_key (setting_key name) (setting_key (codes "schema")) ≡ b → HasThem (setting_key name)
        one true same = subst HasThem (sym (one_key (setting_key name) (setting_key (codes "schema")) same)) (IsUtf8-word (codes "schema") refl, (tt, tt))
        one false other = subst (λ b. HasTexts (cond b (Some (schema_row_of n)) (all (setting_key name)))) other (texts (setting_key name) (stands_since_first n is Setting refl))
    all_texts (account_key id) = texts (account_key id) (stands_since_first n is Account refl)
    all_texts (app_key id) = texts (app_key id) (stands_since_first n is App refl)
    all_texts (version_key id) = texts (version_key id) (stands_since_first n is Versions refl)
    all_texts (unit_key id) = texts (unit_key id) (stands_since_first n is Unit refl)
    all_texts (host_key id) = texts (host_key id) (stands_since_first n is Host refl)
    all_texts (instance_key unit num) = texts (instance_key unit num) (stands_since_first n is Instance refl)
    all_texts (batch_key kind name) = texts (batch_key kind name) (stands_since_first n is Batch refl)
    all_texts (kept_key host slot) = (gained n refl).0 host slot
    all_texts (class_key id) = (gained n refl).1 id (texts (version_key id) (stands_since_first n is Versions refl))
    all_texts (mark_key id) = (gained n refl).2 id

pub upgraded_can_be_opened : UpgradedCanBeOpened
upgraded_can_be_opened old new upgrades n is w calls batches sound fits beside held utf8 calls_utf8 =
    let holds = upgrades n is w calls batches fits held in
    held_can_be_opened new w calls batches sound beside holds
    (utf8_of new (contents_of w calls batches) holds
    (all_texts n is w calls batches fits (texts_at n old (with_row (contents_of w calls batches) (schema_row_of n)) held.held utf8)
    (λ one. let kept = held.kept one in slot_texts calls kept.1 (λ host. subst (λ (o : Option Row). IfSome o HasUtf8) (kept.0.kept host) (calls_utf8 one host)))))
