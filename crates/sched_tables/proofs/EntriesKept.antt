-- A commit keeps its entry, and leaves everything else as it was.
use Rattle.std.proofs.Common.{◌≡◌, ℕ, Bool, true, false, ◌&&◌, ◌||◌, cond, eqb, List, [], ◌∷◌, Option, Some, None, option_map, take, length, refl, sym, ap, ap₂, subst, ◌∙◌, true≢false, arith, IsTrue}
use Rattle.std.specs.Str.{bytes_eq}
use Rattle.std.specs.Prelude.{IfSome, is_some, nat_le, nat_lt}
use Rattle.std.specs.List.{cons_option}
use Rattle.std.proofs.lemmas.Bool.{and_from, eq-eqb, eqb-true}
use Rattle.std.proofs.lemmas.Slice.Eq.{bytes_eq-Decides}
use Rattle.std.proofs.lemmas.Cmp.{nat_list_eq_equiv}
use Rattle.sqlite.specs.Effect.{Database}
use Rattle.sqlite.specs.State.{State}
use Rattle.stores.specs.Eras.{this_era}
use Rattle.stores.specs.Held.{Calls, Batches, put_call, calls_with, batches_with, IsNewest, IsCommitted}
use Rattle.stores.specs.declared.batch.KeptBatch.{KeptBatch}
use Rattle.stores.specs.declared.entry.Entry.{Entry}
use Rattle.stores.specs.declared.entry.Entry.TheVariants as entry
use Rattle.stores.specs.Kinds.{kind_name, kind_of}
use Rattle.stores.specs.declared.kind.Kind.{Kind}
use Rattle.stores.specs.declared.kind.Kind.TheVariants.{Accounts, Apps, Versions, Workunits}
use Rattle.texts.specs.Words.{is_word}
use Rattle.reply_register.specs.Keeping.{most_kept}
use Rattle.sched_book.specs.Places.{host_at}
use Rattle.stores.specs.Standing.{MayBeKept, last_seqno, most_import_bytes}
use Rattle.table_reading.specs.Reading.{MayBeKeptWith, is_call_of, is_import}
use Rattle.reply_register.specs.Calls.{is_above_all}
use Rattle.reply_register.specs.declared.kept.Kept.{Kept}
use Rattle.sched_book.specs.Delta.{applied}
use Rattle.sched_book.specs.declared.delta.Delta.TheVariants as delta
use Rattle.sched_book.specs.declared.rows.Rows.TheVariants as kinds
use Rattle.sched_book.specs.declared.rows.App.{App}
use Rattle.sched_book.specs.declared.settings.Settings.{Settings}
use Rattle.sched_book.specs.declared.delta.Delta.{Delta}
use Rattle.sched_book.specs.declared.world.World.{World}
use Rattle.sched_book.proofs.Fitting.{settings_stay_in, all_apps_stay}
use Rattle.table_meaning.specs.declared.rows.StoredRow.{StoredRow}
use Rattle.table_meaning.specs.declared.rows.StoredRow.TheVariants as stored
use Rattle.table_meaning.specs.Rows.{RowKey, kept_key, batch_key, columns_of, same_row_key}
use Rattle.table_meaning.specs.Worlds.{BatchText, SlotCalls, call_row, HoldWorld}
use Rattle.table_meaning.proofs.Keys.{key_itself}
use Rattle.sched_tables.specs.Commits.{Imports, AreRowsToKeep, apps_with}
use Rattle.sched_tables.specs.Entries.{IsRowOf, MakesWith, kept_batch, calls_of, batches_of}
use Rattle.sched_tables.specs.Slots.{calls_in_slots, with_slot}
use Rattle.table_cache.specs.NextSlot.{IsSlotFor}
use Rattle.sched_tables.specs.Held.{AreWellKept, AreInMemory}
use Rattle.sched_tables.specs.DueFrom.{NothingIsDueBefore}
use Rattle.table_cache.specs.Remembering.{IsCacheOf}
use Rattle.sched_tables.specs.Views.{held_in}
use Rattle.table_cache.specs.declared.cache.Cache.{Cache}
use Rattle.table_worlds.specs.Readable.{IsReadable}
use Rattle.table_worlds.specs.StoredWorld.{world_in}
use Rattle.table_worlds.proofs.WorldReadBack.{held_is_read_back}
use Rattle.table_meaning.specs.Kept.{call_of, batch_of, calls_in, batches_in}
use Rattle.sched_tables.proofs.FourKept.{slots_keep_the_latest}

-- ---- the row of an entry

pub same_bytes : (a b : List ℕ) → bytes_eq a b ≡ true → a ≡ b
same_bytes a b = (bytes_eq-Decides a b).0

other_key : (a b : RowKey) → (same_row_key a b || false) ≡ false → a ≡ b → ⊥
other_key a b apart same = absurd (true≢false (sym (ap (λ k. same_row_key k b || false) same ∙ ap (λ c. c || false) (key_itself b)) ∙ apart))

-- the calls in slots, with one more
abbrev pub with_call : ℕ → ℕ → Kept → SlotCalls → SlotCalls
with_call host slot k calls id other = cond (eqb host id) (with_slot slot k (calls id) other) (calls id other)

-- the imports, with one more
abbrev pub with_import : Kind → List ℕ → KeptBatch → Imports → Imports
with_import kind name b batches k n = cond (bytes_eq (kind_name kind) k && bytes_eq name n) (Some (b.text, b.answer)) (batches k n)

-- what a store would say of calls in slots, and of imports
abbrev as_calls : SlotCalls → Calls
as_calls calls host = calls_in_slots (calls host)

abbrev as_batches : Imports → Batches
as_batches batches kind name = option_map kept_batch (batches (kind_name kind) name)

-- What is kept once the row of an entry is put: these calls and these imports, as a store says it.
pub record AreKeptThen (w : World) (e : Entry) (row : Option StoredRow) (calls : SlotCalls) (batches : Imports) : Type 0 where
  pub calls' : SlotCalls
  pub batches' : Imports
  pub keeps : AreRowsToKeep w (cons_option row []) calls batches calls' batches'
  pub calls_then : IsNewest e (as_calls calls) → (host : ℕ) → as_calls calls' host ≡ calls_with e (as_calls calls) host
  pub batches_then : (kind : Kind) (name : List ℕ) → as_batches batches' kind name ≡ batches_with e (as_batches batches) kind name

-- a call in its slot
module _ (w : World) (host slot : ℕ) (k : Kept) (calls : SlotCalls) (batches : Imports) (for : IsSlotFor (calls host) slot) where
  call_itself : with_call host slot k calls host slot ≡ Some k
  call_itself = ap (λ b. cond b (with_slot slot k (calls host) slot) (calls host slot)) (eq-eqb host host refl) ∙ ap (λ b. cond b (Some k) (calls host slot)) (eq-eqb slot slot refl)

  call_keeps : AreRowsToKeep w (stored.Kept (call_row host slot k) ∷ []) calls batches (with_call host slot k calls) batches
  call_keeps = record {
    each = (ap (option_map (λ (c : Kept). stored.Kept (call_row host slot c))) call_itself, tt);
    other_calls = λ id other none. others id other (eqb host id) (eqb slot other) refl refl none;
    other_batches = λ kind name none. refl;
  }
    where
      others : (id other : ℕ) (b c : Bool) → eqb host id ≡ b → eqb slot other ≡ c → (same_row_key (kept_key id other) (kept_key host slot) || false) ≡ false
          → calls id other ≡ cond b (cond c (Some k) (calls id other)) (calls id other)
      others id other true true one two apart = absurd (other_key (kept_key id other) (kept_key host slot) apart (ap₂ kept_key (sym (eqb-true host id one)) (sym (eqb-true slot other two))))
      others id other true false one two apart = refl
      others id other false c one two apart = refl

  call_kept : is_above_all k.seqno (as_calls calls host) ≡ true → (id : ℕ) → as_calls (with_call host slot k calls) id ≡ put_call this_era host k (as_calls calls) id
  call_kept newest id = cases (eqb host id) refl
    where
      cases : (b : Bool) → eqb host id ≡ b → calls_in_slots (λ other. cond b (with_slot slot k (calls id) other) (calls id other)) ≡ cond b (k ∷ take 3 (as_calls calls host)) (as_calls calls id)
      cases true same =
          subst (λ n. calls_in_slots (with_slot slot k (calls n)) ≡ k ∷ take 3 (as_calls calls host)) (eqb-true host id same) (slots_keep_the_latest (calls host) slot k for newest)
      cases false same = refl

-- an import at its kind and name
import_keeps : (w : World) (kind : Kind) (name : List ℕ) (b : KeptBatch) (calls : SlotCalls) (batches : Imports)
    → AreRowsToKeep w (stored.Batch (record { kind = kind_name kind; name = name; text = b.text; answer = b.answer }) ∷ []) calls batches calls (with_import kind name b batches)
import_keeps w kind name b calls batches = record {
  each = (
    ap₂ (λ (c d : Bool). option_map (λ (t : BatchText). stored.Batch (record { kind = kind_name kind; name = name; text = t.0; answer = t.1 })) (cond (c && d) (Some (b.text, b.answer)) (batches (kind_name kind) name)))
        (nat_list_eq_equiv.refl (kind_name kind)) (nat_list_eq_equiv.refl name),
    tt,
  );
  other_calls = λ id slot none. refl;
  other_batches = λ k n none. other k n (bytes_eq (kind_name kind) k) (bytes_eq name n) refl refl none;
}
  where
    other : (k n : List ℕ) (c d : Bool) → bytes_eq (kind_name kind) k ≡ c → bytes_eq name n ≡ d → (same_row_key (batch_key k n) (batch_key (kind_name kind) name) || false) ≡ false
        → batches k n ≡ cond (c && d) (Some (b.text, b.answer)) (batches k n)
    other k n true true one two apart =
        absurd (other_key (batch_key k n) (batch_key (kind_name kind) name) apart (ap₂ batch_key (sym (same_bytes (kind_name kind) k one)) (sym (same_bytes name n two))))
    other k n true false one two apart = refl
    other k n false d one two apart = refl

import_kept : (kind : Kind) (name : List ℕ) (b : KeptBatch) (batches : Imports) (k : Kind) (n : List ℕ)
    → as_batches (with_import kind name b batches) k n ≡ batches_with (entry.Batch kind name b) (as_batches batches) k n
import_kept kind name b batches k n = cases (bytes_eq (kind_name kind) (kind_name k) && bytes_eq name n)
  where
    cases : (c : Bool) → option_map kept_batch (cond c (Some (b.text, b.answer)) (batches (kind_name k) n)) ≡ cond c (Some b) (option_map kept_batch (batches (kind_name k) n))
    cases true = refl
    cases false = refl

pub are_kept_then : (w : World) (e : Entry) (row : Option StoredRow) (calls : SlotCalls) (batches : Imports) → IsRowOf calls e row → AreKeptThen w e row calls batches
are_kept_then w (entry.Kept host k) row calls batches is = record {
  calls' = with_call host is.0 k calls;
  batches' = batches;
  keeps = subst (λ r. AreRowsToKeep w (cons_option r []) calls batches (with_call host is.0 k calls) batches) (sym is.2) (call_keeps w host is.0 k calls batches is.1);
  calls_then = call_kept w host is.0 k calls batches is.1;
  batches_then = λ kind name. refl;
}
are_kept_then w (entry.Batch kind name b) row calls batches is = record {
  calls' = calls;
  batches' = with_import kind name b batches;
  keeps = subst (λ r. AreRowsToKeep w (cons_option r []) calls batches calls (with_import kind name b batches)) (sym is) (import_keeps w kind name b calls batches);
  calls_then = λ _ host. refl;
  batches_then = λ k n. import_kept kind name b batches k n;
}
are_kept_then w entry.Nothing row calls batches is = record {
  calls' = calls;
  batches' = batches;
  keeps = subst (λ r. AreRowsToKeep w (cons_option r []) calls batches calls batches) (sym is) (record { each = tt; other_calls = λ id slot none. refl; other_batches = λ kind name none. refl });
  calls_then = λ _ host. refl;
  batches_then = λ kind name. refl;
}

-- ---- what an entry keeps may be kept with a world

kind_told : (kind : Kind) → is_some (kind_of (kind_name kind)) ≡ true
kind_told Accounts = refl
kind_told Apps = refl
kind_told Versions = refl
kind_told Workunits = refl

-- what is kept afterwards may be kept with the world, if what was kept before may
pub beside_entry : (w : World) (e : Entry) (row : Option StoredRow) (calls : SlotCalls) (batches : Imports) (is : IsRowOf calls e row) → MayBeKept w e → MayBeKeptWith w calls batches
    → MayBeKeptWith w (are_kept_then w e row calls batches is).calls' (are_kept_then w e row calls batches is).batches'
unfolding are_kept_then
beside_entry w (entry.Kept host k) row calls batches is may beside =
    record { calls_fit = λ id other. go id other (eqb host id) refl (eqb is.0 other) refl; imports_fit = beside.imports_fit }
  where
    go : (id other : ℕ) (b : Bool) → eqb host id ≡ b → (c : Bool) → eqb is.0 other ≡ c
        → IfSome (cond b (cond c (Some k) (calls id other)) (calls id other)) (λ k. IsTrue (is_call_of w (stored.Kept (call_row id other k))))
    go id other true one true two =
        let slot : nat_lt is.0 most_kept ≡ true = grind (arith, is.1.within) in
        let number : nat_le k.seqno last_seqno ≡ true = grind (arith, may.1) in
        subst (λ n. is_call_of w (stored.Kept (call_row n other k)) ≡ true) (eqb-true host id one)
        (subst (λ n. is_call_of w (stored.Kept (call_row host n k)) ≡ true) (eqb-true is.0 other two)
        (and_from (is_some (host_at w host)) (nat_lt is.0 most_kept && nat_le k.seqno last_seqno) may.0 (and_from (nat_lt is.0 most_kept) (nat_le k.seqno last_seqno) slot number)))
    go id other true one false two = beside.calls_fit id other
    go id other false one c two = beside.calls_fit id other
beside_entry w (entry.Batch kind text b) row calls batches is may beside =
    record { calls_fit = beside.calls_fit; imports_fit = λ k n. go k n (bytes_eq (kind_name kind) k) refl (bytes_eq text n) refl }
  where
    go : (k n : List ℕ) (c : Bool) → bytes_eq (kind_name kind) k ≡ c → (d : Bool) → bytes_eq text n ≡ d
        → IfSome (cond (c && d) (Some (b.text, b.answer)) (batches k n)) (λ t. IsTrue (is_import (stored.Batch (record { kind = k; name = n; text = t.0; answer = t.1 }))))
    go k n true one true two =
        let short : nat_le (length b.text) most_import_bytes ≡ true = grind (arith, may.1) in
        subst (λ u. is_import (stored.Batch (record { kind = u; name = n; text = b.text; answer = b.answer })) ≡ true) (same_bytes (kind_name kind) k one)
        (subst (λ u. is_import (stored.Batch (record { kind = kind_name kind; name = u; text = b.text; answer = b.answer })) ≡ true) (same_bytes text n two)
        (and_from (is_some (kind_of (kind_name kind))) (is_word text && nat_le (length b.text) most_import_bytes) (kind_told kind) (and_from (is_word text) (nat_le (length b.text) most_import_bytes) may.0 short)))
    go k n true one false two = beside.imports_fit k n
    go k n false one d two = beside.imports_fit k n
beside_entry w entry.Nothing row calls batches is may beside = beside

-- ---- what tables keep is what they hold

module _ (db : Database) (w : World) (calls : SlotCalls) (batches : Imports) (holds : HoldWorld db w calls batches) where
  pub calls_back : (host slot : ℕ) → calls_in db.trees host slot ≡ calls host slot
  calls_back host slot = ap (option_map call_of) (holds.rows (kept_key host slot)) ∙ cases (calls host slot)
    where
      cases : (o : Option Kept) → option_map call_of (option_map columns_of (option_map (λ (k : Kept). stored.Kept (call_row host slot k)) o)) ≡ o
      cases None = refl
      cases (Some k) = refl

  pub batches_back : (kind name : List ℕ) → batches_in db.trees kind name ≡ batches kind name
  batches_back kind name = ap (option_map batch_of) (holds.rows (batch_key kind name)) ∙ cases (batches kind name)
    where
      cases : (o : Option BatchText) → option_map batch_of (option_map columns_of (option_map (λ (b : BatchText). stored.Batch (record { kind = kind; name = name; text = b.0; answer = b.1 })) o)) ≡ o
      cases None = refl
      cases (Some b) = refl

  -- so they hold the world with what they keep
  pub held_with_kept : HoldWorld db w (calls_in db.trees) (batches_in db.trees)
  held_with_kept = subst (λ (c : SlotCalls). HoldWorld db w c (batches_in db.trees)) (λ i host slot. sym (calls_back host slot) i) (subst (λ (b : Imports). HoldWorld db w calls b) (λ i kind name. sym (batches_back kind name) i) holds)

-- ---- what is in memory

-- changes bring applications
apps_brought : (w : World) (cs : Delta) → (applied w cs).apps ≡ apps_with w.apps cs
apps_brought w (delta.Rows (kinds.Accounts xs)) = refl
apps_brought w (delta.Rows (kinds.Apps xs)) = refl
apps_brought w (delta.Rows (kinds.Versions xs)) = refl
apps_brought w (delta.Rows (kinds.Workunits xs)) = refl
apps_brought w (delta.Edits edits) = all_apps_stay w edits

-- ---- a commit

-- tables that held a world with what they keep, and tables that the changes and the row of an entry lead to
module _ (old new : Database) (w : World) (cs : Delta) (e : Entry) (holds : HoldWorld old w (calls_in old.trees) (batches_in old.trees)) (made : MakesWith w cs e old new) where
  abbrev after : AreKeptThen (applied w cs) e made.0 (calls_in old.trees) (batches_in old.trees)
  after = are_kept_then (applied w cs) e made.0 (calls_in old.trees) (batches_in old.trees) made.1

  pub now_held : HoldWorld new (applied w cs) after.calls' after.batches'
  now_held = made.2.leads (calls_in old.trees) after.calls' (batches_in old.trees) after.batches' after.keeps holds

  -- the calls are those with the entry
  pub calls_then : IsNewest e (calls_of old.trees) → (host : ℕ) → calls_of new.trees host ≡ calls_with e (calls_of old.trees) host
  calls_then newest host = ap calls_in_slots (λ i slot. calls_back new (applied w cs) after.calls' after.batches' now_held host slot i) ∙ after.calls_then newest host

  -- and so are the imports
  pub batches_then : (kind : Kind) (name : List ℕ) → batches_of new.trees kind name ≡ batches_with e (batches_of old.trees) kind name
  batches_then kind name = ap (option_map kept_batch) (batches_back new (applied w cs) after.calls' after.batches' now_held (kind_name kind) name) ∙ after.batches_then kind name

module _ (old new : State) (w : World) (cs : Delta) (e : Entry) (kept : AreWellKept old w) (made : MakesWith w cs e old.now new.now) where
  -- the rows represent the world with the changes made
  pub world_then : world_in new.now.trees ≡ applied w cs
  world_then = held_is_read_back new.now (applied w cs) _ _ (now_held old.now new.now w cs e kept.holds made) made.2.readable

  pub kept_then : new.now ≡ new.committed → new.in_transaction ≡ false → AreWellKept new (world_in new.now.trees)
  kept_then rests idle = record {
    idle = idle;
    rests = rests;
    holds = subst (λ u. HoldWorld new.now u (calls_in new.now.trees) (batches_in new.now.trees)) (sym world_then)
        (held_with_kept new.now (applied w cs) _ _ (now_held old.now new.now w cs e kept.holds made));
    readable = subst IsReadable (sym world_then) made.2.readable;
  }

  pub committed : IsNewest e (calls_of old.now.trees) → IsCommitted cs e (record { world = w; calls = calls_of old.now.trees; batches = batches_of old.now.trees }) (held_in new.now.trees)
  committed newest = record {
    world_is = world_then;
    calls_are = calls_then old.now new.now w cs e kept.holds made newest;
    batches_are = batches_then old.now new.now w cs e kept.holds made;
  }

  -- what is in memory agrees with the world, with the applications that the changes bring
  pub beside_then : (calls : SlotCalls) (settings : Settings) (apps apps' : List App) (read read' : Cache) (due_from due_from' : ℕ) → AreInMemory w calls settings apps read due_from → apps' ≡ apps_with apps cs → IsCacheOf (world_in new.now.trees) (calls_in new.now.trees) read' → NothingIsDueBefore (world_in new.now.trees) due_from'
      → AreInMemory (world_in new.now.trees) (calls_in new.now.trees) settings apps' read' due_from'
  beside_then calls settings apps apps' read read' due_from due_from' beside brought rows marked = record {
    settings_are = beside.settings_are ∙ sym (settings_stay_in w cs) ∙ sym (ap (λ u. u.settings) world_then);
    apps_are = brought ∙ ap (λ l. apps_with l cs) beside.apps_are ∙ sym (apps_brought w cs) ∙ sym (ap (λ u. u.apps) world_then);
    rows_are = rows;
    due_from_is = marked;
  }
