-- Rule. Tables that can be opened still can be after a read, and hold what a store may hold. The tables owe this as a store. It is proved
-- from the definitions alone.
use Rattle.std.proofs.Common.{◌≡◌, ℕ, Bool, true, false, ◌&&◌, cond, nat_le, nat_lt, List, [], ◌∷◌, fold, length, Option, Some, None, option_map, sym, subst, inl, inr, arith, IsTrue}
use Rattle.std.specs.Prelude.{All, IfSome, filter_map, is_some}
use Rattle.std.specs.List.{cons_option}
use Rattle.std.proofs.lemmas.Bool.{and_parts}
use Rattle.std.proofs.lemmas.Bool.Decides.{nat_tests}
use Rattle.std.proofs.lemmas.List.Elements.{All-cons, All-head, All-nil, All-tail}
use Rattle.sqlite.specs.Effect.{Database}
use Rattle.sqlite.specs.State.{State}
use Rattle.reply_register.specs.Keeping.{most_kept}
use Rattle.reply_register.specs.declared.kept.Kept.{Kept}
use Rattle.texts.specs.Words.{is_word}
use Rattle.sched_book.specs.Places.{host_at}
use Rattle.stores.specs.Kinds.{kind_name, kind_of}
use Rattle.stores.specs.Standing.{MayBeKept, MayStand, last_seqno, most_import_bytes}
use Rattle.stores.specs.declared.entry.Entry.TheVariants as entry
use Rattle.stores.specs.declared.kind.Kind.{Kind}
use Rattle.sched_book.specs.declared.world.World.{World}
use Rattle.table_meaning.specs.Kept.{calls_in, batches_in}
use Rattle.table_meaning.specs.Reads.{Reads}
use Rattle.table_meaning.specs.Worlds.{BatchText, call_row}
use Rattle.table_meaning.specs.declared.rows.StoredRow.TheVariants as stored
use Rattle.table_reading.specs.Reading.{MayBeKeptWith, is_call_of, is_import}
use Rattle.table_reading.proofs.HeldRows.{read_beside}
use Rattle.table_worlds.specs.StoredWorld.{world_in}
use Rattle.sched_tables.specs.Entries.{kept_batch}
use Rattle.sched_tables.specs.Held.{IsHonest}
use Rattle.sched_tables.specs.ReadLaws.{was_clean, was_honest}
use Rattle.sched_tables.specs.Reopening.{CanBeOpened, Reopens}
use Rattle.sched_tables.specs.Slots.{put_in_order, slots}
use Rattle.sched_tables.specs.Views.{held_in}

-- Tables that can be opened again still can be after a read.
pub reads_reopen : (old new : State) → Reads old new → (IsHonest old → old.now ≡ old.committed) → Reopens old → Reopens new
reads_reopen old new reads rests reopens = record {
  now = λ honest. let before = was_honest old new reads honest in subst CanBeOpened (sym (reads.same honest.0 honest.1 (rests before)).0) (reopens.now before);
  stop = λ clean db sound left. elim (reads.survives.crash clean db.trees left) [
    | inl before ↦ reopens.stop (was_clean old new reads clean) db sound before
    | inr none ↦ absurd none
  ];
}

-- ---- calls in order

all_put : (P : Kept → Type 0) (calls : List Kept) (call : Kept) → All P calls → P call → All P (put_in_order calls call)
all_put P [] call all one = All-cons P call [] one (All-nil P)
all_put P (c ∷ calls) call all one = turn (nat_le c.seqno call.seqno) (all_put P calls call (All-tail P c calls all) one)
  where
    turn : (b : Bool) → All P (put_in_order calls call) → All P (cond b (call ∷ c ∷ calls) (c ∷ put_in_order calls call))
    turn true later = All-cons P call (c ∷ calls) one all
    turn false later = All-cons P c (put_in_order calls call) (All-head P c calls all) later

all_ordered : (P : Kept → Type 0) (first calls : List Kept) → All P first → All P calls → All P (fold put_in_order first calls)
all_ordered P first [] before all = before
all_ordered P first (c ∷ calls) before all =
    all_ordered P (put_in_order first c) calls (all_put P first c before (All-head P c calls all)) (All-tail P c calls all)

all_found : (P : Kept → Type 0) (calls : ℕ → Option Kept) → ((slot : ℕ) → IfSome (calls slot) P) → (xs : List ℕ) → All P (filter_map calls xs)
all_found P calls each [] = All-nil P
all_found P calls each (x ∷ xs) = go (calls x) (each x) (all_found P calls each xs)
  where
    go : (o : Option Kept) → IfSome o P → All P (filter_map calls xs) → All P (cons_option o (filter_map calls xs))
    go None one later = later
    go (Some k) one later = All-cons P k (filter_map calls xs) one later

-- ---- what may be kept with a world may be kept in a store

call_may : (w : World) (host slot : ℕ) (o : Option Kept) → IfSome o (λ k. IsTrue (is_call_of w (stored.Kept (call_row host slot k)))) → IfSome o (λ k. MayBeKept w (entry.Kept host k))
call_may w host slot None fits = tt
call_may w host slot (Some k) fits =
    let parts = and_parts (is_some (host_at w host)) (nat_lt slot most_kept && nat_le k.seqno last_seqno) fits in
    let number : nat_le k.seqno last_seqno ≡ true = (and_parts (nat_lt slot most_kept) (nat_le k.seqno last_seqno) parts.1).1 in
    (parts.0, grind (arith, nat_tests, number))

import_may : (w : World) (kind : Kind) (name : List ℕ) (o : Option BatchText)
    → IfSome o (λ b. IsTrue (is_import (stored.Batch (record { kind = kind_name kind; name = name; text = b.0; answer = b.1 })))) → IfSome (option_map kept_batch o) (λ b. MayBeKept w (entry.Batch kind name b))
import_may w kind name None fits = tt
import_may w kind name (Some b) fits =
    let parts = and_parts (is_some (kind_of (kind_name kind))) (is_word name && nat_le (length b.0) most_import_bytes) fits in
    let rest = and_parts (is_word name) (nat_le (length b.0) most_import_bytes) parts.1 in
    let short : nat_le (length b.0) most_import_bytes ≡ true = rest.1 in
    (rest.0, grind (arith, nat_tests, short))

-- Tables that can be opened hold what a store may hold.
pub held_may_stand : (db : Database) → CanBeOpened db → MayStand (held_in db.trees)
held_may_stand db can =
    let w = world_in db.trees in
    let beside : MayBeKeptWith w (calls_in db.trees) (batches_in db.trees) = read_beside db w can.rows.0 can.rows.1 can.rows.2 in
    record {
      sound = can.rows.2.sound;
      calls = λ host. all_ordered (λ k. MayBeKept w (entry.Kept host k)) [] _ (All-nil _)
          (all_found _ (calls_in db.trees host) (λ slot. call_may w host slot (calls_in db.trees host slot) (beside.calls_fit host slot)) slots);
      batches = λ kind name. import_may w kind name (batches_in db.trees (kind_name kind) name) (beside.imports_fit (kind_name kind) name);
    }
