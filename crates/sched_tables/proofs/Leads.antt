-- Putting rows leads from tables that hold a world to tables that hold the next one.
use Rattle.std.proofs.Common.{◌≡◌, IsTrue, List, [], ◌++◌, Option, true, false, true≢false, Result, Ok, Err, is_err, OnOk, OnErr, sym, subst, arith}
use Rattle.std.specs.List.{cons_option}
use Rattle.sqlite.specs.Effect.{Database}
use Rattle.sqlite.specs.State.{State, Survives}
use Rattle.sqlite.proofs.StateLemmas.{survives_then}
use Rattle.sched_book.specs.Delta.{applied}
use Rattle.sched_book.specs.declared.delta.Delta.{Delta}
use Rattle.sched_book.specs.declared.world.World.{World}
use Rattle.table_meaning.specs.declared.rows.StoredRow.{StoredRow}
use Rattle.table_meaning.specs.Steps.{PutsRows}
use Rattle.table_meaning.specs.Worlds.{contents_of}
use Rattle.table_worlds.specs.Changes.{AreChanges}
use Rattle.table_worlds.proofs.WorldSettled.{world_settled}
use Rattle.table_meaning.specs.Reads.{Reads}
use Rattle.table_meaning.specs.Kept.{calls_in}
use Rattle.table_meaning.proofs.UpgradedWorlds.{hold_same}
use Rattle.stores.specs.declared.entry.Entry.{Entry}
use Rattle.sched_tables.specs.Commits.{LeadsTo, AreRowsToCommit, MakesWorld}
use Rattle.sched_tables.specs.Entries.{ArePutWith, MakesWith}
use Rattle.sched_tables.specs.Held.{IsHonest}
use Rattle.sched_tables.proofs.TextsKept.{utf8_then}
use Rattle.table_rows.specs.Utf8.{HaveUtf8}

leads : (w : World) (cs : Delta) (rows all : List StoredRow) (more : Option StoredRow) (old new : Database) → AreChanges w (applied w cs) rows → all ≡ rows ++ cons_option more [] → PutsRows old new all → LeadsTo w cs more old new
leads w cs rows all more old new changes pushed puts = λ calls calls' batches batches' keeps holds.
    hold_same new _ _ (world_settled w cs rows changes calls calls' batches batches' (cons_option more []) keeps.each keeps.other_calls keeps.other_batches)
    (subst (PutsRows old new) pushed puts (contents_of w calls batches) holds)

-- so putting rows makes the changes
makes : (w : World) (cs : Delta) (more : Option StoredRow) (rows : List StoredRow) (old new : Database) → AreRowsToCommit w cs more rows → PutsRows old new rows → HaveUtf8 rows → MakesWorld w cs more old new
makes w cs more rows old new put puts utf8 = record {
  leads = leads w cs put.changed rows more old new put.are put.all puts;
  readable = put.readable;
  texts = λ calls batches holds. utf8_then old new (contents_of w calls batches) rows puts utf8 holds;
}

-- and so with what an entry puts
makes_with : (w : World) (cs : Delta) (e : Entry) (rows : List StoredRow) (old new : Database) → ArePutWith w cs (calls_in old.trees) e rows → PutsRows old new rows → HaveUtf8 rows → MakesWith w cs e old new
makes_with w cs e rows old new put puts utf8 = (put.0, put.1, makes w cs put.0 rows old new put.2 puts utf8)

-- rows put after a read that left everything as it was
pub puts_all : (old mid new : State) (w : World) (cs : Delta) (e : Entry) (rows : List StoredRow) → mid.now ≡ old.now → new.now ≡ new.committed → ArePutWith w cs (calls_in old.now.trees) e rows
    → PutsRows mid.now new.committed rows → HaveUtf8 rows → MakesWith w cs e old.now new.now
puts_all old mid new w cs e rows same rest put puts utf8 =
    makes_with w cs e rows old.now new.now put (subst (λ (d : Database). PutsRows d new.now rows) same (subst (λ (d : Database). PutsRows mid.now d rows) (sym rest) puts)) utf8

-- and what a stop leaves of rows put after a read is what it could leave before, or the changes made
pub leaves_made : (old mid new : State) (w : World) (cs : Delta) (e : Entry) (rows : List StoredRow) (Kept : Type 0) → Reads old mid
    → Survives mid new (λ trees. IsTrue mid.is_open × HaveUtf8 rows × (db : Database) × PutsRows mid.now db rows × (trees ≡ db.trees)) → (IsHonest mid → Kept → ArePutWith w cs (calls_in old.now.trees) e rows) → (Kept → old.now ≡ old.committed)
    → Survives old new (λ trees. IsTrue old.is_open × (Kept → (db : Database) × MakesWith w cs e old.now db × (trees ≡ db.trees)))
leaves_made old mid new w cs e rows Kept reads put puts rests =
    survives_then old mid new _ _ _ (λ _ db none. absurd none) (λ clean db may.
    let honest : IsHonest mid = (omega (arith, put.clean, clean), may.0) in (
      reads.was_open honest.0 honest.1,
      λ kept. (may.2, makes_with w cs e rows old.now may.2 (puts honest kept) (subst (λ (d : Database). PutsRows d may.2 rows) (reads.same honest.0 honest.1 (rests kept)).0 may.3) may.1, may.4),
    )) reads.survives put

pub was_ok : {T E : Type 0} (r : Result T E) (P : Type 0) → is_err r ≡ false → OnOk r P → P
was_ok (Ok x) P good holds = holds
was_ok (Err e) P good holds = absurd (true≢false good)

pub was_err : {T E : Type 0} (r : Result T E) (P : Type 0) → is_err r ≡ true → OnErr r P → P
was_err (Ok x) P bad holds = absurd (true≢false (sym bad))
was_err (Err e) P bad holds = holds

pub all_ok : {T E : Type 0} (r : Result T E) (A B C D : Type 0) → OnOk r A → OnOk r B → OnOk r C → (A → B → C → D) → OnOk r D
all_ok (Ok x) A B C D a b c f = f a b c
all_ok (Err e) A B C D a b c f = tt

pub each_ok : {T E : Type 0} (r : Result T E) (A B : Type 0) → OnOk r A → (A → B) → OnOk r B
each_ok (Ok x) A B a f = f a
each_ok (Err e) A B a f = tt

pub all_err : {T E : Type 0} (r : Result T E) (A B : Type 0) → OnErr r A → (A → B) → OnErr r B
all_err (Ok x) A B a f = tt
all_err (Err e) A B a f = f a

-- what follows in both cases holds
pub either_way : {T E : Type 0} (r : Result T E) (A B C : Type 0) → OnOk r A → OnErr r B → (A → C) → (B → C) → C
either_way (Ok x) A B C a b f g = f a
either_way (Err e) A B C a b f g = g b
