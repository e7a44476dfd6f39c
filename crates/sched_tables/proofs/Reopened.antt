-- What can be opened again, and what a read and a commit leave of this.
use Rattle.std.proofs.Common.{◌≡◌, ◌⊎◌, ℕ, true, ◌&&◌, Option, Some, None, codes, option_map, refl, sym, ap, subst, ◌∙◌, inl, inr, arith, IsTrue}
use Rattle.std.specs.Prelude.{IfSome, is_some, nat_le, nat_lt}
use Rattle.std.proofs.lemmas.Bool.{and_from, and_parts}
use Rattle.sqlite.specs.Effect.{Database, IsDatabase}
use Rattle.sqlite.specs.State.{State, HasCleanDisk, Survives}
use Rattle.sqlite_trees.specs.Tree.{Trees}
use Rattle.sqlite_value.specs.Order.{column}
use Rattle.reply_register.specs.declared.kept.Kept.{Kept}
use Rattle.reply_register.specs.Keeping.{most_kept}
use Rattle.sched_book.specs.Delta.{applied}
use Rattle.sched_book.specs.Places.{host_at}
use Rattle.sched_book.specs.Sound.{Sound}
use Rattle.sched_book.specs.declared.delta.Delta.{Delta}
use Rattle.sched_book.specs.declared.rows.HostRow.{HostRow}
use Rattle.sched_book.specs.declared.world.World.{World}
use Rattle.stores.specs.declared.entry.Entry.{Entry}
use Rattle.table_meaning.specs.declared.rows.StoredRow.TheVariants as stored
use Rattle.table_meaning.specs.Kept.{calls_in, batches_in}
use Rattle.table_meaning.specs.Rows.{setting_key}
use Rattle.table_meaning.specs.Worlds.{SlotCalls, call_row, contents_of, HoldWorld}
use Rattle.stores.specs.Standing.{MayBeKept, last_seqno}
use Rattle.table_reading.specs.Reading.{AreUtf8, ReadFrom, MayBeKeptWith, is_call_of}
use Rattle.table_reading.proofs.Formatted.{have_formats}
use Rattle.table_reading.proofs.HeldRows.{read_beside, formed, held_is_read, stands_for_one}
use Rattle.table_reading.proofs.KeptRows.{held_by_rows}
use Rattle.table_rows.specs.Refusing.{IsUnavailable}
use Rattle.table_rows.specs.declared.opening.OpenFault.{OpenFault}
use Rattle.table_rows.specs.declared.opening.OpenFault.TheVariants.{NotTables, OldSchema, BadRow, Unavailable}
use Rattle.table_rows.proofs.Reopening.{one_database}
use Rattle.table_worlds.specs.declared.keys.WorldKey.TheVariants.{Host}
use Rattle.table_worlds.specs.StoredWorld.{world_in}
use Rattle.table_worlds.proofs.RowsRemain.{none_goes}
use Rattle.table_worlds.proofs.StaysReadable.{sound_is_readable}
use Rattle.table_worlds.proofs.WorldReadBack.{held_is_read_back}
use Rattle.sched_tables.specs.Commits.{Imports}
use Rattle.sched_tables.specs.Entries.{MakesWith}
use Rattle.sched_tables.specs.Held.{IsHonest, AreWellKept}
use Rattle.sched_tables.specs.Laws.{HeldCanBeOpened, OpenedAreTaken}
use Rattle.sched_tables.specs.Refusals.{AreNewest, AreRefusedFor}
use Rattle.sched_tables.specs.Reopening.{CanBeOpened, Reopens}
use Rattle.sched_tables.proofs.EntriesKept.{beside_entry, now_held}
use Rattle.sched_tables.proofs.Refusals.{none_earlier}
use Rattle.sched_tables.proofs.TextsKept.{texts_of}

-- ---- tables that hold a sound world

-- they say that they are of the newest schema
says_newest : (db : Database) (w : World) (calls : SlotCalls) (batches : Imports) → HoldWorld db w calls batches → AreNewest db
says_newest db w calls batches holds = record { known = holds.known; said = ap (option_map (λ row. column row 1)) (holds.rows (setting_key (codes "schema"))) }

pub held_can_be_opened : HeldCanBeOpened
held_can_be_opened db w calls batches sound beside holds utf8 = record {
  newest = says_newest db w calls batches holds;
  rows = subst (ReadFrom db.trees) (sym (held_is_read_back db w calls batches holds (sound_is_readable w sound))) (held_is_read db w calls batches holds sound beside);
  texts = utf8;
}

pub opened_are_taken : OpenedAreTaken
opened_are_taken db can = go
  where
    go : (e : OpenFault) → AreRefusedFor e db → IsUnavailable e
    go NotTables others = absurd (others.not_newest can.newest)
    go (OldSchema n) earlier = absurd (none_earlier db can.newest.known n earlier)
    go BadRow spoiled =
        let w = world_in db.trees in
        let calls = calls_in db.trees in
        let batches = batches_in db.trees in
        let read = can.rows.1 in
        let stand = can.rows.2 in
        let holds = held_by_rows db w can.rows.0 can.newest.known read stand in
        let beside = read_beside db w can.rows.0 read stand in
        absurd (elim spoiled.rows [
          | inl bad ↦ formed db (contents_of w calls batches) holds (have_formats w calls batches stand.sound beside (texts_of db (contents_of w calls batches) holds can.texts)) bad
          | inr none ↦ stands_for_one db w calls batches holds stand.sound beside none
        ])
    go (Unavailable cause) refused = (cause, refl)

-- ---- with no open transaction, and after a read

-- well kept tables whose rows were read can be opened again
pub kept_can_be_opened : (s : State) → AreWellKept s (world_in s.now.trees) → ReadFrom s.now.trees (world_in s.now.trees) → AreUtf8 s.now.trees → CanBeOpened s.now
kept_can_be_opened s kept read utf8 = record { newest = says_newest s.now (world_in s.now.trees) _ _ kept.holds; rows = read; texts = utf8 }

-- another database with the same rows is the same one
same_can_be_opened : (db other : Database) → IsDatabase other → other.trees ≡ db.trees → CanBeOpened db → CanBeOpened other
same_can_be_opened db other sound same can = subst CanBeOpened (sym (one_database other db same sound can.newest.known.sound)) can

pub rest_reopens : (s : State) → (HasCleanDisk s → IsTrue s.is_open) → (HasCleanDisk s → s.now ≡ s.committed) → ((trees : Trees) → IsTrue s.is_open → s.may_leave trees → trees ≡ s.committed.trees) → (HasCleanDisk s → CanBeOpened s.now)
    → Reopens s
rest_reopens s is_open rests settled can = record {
  now = λ honest. can honest.0;
  stop = λ clean db sound left. same_can_be_opened s.now db sound (settled db.trees (is_open clean) left ∙ ap (λ (d : Database). d.trees) (sym (rests clean))) (can clean);
}

-- ---- what is kept with a world with changes made

host_stays : (w : World) (cs : Delta) (host : ℕ) → is_some (host_at w host) ≡ true → is_some (host_at (applied w cs) host) ≡ true
host_stays w cs host stands = go (host_at (applied w cs) host) refl
  where
    none_there : {X : Type 0} (f : HostRow → X) (o : Option HostRow) → option_map f o ≡ None → is_some o ≡ true → ⊥
    none_there f None none some = cc
    none_there f (Some h) none some = cc

    go : (o : Option HostRow) → host_at (applied w cs) host ≡ o → is_some o ≡ true
    go None gone = absurd (none_there _ (host_at w host) (none_goes w cs (Host host) (ap (option_map _) gone)) stands)
    go (Some h) there = refl

beside_changes : (w : World) (cs : Delta) (calls : SlotCalls) (batches : Imports) → MayBeKeptWith w calls batches → MayBeKeptWith (applied w cs) calls batches
beside_changes w cs calls batches beside = record { calls_fit = λ host slot. go host slot (calls host slot) (beside.calls_fit host slot); imports_fit = beside.imports_fit }
  where
    go : (host slot : ℕ) (o : Option Kept) → IfSome o (λ k. IsTrue (is_call_of w (stored.Kept (call_row host slot k)))) → IfSome o (λ k. IsTrue (is_call_of (applied w cs) (stored.Kept (call_row host slot k))))
    go host slot None fits = tt
    go host slot (Some k) fits =
        let parts = and_parts (is_some (host_at w host)) (nat_lt slot most_kept && nat_le k.seqno last_seqno) fits in
        and_from (is_some (host_at (applied w cs) host)) (nat_lt slot most_kept && nat_le k.seqno last_seqno) (host_stays w cs host parts.0) parts.1

-- ---- a commit

-- what is required of a commit that leaves tables that can be opened again
abbrev pub MayReopen : State → Delta → Entry → Type 0 → Type 0
MayReopen old cs e Kept = IsHonest old → Kept × Sound (applied (world_in old.now.trees) cs) × MayBeKept (applied (world_in old.now.trees) cs) e

module _ (old new : State) (cs : Delta) (e : Entry) (Kept : Type 0) (well : Kept → AreWellKept old (world_in old.now.trees)) (may : MayReopen old cs e Kept) (reopens : Reopens old) where
  abbrev w : World
  w = world_in old.now.trees

  -- what it makes can be opened again
  made_can_be_opened : IsHonest old → (db : Database) → MakesWith w cs e old.now db → CanBeOpened db
  made_can_be_opened honest db made =
      let kept = well (may honest).0 in
      let rows = (reopens.now honest).rows in
      let calls = calls_in old.now.trees in
      let batches = batches_in old.now.trees in
      let beside = beside_entry (applied w cs) e made.0 calls batches made.1 (may honest).2 (beside_changes w cs calls batches (read_beside old.now w rows.0 rows.1 rows.2)) in
      held_can_be_opened db (applied w cs) _ _ (may honest).1 beside (now_held old.now db w cs e kept.holds made) (made.2.texts calls batches kept.holds (reopens.now honest).texts)

  pub commit_reopens : Survives old new (λ trees. IsTrue old.is_open × (Kept → (db : Database) × MakesWith w cs e old.now db × (trees ≡ db.trees))) → (IsHonest new → IsHonest old)
      → (IsHonest new → Kept → MakesWith w cs e old.now new.now ⊎ (new.now ≡ old.now)) → Reopens new
  commit_reopens survives before made = record {
    now = λ honest. elim (made honest (may (before honest)).0) [
      | inl went ↦ made_can_be_opened (before honest) new.now went
      | inr left ↦ subst CanBeOpened (sym left) (reopens.now (before honest))
    ];
    stop = λ clean db is left.
        let early : HasCleanDisk old = omega (arith, survives.clean, clean) in
        elim (survives.crash clean db.trees left) [
          | inl earlier ↦ reopens.stop early db is earlier
          | inr ahead ↦ let went = ahead.1 (may (early, ahead.0)).0 in same_can_be_opened went.0 db is went.2 (made_can_be_opened (early, ahead.0) went.0 went.1)
        ];
  }
