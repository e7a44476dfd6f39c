-- The answers of look-ups of well kept tables are those of their world.
use Rattle.std.proofs.Common.{◌≡◌, subst, ◌∙◌}
use Rattle.sched_book.specs.declared.world.World.{World}
use Rattle.sqlite_trees.specs.declared.store.Store.{Ghosts}
use Rattle.sqlite.specs.Held.{Held, state}
use Rattle.table_desk.specs.Asked.{LooksUp}
use Rattle.table_meaning.specs.Kept.{calls_in, batches_in}
use Rattle.table_meaning.specs.Reads.{Reads}
use Rattle.table_meaning.proofs.StepLemmas.{reads_on}
use Rattle.sched_tables.specs.Held.{IsHonest}
use Rattle.sched_tables.specs.ReadLaws.{stays_same, was_honest, stays_both, rows_before, due_from_before}
use Rattle.sched_tables.specs.Views.{state_of, world_of, AreKept, AreReadOn}
use Rattle.sched_tables.specs.declared.tables.Tables.{Tables}

pub told : {S : Type 0} (store : Ghosts S) (t : Tables S) (after : Held S) (says : World → Type 0) → LooksUp store t.conn after says → IsHonest (state store after) → AreKept store t → says (world_of store t)
told store t after says asked honest kept =
    let trees = (state_of store t).now.trees in
    asked honest.0 honest.1 kept.0.rests (world_of store t) (record { calls = calls_in trees; batches = batches_in trees; holds = kept.0.holds; readable = kept.0.readable })

-- ---- reads, one after another

module _ {S : Type 0} (store : Ghosts S) (first mid : Tables S) (on : AreReadOn store first mid) (honest : IsHonest (state_of store mid)) (kept : AreKept store first) where
  pub kept_on : AreKept store mid
  kept_on = stays_both (state_of store first) (state_of store mid) on.0 honest first.settings mid.settings first.apps mid.apps first.cache mid.cache first.due_from mid.due_from on.1 on.2 (on.3 honest kept) (on.4 honest kept) kept

  pub same_on : world_of store mid ≡ world_of store first
  same_on = stays_same (state_of store first) (state_of store mid) on.0 honest kept.0

pub read_on : {S : Type 0} (store : Ghosts S) (first mid last : Tables S) → AreReadOn store first mid → AreReadOn store mid last → AreReadOn store first last
read_on store first mid last on later = (
  reads_on (state_of store first) (state_of store mid) (state_of store last) on.0 later.0,
  later.1 ∙ on.1,
  later.2 ∙ on.2,
  λ honest kept.
      let then = was_honest (state_of store mid) (state_of store last) later.0 honest in
      rows_before (state_of store first) (state_of store mid) on.0 then kept.0 last.cache (later.3 honest (kept_on store first mid on then kept)),
  λ honest kept.
      let then = was_honest (state_of store mid) (state_of store last) later.0 honest in
      due_from_before (state_of store first) (state_of store mid) on.0 then kept.0 last.due_from (later.4 honest (kept_on store first mid on then kept)),
)

-- an answer after another read is that of the world before both
pub answer_later : {S : Type 0} (store : Ghosts S) (first mid : Tables S) (after : Held S) (says : World → Type 0) → AreReadOn store first mid → Reads (state_of store mid) (state store after) → LooksUp store mid.conn after says
    → IsHonest (state store after) → AreKept store first → says (world_of store first)
answer_later store first mid after says on reads asked honest kept =
    let then = was_honest (state_of store mid) (state store after) reads honest in
    subst says (same_on store first mid on then kept) (told store mid after says asked honest (kept_on store first mid on then kept))
