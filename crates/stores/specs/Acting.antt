-- Promise. What a call that may commit owes for any answer. (This project's own.)
use Rattle.std.specs.Prelude.{◌≡◌, ◌⊎◌, Bool, true, false}
use Rattle.sched_book.specs.declared.desk.Unavailable.{Unavailable}
use Rattle.sched_book.specs.declared.desk.Units as units
use Rattle.sched_book.specs.declared.world.World.{World}
use Rattle.stores.specs.Held.{Held, IsLeft}
use Rattle.stores.specs.Standing.{MayStand}

-- The ghosts of a store, in one record.
abbrev pub Parts : Type 0 → Type 1
Parts S = record {
  world : S → World;
  honest : S → Type 0;
  well_kept : S → Type 0;
  reads : S → S → Type 0;
  may_fail : S → Unavailable → Type 0;
  holds : S → Held;
  clean : S → Type 0;
  lasting : Type 0;
  may_leave : S → Held → Type 0;
  reopens : S → Type 0;
}

-- the ghosts of a desk, with those of its store
abbrev pub parts_of : {S : Type 0} → units.Ghosts S → (S → Held) → (S → Type 0) → Type 0 → (S → Held → Type 0) → (S → Type 0) → Parts S
parts_of desk holds clean lasting may_leave reopens = record {
  world = desk.world;
  honest = desk.honest;
  well_kept = desk.well_kept;
  reads = desk.reads;
  may_fail = desk.may_fail;
  holds = holds;
  clean = clean;
  lasting = lasting;
  may_leave = may_leave;
  reopens = reopens;
}

-- What a call owes, with a good answer or another. P says what the call makes of what the store held.
pub record Acts {S : Type 0} (store : Parts S) (good : Bool) (P : Held → Type 0) (old new : S) : Type 0 where
  -- what is clean after the call was clean before it, and so for honest
  pub was_clean : store.clean new → store.clean old
  pub was_honest : store.honest new → store.honest old
  -- a good answer comes from a store that is open
  pub is_open : store.clean new → good ≡ true → store.honest new
  -- a store that lasts is never shut
  pub lasts : store.lasting → store.honest old → store.honest new
  -- it stays well kept
  pub stays_kept : store.honest new → store.well_kept old → store.well_kept new
  -- A stop at any moment leaves what it could leave before. If the store was open and well kept, it may also leave what P says.
  pub left : (h : Held) → store.may_leave new h → store.may_leave old h ⊎ (store.honest old × (store.well_kept old → P h))
  -- A store that could be opened again still can be, if everything that P allows can be opened again.
  pub reopens : store.reopens old → (store.honest old → store.well_kept old × ((h : Held) → P h → MayStand h)) → store.reopens new

-- The call acts. If its answer is not good and the store is open, it changed nothing.
pub record ActsWhole {S : Type 0} (store : Parts S) (good : Bool) (P : Held → Type 0) (old new : S) : Type 0 where
  pub acts : Acts store good P old new
  pub unchanged : store.honest new → store.well_kept old → good ≡ false → IsLeft (store.holds old) (store.holds new)
