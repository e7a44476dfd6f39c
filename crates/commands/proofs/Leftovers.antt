-- What is left of files that could not be opened, as the library says it, by what the files held.
use Rattle.std.proofs.Common.{◌≡◌, ℕ, Bool, true, false, cond, List, [], ◌∷◌, Option, Some, None, refl, sym, subst, subst₂, inl, inr, arith}
use Rattle.std.specs.Prelude.{IfSome}
use Rattle.sqlite.specs.Files.{HoldsDatabase, AreFoundIn, IsCleanLeft, IsNothing, LeavesFiles, image_of}
use Rattle.sqlite.specs.declared.file.Leftover.{Leftover}
use Rattle.sqlite.specs.declared.file.Leftover.TheVariants as rest
use Rattle.sqlite.proofs.FileLemmas.{is_something}
use Rattle.sqlite_disk.specs.Events.{Event, replay, settled}
use Rattle.sqlite_disk.specs.History.{MayLeave}
use Rattle.sqlite_disk.specs.declared.Disk as disk
use Rattle.sqlite_disk.specs.declared.Files.{Files}
use Rattle.sqlite_pool.specs.Stored.{StandsAs}
use Rattle.sqlite_store.specs.Unopened.{state_of}
use Rattle.sqlite_trees.specs.Tree.{Trees}
use Rattle.sqlite_trees.specs.View.{doubt}
use Rattle.sqlite_wal.specs.Files.{outcomes}
use Rattle.sqlite_wal.specs.Recovery.{Image}
use Rattle.commands.specs.Leftovers.{LeavesAsHeld}

-- ---- files of which nothing was asked

-- what a stop leaves of a file that was settled, and on which nothing was done
settled_alone : (mixes : Bool) (start : List ℕ) (key : ℕ) (c : List ℕ)
    → (let m = replay start (settled key ∷ []) in MayLeave mixes m.seen m.synced m.steps c) → c ≡ start
settled_alone mixes start key c (inl same) = same
settled_alone mixes start key c (inr same) = same

module _ (mixes : Bool) (log db : List ℕ) where
  pub leaves_held : (is_log wanted : Bool) (key : ℕ) (history : List Event) (c : List ℕ) → is_log ≡ wanted → history ≡ settled key ∷ []
      → (let m = replay (cond is_log log db) history in MayLeave mixes m.seen m.synced m.steps c) → c ≡ cond wanted log db
  leaves_held is_log wanted key history c side fresh may =
      settled_alone mixes (cond wanted log db) key c
      (subst₂ (λ (b : Bool) (h : List Event). let m = replay (cond b log db) h in MayLeave mixes m.seen m.synced m.steps c) side fresh may)

-- ---- an opening that failed

clean_so : (b : Bool) → doubt b ≡ 0 → b ≡ true
unfolding doubt
clean_so true none = refl
clean_so false none = absurd (omega (arith, none))

-- what holds of something holds of what it leads to
pub some_map : {A : Type 0} (P Q : A → Type 0) (o : Option A) → ((a : A) → P a → Q a) → IfSome o P → IfSome o Q
some_map P Q None leads p = tt
some_map P Q (Some a) leads p = leads a p

module _ {D : Type 0} {g : disk.Ghosts D} (files : Files D) (before : Image) (same : image_of g files ≡ before) (only : (image : Image) → outcomes g files.log files.db image → image ≡ before) where
  pub left_as_held : (last : Leftover D g) → (IsCleanLeft last → LeavesFiles files last) → LeavesAsHeld (λ _. ⊥) before last
  left_as_held (rest.Files now) leaves = λ clean image may. only image (leaves clean image may)
  left_as_held (rest.Unopened now) leaves = λ clean db holds image may. elim (leaves clean) [
    | inl nothing ↦ absurd (is_something before db holds (subst IsNothing same nothing.0))
    | inr kept ↦ elim (kept.4 image may).same [ inl was ↦ inl (only image was) | inr stands ↦ inr (subst (λ (i : Image). StandsAs (state_of now).page_size i image) same stands) ]
  ]
  left_as_held (rest.Store it) leaves = λ clean found may.
      let was = leaves (clean_so _ clean) found may in
      inl (subst (λ (i : Image). AreFoundIn i found) same was.0, λ db holds. was.1 db (subst (λ (i : Image). HoldsDatabase i db) (sym same) holds))

module _ {D : Type 0} {g : disk.Ghosts D} (before : Image) where
  -- what holds of all that is left holds if something else may be left, too
  pub as_held_or : (Or : Trees → Type 0) (last : Leftover D g) → LeavesAsHeld (λ _. ⊥) before last → LeavesAsHeld Or before last
  as_held_or Or (rest.Files now) leaves = leaves
  as_held_or Or (rest.Unopened now) leaves = leaves
  as_held_or Or (rest.Store it) leaves = λ clean found may. elim (leaves clean found may) [ inl held ↦ inl held | inr none ↦ absurd none ]
