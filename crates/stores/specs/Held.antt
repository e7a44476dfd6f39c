-- Promise. What a store holds, and what a commit makes of it. (This project's own.)
use Rattle.std.specs.Prelude.{◌≡◌, ℕ, ◌&&◌, ◌==◌, if◌then◌else◌, true, List, [], ◌∷◌, take, Option, Some, None}
use Rattle.std.specs.Str.{bytes_eq}
use Rattle.reply_register.specs.Calls.{is_above_all}
use Rattle.reply_register.specs.declared.kept.Kept.{Kept}
use Rattle.sched_book.specs.Delta.{applied, Fits}
use Rattle.sched_book.specs.Sound.{Sound}
use Rattle.sched_book.specs.Step.{empty_world}
use Rattle.sched_book.specs.declared.delta.Delta.{Delta}
use Rattle.sched_book.specs.declared.settings.Settings.{Settings}
use Rattle.sched_book.specs.declared.world.World.{World}
use Rattle.stores.specs.Eras.{kept_before_last, this_era}
use Rattle.stores.specs.Kinds.{same_kind}
use Rattle.stores.specs.declared.batch.KeptBatch.{KeptBatch}
use Rattle.stores.specs.declared.entry.Entry.{Entry}
use Rattle.stores.specs.declared.entry.Entry.TheVariants as entry
use Rattle.stores.specs.declared.kind.Kind.{Kind}

-- the kept calls by the number of their host, the last call first
abbrev pub Calls : Type 0
Calls = ℕ → List Kept

-- the kept imports by kind and name
abbrev pub Batches : Type 0
Batches = Kind → List ℕ → Option KeptBatch

-- What a store holds: a world, the kept calls and the kept imports.
pub record Held : Type 0 where
  pub world : World
  pub calls : Calls
  pub batches : Batches

-- the kept calls, with these at a number
abbrev pub put_at : ℕ → List Kept → Calls → Calls
put_at number calls kept n = if number == n then calls else kept n

-- the kept calls, with this one in front of the latest of those at its host's number
abbrev pub put_call : ℕ → ℕ → Kept → Calls → Calls
put_call era host call kept = put_at host (call ∷ take (kept_before_last era) (kept host)) kept

-- the kept calls once an entry is kept
abbrev pub calls_with : Entry → Calls → Calls
calls_with (entry.Kept host kept) calls = put_call this_era host kept calls
calls_with (entry.Batch kind batch kept) calls = calls
calls_with entry.Nothing calls = calls

-- the kept imports once an entry is kept
abbrev pub batches_with : Entry → Batches → Batches
batches_with (entry.Batch kind batch kept) batches k b = if same_kind kind k && bytes_eq batch b then Some kept else batches k b
batches_with (entry.Kept host kept) batches k b = batches k b
batches_with entry.Nothing batches k b = batches k b

-- A call's number is above those of the kept calls of its host.
abbrev pub IsNewest : Entry → Calls → Type 0
IsNewest (entry.Kept host kept) calls = is_above_all kept.seqno (calls host) ≡ true
IsNewest (entry.Batch kind batch kept) calls = Unit {0}
IsNewest entry.Nothing calls = Unit {0}

-- The changes fit, and a call is the newest of its host.
pub record MayBeCommitted (delta : Delta) (e : Entry) (old : Held) : Type 0 where
  pub fits : Fits old.world delta
  pub newest : IsNewest e old.calls

-- The changes are made and the entry is kept. Everything else is as it was.
pub record IsCommitted (delta : Delta) (e : Entry) (old new : Held) : Type 0 where
  pub world_is : new.world ≡ applied old.world delta
  pub calls_are : (host : ℕ) → new.calls host ≡ calls_with e old.calls host
  pub batches_are : (kind : Kind) (batch : List ℕ) → new.batches kind batch ≡ batches_with e old.batches kind batch

-- If the changes and the entry may be committed and leave a sound world, they are committed.
abbrev pub IsKeptSoundly : Delta → Entry → Held → Held → Type 0
IsKeptSoundly delta e old new = MayBeCommitted delta e old → Sound (applied old.world delta) → IsCommitted delta e old new

-- Nothing was changed.
pub record IsLeft (old new : Held) : Type 0 where
  pub world_is : new.world ≡ old.world
  pub calls_are : (host : ℕ) → new.calls host ≡ old.calls host
  pub batches_are : (kind : Kind) (batch : List ℕ) → new.batches kind batch ≡ old.batches kind batch

-- The store holds only these settings, and keeps nothing.
pub record IsNew (s : Settings) (held : Held) : Type 0 where
  pub world_is : held.world ≡ empty_world s
  pub calls_are : (host : ℕ) → held.calls host ≡ []
  pub batches_are : (kind : Kind) (batch : List ℕ) → held.batches kind batch ≡ None
