-- Rule. What a store may hold so that it can be opened again. (This project's own.)
use Rattle.std.specs.Prelude.{ℕ, ◌≤◌, IsTrue, List, length, is_some, All, IfSome}
use Rattle.texts.specs.Words.{is_word}
use Rattle.sched_book.specs.Places.{host_at}
use Rattle.sched_book.specs.Sound.{Sound}
use Rattle.sched_book.specs.declared.world.World.{World}
use Rattle.stores.specs.Held.{Held}
use Rattle.stores.specs.declared.entry.Entry.{Entry}
use Rattle.stores.specs.declared.entry.Entry.TheVariants as entry
use Rattle.stores.specs.declared.kind.Kind.{Kind}

-- the greatest number of a call
abbrev pub last_seqno : ℕ
last_seqno = 2147483647

-- the longest text of an import, in bytes
abbrev pub most_import_bytes : ℕ
most_import_bytes = 1048576

-- What an entry keeps may be kept with a world. A call must be of a host that exists, with its number in range. An import must have a word
-- as its name, and a text that is not too long.
abbrev pub MayBeKept : World → Entry → Type 0
MayBeKept w (entry.Kept host k) = IsTrue (is_some (host_at w host)) × (k.seqno ≤ last_seqno)
MayBeKept w (entry.Batch kind name b) = IsTrue (is_word name) × (length b.text ≤ most_import_bytes)
MayBeKept w entry.Nothing = Unit {0}

-- The world is sound, and everything that is kept may be kept with it.
pub record MayStand (held : Held) : Type 0 where
  pub sound : Sound held.world
  pub calls : (host : ℕ) → All (λ k. MayBeKept held.world (entry.Kept host k)) (held.calls host)
  pub batches : (kind : Kind) (name : List ℕ) → IfSome (held.batches kind name) (λ b. MayBeKept held.world (entry.Batch kind name b))
