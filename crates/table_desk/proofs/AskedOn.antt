-- The answers of several reads, one after another, are answers of the tables as they were before the first one.
use Rattle.std.proofs.Common.{arith}
use Rattle.sqlite_trees.specs.declared.store.Store.{Ghosts}
use Rattle.sqlite.specs.Held.{Held, state}
use Rattle.sqlite.specs.State.{State, HasCleanDisk}
use Rattle.sched_book.specs.declared.world.World.{World}
use Rattle.table_meaning.specs.Reads.{Reads}
use Rattle.table_desk.specs.Asked.{LooksUp}
use Rattle.table_desk.proofs.ReadLater.{rests_later, tell_later}

was_clean : (mid last : State) → Reads mid last → HasCleanDisk last → HasCleanDisk mid
was_clean mid last read clean = omega (arith, read.survives.clean, clean)

module _ {S : Type 0} (store : Ghosts S) (first mid last : Held S) {says : World → Type 0} where
  -- the answer of a read, if another follows
  pub asked_before : Reads (state store mid) (state store last) → LooksUp store first mid says → LooksUp store first last says
  asked_before read asked = λ clean is_open. asked (was_clean (state store mid) (state store last) read clean) (read.was_open clean is_open)

  -- the answer of a read that follows another
  pub asked_after : Reads (state store first) (state store mid) → Reads (state store mid) (state store last) → LooksUp store mid last says → LooksUp store first last says
  asked_after so_far read asked = λ clean is_open rests w tell.
      let clean_then = was_clean (state store mid) (state store last) read clean in
      let open_then = read.was_open clean is_open in
      asked clean is_open (rests_later (state store first) (state store mid) so_far clean_then open_then rests) w (tell_later (state store first) (state store mid) so_far clean_then open_then rests w tell)
