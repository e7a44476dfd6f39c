-- Tables hold the same world after a read.
use Rattle.std.proofs.Common.{◌≡◌, IsTrue, sym, subst, ◌∙◌}
use Rattle.sqlite.specs.Effect.{Database}
use Rattle.sqlite.specs.State.{State, HasCleanDisk}
use Rattle.sched_book.specs.declared.world.World.{World}
use Rattle.table_meaning.specs.Reads.{Reads}
use Rattle.table_desk.specs.Asked.{Tell}

module _ (old now : State) (reads : Reads old now) (clean : HasCleanDisk now) (is_open : IsTrue now.is_open) (rests : old.now ≡ old.committed) where
  pub shown_later : now.now ≡ old.now
  shown_later = (reads.same clean is_open rests).0

  pub rests_later : now.now ≡ now.committed
  rests_later = shown_later ∙ rests ∙ sym (reads.same clean is_open rests).1

  pub tell_later : (w : World) → Tell old.now w → Tell now.now w
  tell_later w tell = subst (λ (db : Database). Tell db w) (sym shown_later) tell
