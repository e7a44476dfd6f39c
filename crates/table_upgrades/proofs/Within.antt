-- Steps within a transaction, one after another.
use Rattle.std.proofs.Common.{◌∙◌, arith}
use Rattle.std.specs.Borrow.{MutBor}
use Rattle.sqlite_trees.specs.declared.store.Store.{Ghosts}
use Rattle.sqlite.specs.Held.{Held, state}
use Rattle.sqlite.specs.State.{HasCleanDisk}
use Rattle.sqlite.proofs.InsideLemmas.{keeps_then}
use Rattle.table_meaning.proofs.StepLemmas.{survives_on}
use Rattle.table_upgrades.specs.Frames.{WithinTransaction, StaysWithin}

module _ {S : Type 0} (g : Ghosts S) (a b c : MutBor (Held S)) (first : WithinTransaction g a b) (stays : StaysWithin g a b) (then : WithinTransaction g b c) where
  pub early : HasCleanDisk (state g c.now) → HasCleanDisk (state g b.now)
  early clean = omega (arith, then.survives.clean)

  pub within_then : WithinTransaction g a c
  within_then = record {
    same_reference = then.same_reference ∙ first.same_reference;
    survives = survives_on (state g a.now) (state g b.now) (state g c.now) first.survives then.survives;
    kept = λ clean inside. keeps_then (state g a.now) (state g b.now) (state g c.now) (first.kept (early clean) inside) (then.kept clean (stays (early clean) inside));
  }

  pub stays_then : StaysWithin g b c → StaysWithin g a c
  stays_then stays_on clean inside = stays_on clean (stays (early clean) inside)
