use Rattle.std.proofs.Common.{◌≡◌, IsTrue, Some, drop}
use Rattle.std.specs.Str.{bytes_eq}
use Rattle.sqlite.specs.Held.{state}
use Rattle.sqlite.specs.State.{HasCleanDisk}
use Rattle.sched_book.specs.Fits.{version_among}
use Rattle.sched_book.specs.Places.{place_where}
use Rattle.sched_book.specs.declared.rows.App.{App}
use Rattle.sched_book.specs.declared.world.World.{World}
use Rattle.table_meaning.specs.Reads.{Reads}
use Rattle.table_desk.specs.Asked.{Tell}
use Rattle.table_desk.proofs.apps.version_among.Given as goal

-- no platform so far has a version
abbrev pub invariant-loop-platform : goal.invariant-loop-platform
invariant-loop-platform g l =
    let old = state g.S.Store l.fn.conn in
    let now = state g.S.Store l.conn in
    Reads old now
    × (HasCleanDisk now → IsTrue now.is_open → old.now ≡ old.committed → (w : World) → Tell old.now w → Some l.place ≡ place_where (λ (a : App). bytes_eq a.name l.app) w.apps
    → version_among w.versions l.app l.platforms ≡ version_among w.versions l.app (drop l.platform-index l.platforms))
