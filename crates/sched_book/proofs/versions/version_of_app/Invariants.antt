use Rattle.std.proofs.Common.{◌≡◌, drop}
use Rattle.sched_book.specs.Fits.{version_among}
use Rattle.sched_book.proofs.versions.version_of_app.Given as goal

-- no platform so far has a version
abbrev pub invariant-loop-platform : goal.invariant-loop-platform
invariant-loop-platform l =
    version_among l.versions l.app (drop l.platform-index l.platforms) ≡ version_among l.versions l.app l.platforms
