use Rattle.std.proofs.Common.{◌≡◌, drop}
use Rattle.std.specs.Prelude.{filter, fold}
use Rattle.std.specs.Option.{option_copied}
use Rattle.sched_book.specs.Fits.{is_version_for, newer, newest_version}
use Rattle.sched_book.proofs.versions.newest_for.Given as goal

-- the best so far, and the versions that are left
abbrev pub invariant-loop-version : goal.invariant-loop-version
invariant-loop-version l =
    fold newer (option_copied l.best) (filter (is_version_for l.app l.platform) (drop l.version-index l.versions))
    ≡ newest_version (filter (is_version_for l.app l.platform) l.versions)
