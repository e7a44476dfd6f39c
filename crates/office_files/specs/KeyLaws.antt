-- Words. Versions are the same exactly if their keys are.
use Rattle.std.specs.Prelude.{◌≡◌, Bool, true, false, ◌&&◌, ◌==◌, refl}
use Rattle.std.specs.Str.{bytes_eq}
use Rattle.sched_book.specs.Imports.{same_version}
use Rattle.sched_book.specs.declared.rows.Version.{Version}
use Rattle.sched_book.specs.Keys.{same_key, version_key}

turned : (app platform number : Bool) → (app && platform && number) ≡ ((number && platform) && app)
turned true true true = refl
turned true true false = refl
turned true false true = refl
turned true false false = refl
turned false true true = refl
turned false true false = refl
turned false false true = refl
turned false false false = refl

pub same_version_by_key : (x y : Version) → same_version x y ≡ same_key (version_key x) (version_key y)
same_version_by_key x y = turned (bytes_eq x.app y.app) (bytes_eq x.platform y.platform) (x.version_num == y.version_num)
