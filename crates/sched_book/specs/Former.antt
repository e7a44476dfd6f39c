-- Promise. Worlds and rows from before versions had classes: the class of each version is its platform, and no workunit
-- is marked. (This project's own.)
use Rattle.std.specs.Prelude.{◌≡◌}
use Rattle.std.specs.List.{All}
use Rattle.sched_book.specs.Imports.{Shelf}
use Rattle.sched_book.specs.declared.instance.UnitBook.{UnitBook}
use Rattle.sched_book.specs.declared.rows.ClassRule.TheVariants.{Any}
use Rattle.sched_book.specs.declared.rows.Rows.{Rows}
use Rattle.sched_book.specs.declared.rows.Rows.TheVariants as rows
use Rattle.sched_book.specs.declared.rows.Version.{Version}
use Rattle.sched_book.specs.declared.rows.Workunit.{Workunit}
use Rattle.sched_book.specs.declared.world.World.{World}

abbrev pub IsOfItsPlatform : Version → Type 0
IsOfItsPlatform v = v.class ≡ v.platform

abbrev pub IsUnmarked : Workunit → Type 0
IsUnmarked u = u.class_rule ≡ Any

-- The class of each version is its platform, and no workunit is marked: the worlds that tables without classes hold.
pub record IsUnclassed (w : World) : Type 0 where
  pub versions : All IsOfItsPlatform w.versions
  pub units : All (λ (b : UnitBook). IsUnmarked b.unit) w.units

-- the same of the rows of an import
abbrev pub AreUnclassed : Rows → Type 0
AreUnclassed (rows.Accounts xs) = Unit {0}
AreUnclassed (rows.Apps xs) = Unit {0}
AreUnclassed (rows.Versions xs) = All IsOfItsPlatform xs
AreUnclassed (rows.Workunits xs) = All IsUnmarked xs

-- the same of the rows of all imports together
pub record HasNoClasses (s : Shelf) : Type 0 where
  pub versions : All IsOfItsPlatform s.versions
  pub units : All IsUnmarked s.units
