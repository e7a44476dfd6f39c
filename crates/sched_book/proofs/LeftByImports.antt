-- What an import leaves as it is.
use Rattle.std.proofs.Common.{◌≡◌, refl}
use Rattle.sched_book.specs.Imports.{with_rows}
use Rattle.sched_book.specs.declared.rows.Rows.{Rows}
use Rattle.sched_book.specs.declared.rows.Rows.TheVariants as rows
use Rattle.sched_book.specs.declared.world.World.{World}

pub settings_with_rows : (w : World) (new : Rows) → (with_rows w new).settings ≡ w.settings
settings_with_rows w (rows.Accounts xs) = refl
settings_with_rows w (rows.Apps xs) = refl
settings_with_rows w (rows.Versions xs) = refl
settings_with_rows w (rows.Workunits xs) = refl

pub hosts_with_rows : (w : World) (new : Rows) → (with_rows w new).hosts ≡ w.hosts
hosts_with_rows w (rows.Accounts xs) = refl
hosts_with_rows w (rows.Apps xs) = refl
hosts_with_rows w (rows.Versions xs) = refl
hosts_with_rows w (rows.Workunits xs) = refl
