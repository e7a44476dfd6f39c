-- The rows of an import fit, and lead to a sound world, if they were checked.
use Rattle.std.proofs.Common.{List, [], ◌∷◌, ◌++◌, map, arith}
use Rattle.std.proofs.lemmas.List.Elements.{All-cons, All-head, All-tail}
use Rattle.std.specs.Prelude.{All, IsTrue}
use Rattle.sched_book.specs.Delta.{applied, RowsFit, Fits}
use Rattle.sched_book.specs.Imports.{AreChecked, with_rows, new_unit, has_app}
use Rattle.sched_book.specs.Limits.{IsAccountInLimits, IsAppInLimits, IsUnitInLimits}
use Rattle.sched_book.specs.Sound.{IsSoundUnit, IsSoundVersion, Sound}
use Rattle.sched_book.specs.declared.delta.Delta.TheVariants as delta
use Rattle.sched_book.specs.declared.rows.App.{App}
use Rattle.sched_book.specs.declared.rows.HostRow.{HostRow}
use Rattle.sched_book.specs.declared.rows.Rows.{Rows}
use Rattle.sched_book.specs.declared.rows.Rows.TheVariants as rows
use Rattle.sched_book.specs.declared.rows.Workunit.{Workunit}
use Rattle.sched_book.specs.declared.world.World.{World}
use Rattle.sched_machine.proofs.Rows.Import.{rows_added}

-- what holds of two lists together holds of the second
behind : {X : Type 0} (P : X → Type 0) (xs ys : List X) → All P (xs ++ ys) → All P ys
behind P [] ys all = all
behind P (x ∷ xs) ys all = behind P xs ys (All-tail P x (xs ++ ys) all)

-- new workunits that are sound are of existing applications, with values in range
abbrev IsInRange : List App → Workunit → Type 0
IsInRange apps u = IsTrue (has_app apps u.app) × IsUnitInLimits u

units_fit : (hosts : List HostRow) (apps : List App) (us : List Workunit) → All (IsSoundUnit hosts apps) (map new_unit us) → All (IsInRange apps) us
units_fit hosts apps [] sound = λ k d within. absurd (omega arith)
units_fit hosts apps (u ∷ us) sound =
    let first = All-head (IsSoundUnit hosts apps) (new_unit u) (map new_unit us) sound in
    All-cons (IsInRange apps) u us (first.well.app, first.well.limits) (units_fit hosts apps us (All-tail (IsSoundUnit hosts apps) (new_unit u) (map new_unit us) sound))

-- Rows fit a world if the world with them is sound.
fit_beside : (w : World) (new : Rows) → Sound (with_rows w new) → RowsFit w new
fit_beside w (rows.Accounts xs) sound = (sound.rows.account_count, behind IsAccountInLimits w.accounts xs sound.rows.accounts)
fit_beside w (rows.Apps xs) sound = (sound.rows.app_count, behind IsAppInLimits w.apps xs sound.rows.apps)
fit_beside w (rows.Versions xs) sound = (sound.rows.version_count, behind (IsSoundVersion w.apps) w.versions xs sound.rows.versions)
fit_beside w (rows.Workunits xs) sound =
    (sound.rows.unit_count, units_fit w.hosts w.apps xs (behind (IsSoundUnit w.hosts w.apps) w.units (map new_unit xs) sound.units))

pub rows_fit : (new : Rows) (w : World) → Sound w → AreChecked w new → Fits w (delta.Rows new)
rows_fit new w sound checked = fit_beside w new (rows_added w new sound checked)

pub rows_sound : (new : Rows) (w : World) → Sound w → AreChecked w new → Sound (applied w (delta.Rows new))
rows_sound new w sound checked = rows_added w new sound checked

pub ruleset import_steps = (rows_fit, rows_sound)
