-- Rule. Changes of a world: the rows of an import, or the edits of a call or of a tick.
use Rattle.std.specs.Prelude.{ℕ, ◌+◌, ◌-◌, ◌<◌, ◌≤◌, ◌==◌, IsTrue, nat_lt, if◌then◌else◌, List, [], ◌∷◌, ◌++◌, All, length, map, fold, slice_set, is_some, IfSome}
use Rattle.sched_book.specs.Classes.{with_class}
use Rattle.sched_book.specs.Places.{nth, unit_at}
use Rattle.sched_book.specs.Reports.{modify_nth}
use Rattle.sched_book.specs.Imports.{new_unit, has_app, with_rows}
use Rattle.sched_book.specs.Limits.{most_accounts, most_apps, most_versions, most_workunits, most_instances, IsAccountInLimits, IsAppInLimits, IsUnitInLimits, IsHostInLimits, IsInstanceInLimits}
use Rattle.sched_book.specs.Sound.{IsBare, HasOwnerAmong, IsSoundVersion}
use Rattle.sched_book.specs.declared.delta.Delta.{Delta}
use Rattle.sched_book.specs.declared.delta.Delta.TheVariants as delta
use Rattle.sched_book.specs.declared.delta.Edit.{Edit}
use Rattle.sched_book.specs.declared.delta.Edit.TheVariants as edit
use Rattle.sched_book.specs.declared.instance.Instance.{Instance}
use Rattle.sched_book.specs.declared.instance.UnitBook.{UnitBook}
use Rattle.sched_book.specs.declared.rows.Rows.{Rows}
use Rattle.sched_book.specs.declared.rows.Rows.TheVariants as rows
use Rattle.sched_book.specs.declared.rows.Workunit.{Workunit}
use Rattle.sched_book.specs.declared.world.World.{World}
use Rattle.texts.specs.Words.{IsWord}

-- the list with x at an index: it replaces the element there, or follows the others
abbrev pub set_at : {X : Type 0} → List X → ℕ → X → List X
set_at xs i x = if nat_lt i (length xs) then slice_set xs i x else xs ++ x ∷ []

-- the same, with places that count from 1; at place 0 nothing changes
abbrev pub set_nth : {X : Type 0} → List X → ℕ → X → List X
set_nth xs n x = if n == 0 then xs else set_at xs (n - 1) x

-- a workunit with an instance put at a number
abbrev pub with_instance : ℕ → Instance → UnitBook → UnitBook
with_instance number x b = record b { instances = set_at b.instances number x }

-- the world after one edit
abbrev pub edited_one : World → Edit → World
edited_one w (edit.Host number h) = record w { hosts = set_nth w.hosts number h }
edited_one w (edit.Instance p x) = record w { units = modify_nth (with_instance p.number x) w.units p.unit }
edited_one w (edit.Class unit class) = record w { units = modify_nth (with_class class) w.units unit }

-- the world after edits; later ones override earlier ones
abbrev pub edited : World → List Edit → World
edited w edits = fold edited_one w edits

-- the world after changes
abbrev pub applied : World → Delta → World
applied w (delta.Rows new) = with_rows w new
applied w (delta.Edits edits) = edited w edits

-- An edit fits a world: its place is an existing one or the next, what it refers to exists, its values are in range, and
-- its table has room. An instance without owner has neither lapse nor report.
abbrev pub EditFits : World → Edit → Type 0
EditFits w (edit.Host number h) =
    (1 ≤ number) × (number ≤ length w.hosts + 1) × (number ≤ w.settings.max_hosts)
    × IsTrue (is_some (nth w.accounts h.account)) × IsHostInLimits w.settings.daily_result_quota h
EditFits w (edit.Instance p x) =
    IsTrue (is_some (unit_at w p.unit)) × (p.number < most_instances) × IfSome (unit_at w p.unit) (λ b. p.number ≤ length b.instances)
    × HasOwnerAmong w.hosts x × IsBare x × IsInstanceInLimits x
EditFits w (edit.Class unit class) = IsTrue (is_some (unit_at w unit)) × IsWord class

-- each edit fits the world that the edits before it leave
abbrev pub EditsFit : World → List Edit → Type 0
EditsFit w [] = Unit {0}
EditsFit w (e ∷ es) = EditFits w e × EditsFit (edited_one w e) es

-- New rows fit a world: their table has room for them, what they refer to exists, and their values are in range.
abbrev pub RowsFit : World → Rows → Type 0
RowsFit w (rows.Accounts xs) = (length (w.accounts ++ xs) ≤ most_accounts) × All IsAccountInLimits xs
RowsFit w (rows.Apps xs) = (length (w.apps ++ xs) ≤ most_apps) × All IsAppInLimits xs
RowsFit w (rows.Versions xs) = (length (w.versions ++ xs) ≤ most_versions) × All (IsSoundVersion w.apps) xs
RowsFit w (rows.Workunits xs) =
    (length (w.units ++ map new_unit xs) ≤ most_workunits) × All (λ (u : Workunit). IsTrue (has_app w.apps u.app) × IsUnitInLimits u) xs

-- changes fit a world
abbrev pub Fits : World → Delta → Type 0
Fits w (delta.Rows new) = RowsFit w new
Fits w (delta.Edits edits) = EditsFit w edits
