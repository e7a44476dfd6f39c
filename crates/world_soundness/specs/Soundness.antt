-- Words. The parts of a sound world; for each of them there is one function that decides it.
use Rattle.std.specs.Prelude.{◌≢◌, ℕ, ◌+◌, ◌<◌, ◌≤◌, IsTrue, List, length, count_by, All, AllPairs, IfSome}
use Rattle.sched_book.specs.Count.{is_judged, report_place}
use Rattle.sched_book.specs.Imports.{has_app, same_version}
use Rattle.sched_book.specs.Limits.{most_accounts, most_apps, most_versions, most_workunits, most_instances, AreSettingsInLimits, IsAccountInLimits, IsAppInLimits, IsUnitInLimits, IsInstanceInLimits}
use Rattle.sched_book.specs.Sound.{HaveOtherKeys, IsSoundHost, IsSoundVersion, IsBare, HasOwnerAmong, has_place}
use Rattle.sched_book.specs.declared.instance.Instance.{Instance}
use Rattle.sched_book.specs.declared.instance.UnitBook.{UnitBook}
use Rattle.sched_book.specs.declared.rows.App.{App}
use Rattle.sched_book.specs.declared.rows.HostRow.{HostRow}
use Rattle.sched_book.specs.declared.world.World.{World}

-- no table is longer than it may be
pub record FitsItsTables (w : World) : Type 0 where
  pub accounts : length w.accounts ≤ most_accounts
  pub apps : length w.apps ≤ most_apps
  pub versions : length w.versions ≤ most_versions
  pub units : length w.units ≤ most_workunits
  pub hosts : length w.hosts ≤ w.settings.max_hosts

-- the settings and each row are in range, and what a row refers to exists; workunits are left out
pub record AreRowsWell (w : World) : Type 0 where
  pub settings : AreSettingsInLimits w.settings
  pub accounts : All IsAccountInLimits w.accounts
  pub apps : All IsAppInLimits w.apps
  pub versions : All (IsSoundVersion w.apps) w.versions
  pub hosts : All (IsSoundHost (length w.accounts) w.settings.daily_result_quota) w.hosts

-- names, authenticators and keys occur once
pub record KeysOccurOnce (w : World) : Type 0 where
  pub accounts : AllPairs (λ a b. a.authenticator ≢ b.authenticator) w.accounts
  pub apps : AllPairs (λ a b. a.name ≢ b.name) w.apps
  pub versions : AllPairs (λ a b. IsTrue (same_version a b) → ⊥) w.versions
  pub units : AllPairs (λ a b. a.unit.name ≢ b.unit.name) w.units
  pub hosts : AllPairs HaveOtherKeys w.hosts

-- a workunit's row is in range, its application exists, and it has no more instances than it may
pub record IsUnitRowWell (apps : List App) (b : UnitBook) : Type 0 where
  pub few : length b.instances ≤ most_instances
  pub app : IsTrue (has_app apps b.unit.app)
  pub limits : IsUnitInLimits b.unit

-- the places of the judged reports are 1 up to their count
pub record ArePlacedInTurn (xs : List Instance) : Type 0 where
  pub places : (n : ℕ) → n < count_by is_judged xs → IsTrue (has_place xs (n + 1))
  pub in_range : All (λ x. IfSome (report_place x) (λ place. place ≤ count_by is_judged xs)) xs

-- each instance is in range, its host exists, and it is bare if it was given to nobody
pub record AreWellEach (hosts : List HostRow) (xs : List Instance) : Type 0 where
  pub bare : All IsBare xs
  pub owners : All (HasOwnerAmong hosts) xs
  pub limits : All IsInstanceInLimits xs
