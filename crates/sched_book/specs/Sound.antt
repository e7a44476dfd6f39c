-- Rule. What holds of every world that a run reaches.
use Rattle.std.specs.Prelude.{◌≡◌, ◌≢◌, ℕ, ◌+◌, ◌<◌, ◌≤◌, Bool, ◌==◌, IsTrue, List, length, count_by, All, AllPairs, is_some, None, IfSome}
use Rattle.std.specs.List.{list_any}
use Rattle.sched_book.specs.Count.{is_open, need, is_judged, report_place}
use Rattle.sched_book.specs.Places.{nth, option_any, book_status, host_of, user_of}
use Rattle.sched_book.specs.Limits.{most_accounts, most_apps, most_versions, most_workunits, most_instances, AreSettingsInLimits, IsAccountInLimits, IsAppInLimits, IsVersionInLimits, IsUnitInLimits, IsHostInLimits, IsInstanceInLimits}
use Rattle.sched_book.specs.Imports.{has_app, same_version}
use Rattle.sched_book.specs.declared.instance.Instance.{Instance}
use Rattle.sched_book.specs.declared.instance.UnitBook.{UnitBook}
use Rattle.sched_book.specs.declared.rows.App.{App}
use Rattle.sched_book.specs.declared.rows.ClassRule.TheVariants.{OfFirst}
use Rattle.sched_book.specs.declared.rows.HostRow.{HostRow}
use Rattle.sched_book.specs.declared.rows.Version.{Version}
use Rattle.sched_book.specs.declared.world.World.{World}

-- the two were not given to hosts of the same user
abbrev pub AreOfOtherUsers : List HostRow → Instance → Instance → Type 0
AreOfOtherUsers hosts x y = IsTrue (is_some (host_of x)) → IsTrue (is_some (host_of y)) → user_of hosts x ≢ user_of hosts y

-- an instance that was given to nobody has neither lapse nor report
abbrev pub IsBare : Instance → Type 0
IsBare x = x.owner ≡ None → (x.lapse ≡ None) × (x.report ≡ None)

-- the host that it was given to exists
abbrev pub HasOwnerAmong : List HostRow → Instance → Type 0
HasOwnerAmong hosts x = IfSome (host_of x) (λ host. IsTrue (is_some (nth hosts host)))

-- a workunit that has not yet taken its class has no instance that was given out
abbrev pub HasClassOnceGiven : UnitBook → Type 0
HasClassOnceGiven b = b.unit.class_rule ≡ OfFirst → All (λ x. x.owner ≡ None) b.instances

-- some judged report has the place n
abbrev pub has_place : List Instance → ℕ → Bool
has_place xs n = list_any (λ x. option_any (λ place. place == n) (report_place x)) xs

-- A workunit with its instances, if these are the hosts and applications. Left out are the instances that it needs and
-- its class: these it has between two steps, but not always within one.
pub record IsWellUnit (hosts : List HostRow) (apps : List App) (b : UnitBook) : Type 0 where
  pub one_for_each_user : AllPairs (AreOfOtherUsers hosts) b.instances
  -- the places of the judged reports are 1 up to their count
  pub places : (n : ℕ) → n < count_by is_judged b.instances → IsTrue (has_place b.instances (n + 1))
  pub in_range : All (λ x. IfSome (report_place x) (λ place. place ≤ count_by is_judged b.instances)) b.instances
  pub bare : All IsBare b.instances
  pub owners : All (HasOwnerAmong hosts) b.instances
  pub app : IsTrue (has_app apps b.unit.app)
  pub few : length b.instances ≤ most_instances
  pub limits : IsUnitInLimits b.unit
  pub instances : All IsInstanceInLimits b.instances

-- A settled workunit is a well one that, if it is open, has all instances that it needs.
pub record IsSettledUnit (hosts : List HostRow) (apps : List App) (b : UnitBook) : Type 0 where
  pub well : IsWellUnit hosts apps b
  pub satisfied : IsTrue (is_open (book_status apps b)) → need b.unit b.instances ≡ 0

-- A workunit is sound if it is settled and, when it is marked and was given out, has a class.
pub record IsSoundUnit (hosts : List HostRow) (apps : List App) (b : UnitBook) : Type 0 where
  pub well : IsWellUnit hosts apps b
  pub satisfied : IsTrue (is_open (book_status apps b)) → need b.unit b.instances ≡ 0
  pub classed : HasClassOnceGiven b

-- A host, if there are so many accounts and its quota has this limit.
pub record IsSoundHost (accounts limit : ℕ) (h : HostRow) : Type 0 where
  pub account : (1 ≤ h.account) × (h.account ≤ accounts)
  pub limits : IsHostInLimits limit h

pub record IsSoundVersion (apps : List App) (v : Version) : Type 0 where
  pub app : IsTrue (has_app apps v.app)
  pub limits : IsVersionInLimits v

-- two hosts have different keys
abbrev pub HaveOtherKeys : HostRow → HostRow → Type 0
HaveOtherKeys h k = h.account ≡ k.account → h.cpid ≢ k.cpid

-- all of soundness that concerns no instance
pub record AreRowsSound (w : World) : Type 0 where
  pub settings : AreSettingsInLimits w.settings
  pub accounts : All IsAccountInLimits w.accounts
  pub apps : All IsAppInLimits w.apps
  pub versions : All (IsSoundVersion w.apps) w.versions
  pub hosts : All (IsSoundHost (length w.accounts) w.settings.daily_result_quota) w.hosts
  -- names, authenticators and keys occur once
  pub account_names : AllPairs (λ a b. a.authenticator ≢ b.authenticator) w.accounts
  pub app_names : AllPairs (λ a b. a.name ≢ b.name) w.apps
  pub version_names : AllPairs (λ a b. IsTrue (same_version a b) → ⊥) w.versions
  pub unit_names : AllPairs (λ a b. a.unit.name ≢ b.unit.name) w.units
  pub host_keys : AllPairs HaveOtherKeys w.hosts
  -- no table is longer than it may be
  pub account_count : length w.accounts ≤ most_accounts
  pub app_count : length w.apps ≤ most_apps
  pub version_count : length w.versions ≤ most_versions
  pub unit_count : length w.units ≤ most_workunits
  pub host_count : length w.hosts ≤ w.settings.max_hosts

-- what holds within a step
pub record IsWell (w : World) : Type 0 where
  pub rows : AreRowsSound w
  pub units : All (IsWellUnit w.hosts w.apps) w.units

-- what holds within a step after settlement
pub record IsSettled (w : World) : Type 0 where
  pub rows : AreRowsSound w
  pub units : All (IsSettledUnit w.hosts w.apps) w.units

-- what holds between two steps
pub record Sound (w : World) : Type 0 where
  pub rows : AreRowsSound w
  pub units : All (IsSoundUnit w.hosts w.apps) w.units
