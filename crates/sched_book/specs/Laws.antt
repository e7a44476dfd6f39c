-- Rule. What the definitions that compute amount to, in the terms of the subject.
use Rattle.std.specs.Prelude.{◌⊎◌, not, is_some, ◌≡◌, ℕ, ◌<◌, ◌≤◌, true, false, Bool, ◌+◌, List, ◌∷◌, ◌++◌, length, take, Contains, Option, Some, None, option_map, MatchOption}
use Rattle.sched_book.specs.Count.{good, leader, majority, canonical}
use Rattle.sched_book.specs.Places.{unit_at, host_at}
use Rattle.sched_book.specs.Fits.{is_version_for, version_among}
use Rattle.std.specs.List.{list_any}
use Rattle.std.specs.Str.{bytes_eq}
use Rattle.rpc_records.specs.declared.request.Report.{Report}
use Rattle.sched_book.specs.Imports.{first_known, same_account, same_app, same_version, same_unit}
use Rattle.sched_book.specs.Names.{instance_name, name_parts}
use Rattle.sched_book.specs.Limits.{most_hosts, IsBounded}
use Rattle.sched_book.specs.Delta.{applied, Fits}
use Rattle.sched_book.specs.declared.delta.Delta.{Delta}
use Rattle.sched_book.specs.Count.{has_failed}
use Rattle.sched_book.specs.Places.{instance_at, place_named, status_at}
use Rattle.sched_book.specs.Reports.{first_reports, awaits_report, with_report, recorded}
use Rattle.sched_book.specs.Settle.{grown, with_grown, with_quota, settled}
use Rattle.sched_book.specs.declared.instance.Instance.{Instance}
use Rattle.sched_book.specs.declared.instance.Place.{Place}
use Rattle.sched_book.specs.declared.rows.Agreement.{Agreement}
use Rattle.sched_book.specs.declared.rows.Version.{Version}
use Rattle.sched_book.specs.declared.rows.Workunit.{Workunit}
use Rattle.sched_book.specs.declared.world.World.{World}

-- the first of the first k good reports that agrees with a majority of them
abbrev pub leader_of_front : Agreement → Workunit → List Instance → ℕ → Option ℕ
leader_of_front a u xs k = leader a xs (majority u) (take k (good xs))

-- Report i leads the shortest front of the good reports that is at least a quorum long and has a leader.
pub record IsFirstLeader (a : Agreement) (u : Workunit) (xs : List Instance) (i : ℕ) : Type 0 where
  pub front : ℕ
  pub in_quorum : u.min_quorum ≤ front
  pub within : front ≤ length (good xs)
  pub leads : leader_of_front a u xs front ≡ Some i
  pub least : (k : ℕ) → u.min_quorum ≤ k → k < front → leader_of_front a u xs k ≡ None

-- no front that is at least a quorum long has a leader
abbrev pub HasNoLeader : Agreement → Workunit → List Instance → Type 0
HasNoLeader a u xs = (k : ℕ) → u.min_quorum ≤ k → k ≤ length (good xs) → leader_of_front a u xs k ≡ None

-- the canonical result is the leader of the shortest front that has one
abbrev pub CanonicalIsFirstLeader : Type 0
CanonicalIsFirstLeader = (a : Agreement) (u : Workunit) (xs : List Instance)
    → MatchOption (canonical a u xs) (HasNoLeader a u xs) (IsFirstLeader a u xs)

-- there is no version of an application for any of these platforms
abbrev pub HasNoVersion : List Version → List ℕ → List (List ℕ) → Type 0
HasNoVersion versions app platforms =
    (p : List ℕ) (v : Version) → Contains platforms p → Contains versions v → is_version_for app p v ≡ false

-- It is a version for one of the platforms. No earlier platform has a version, and no version for that platform is newer.
pub record IsVersionFor (versions : List Version) (app : List ℕ) (platforms : List (List ℕ)) (v : Version) : Type 0 where
  pub earlier : List (List ℕ)
  pub platform : List ℕ
  pub later : List (List ℕ)
  pub split : platforms ≡ earlier ++ platform ∷ later
  pub none_earlier : HasNoVersion versions app earlier
  pub stands : Contains versions v
  pub matches : is_version_for app platform v ≡ true
  pub newest : (other : Version) → Contains versions other → is_version_for app platform other ≡ true → other.version_num ≤ v.version_num

abbrev pub VersionIsNewestOfFirst : Type 0
VersionIsNewestOfFirst = (versions : List Version) (app : List ℕ) (platforms : List (List ℕ))
    → MatchOption (version_among versions app platforms) (HasNoVersion versions app platforms) (IsVersionFor versions app platforms)

-- what settlement makes of each workunit and of each host
pub record SettlesEach (old changed : World) : Type 0 where
  pub unit : (n : ℕ) → unit_at (settled old changed) n ≡ option_map (grown changed.apps) (unit_at changed n)
  pub host : (n : ℕ) → host_at (settled old changed) n ≡ option_map (λ h. with_quota old (with_grown changed) (n, h)) (host_at changed n)

abbrev pub SettlementIsPointwise : Type 0
SettlementIsPointwise = (old changed : World) → SettlesEach old changed

-- Report r is in the list, and no report before it has its name.
pub record IsFirstOfName (reports : List Report) (r : Report) : Type 0 where
  pub earlier : List Report
  pub later : List Report
  pub split : reports ≡ earlier ++ r ∷ later
  pub new_name : (other : Report) → Contains earlier other → bytes_eq r.name other.name ≡ false

-- each of the first reports is the first with its name
abbrev pub FirstReportsAreFirst : Type 0
FirstReportsAreFirst = (reports : List Report) (r : Report) → Contains (first_reports reports) r → IsFirstOfName reports r

-- What is recorded at a place after the reports: a first report names the place, and its instance awaited the report.
-- The instance is as it was, except for the report, which is judged if the workunit had not failed at entry.
pub record IsRecordedAt (entry : World) (host : ℕ) (reports : List Report) (p : Place) : Type 0 where
  pub report : Report
  pub first : Contains (first_reports reports) report
  pub names : place_named entry report.name ≡ Some p
  pub before : Instance
  pub stood : instance_at entry p ≡ Some before
  pub awaited : awaits_report host before ≡ true
  pub place : Option ℕ
  pub judged : is_some place ≡ not (has_failed (status_at entry p.unit))
  pub recorded : instance_at (recorded entry host reports) p ≡ Some (with_report report place before)

-- At each place the instance is as it was, or a first report is recorded at it. If a first report names an instance that
-- awaits it, it is recorded.
pub record IsRecordedByPlace (entry : World) (host : ℕ) (reports : List Report) (p : Place) : Type 0 where
  pub stays_or_recorded : (instance_at (recorded entry host reports) p ≡ instance_at entry p) ⊎ IsRecordedAt entry host reports p
  pub not_missed : (r : Report) (x : Instance) → Contains (first_reports reports) r → place_named entry r.name ≡ Some p
      → instance_at entry p ≡ Some x → awaits_report host x ≡ true → IsRecordedAt entry host reports p

abbrev pub ReportsAreRecordedByPlace : Type 0
ReportsAreRecordedByPlace = (entry : World) (host : ℕ) (reports : List Report) (p : Place) → IsRecordedByPlace entry host reports p

-- a name made of a workunit's name and a number below 100 is split into these two
abbrev pub MadeNamesAreSplit : Type 0
MadeNamesAreSplit = (unit : List ℕ) (number : ℕ) → number < 100 → name_parts (instance_name unit number) ≡ Some (unit, number)

-- a name that can be split was made of its parts, so different names have different parts
abbrev pub SplitNamesAreMade : Type 0
SplitNamesAreMade = (name unit : List ℕ) (number : ℕ) → name_parts name ≡ Some (unit, number)
    → (name ≡ instance_name unit number) × (number < 100)

-- changes that fit keep every table within its bounds
abbrev pub FittingKeepsBounds : Type 0
FittingKeepsBounds = (w : World) (changes : Delta) → w.settings.max_hosts ≤ most_hosts → IsBounded w → Fits w changes → IsBounded (applied w changes)

-- no row of a list has the name of a known row or of a row before it
abbrev pub HaveNewNames : {X : Type 0} → (X → X → Bool) → List X → List X → Type 0
HaveNewNames {X} same known rows =
    (earlier : List X) (row : X) (later : List X) → rows ≡ earlier ++ row ∷ later → list_any (same row) (known ++ earlier) ≡ false

-- The row at this place has the name of a known row or of an earlier row, and no earlier row has.
pub record IsFirstKnown {X : Type 0} (same : X → X → Bool) (known rows : List X) (place : ℕ) : Type 0 where
  pub earlier : List X
  pub row : X
  pub later : List X
  pub split : rows ≡ earlier ++ row ∷ later
  pub at_place : place ≡ length earlier + 1
  pub known_name : list_any (same row) (known ++ earlier) ≡ true
  pub none_before : HaveNewNames same known earlier

-- The first row whose name exists is found. If none is found, no row has such a name.
abbrev pub FindsFirstKnown : {X : Type 0} → (X → X → Bool) → Type 0
FindsFirstKnown {X} same = (known rows : List X)
    → MatchOption (first_known same 1 known rows) (HaveNewNames same known rows) (IsFirstKnown same known rows)

-- the same of the rows of each kind of import
pub record FirstKnownIsFirst : Type 0 where
  pub accounts : FindsFirstKnown same_account
  pub apps : FindsFirstKnown same_app
  pub versions : FindsFirstKnown same_version
  pub units : FindsFirstKnown same_unit
