-- Rule. What lists of places and of reports contain, and what the parts of a step change: each place by itself, and
-- nothing else.
use Rattle.std.specs.Prelude.{◌⊎◌, ◌≡◌, ◌≢◌, ℕ, ◌<◌, Bool, true, false, ◌&&◌, if◌then◌else◌, ◌+◌, List, [], map, fold, filter_map, All, AllPairs, Contains, Option, Some, option_map, is_none, slice_get}
use Rattle.rpc_records.specs.declared.request.Report.{Report}
use Rattle.sched_book.specs.Count.{tells_success, report_of, place_of, good, is_open}
use Rattle.sched_book.specs.Desk.{workunit_at, units_of_user}
use Rattle.sched_book.specs.Fits.{estimate_at}
use Rattle.sched_book.specs.Lost.{lost, is_resent, resend_or_drop, delay_at, deadline_after, with_deadline, with_lapse}
use Rattle.sched_book.specs.Offers.{unsent}
use Rattle.sched_book.specs.Places.{instance_at, passes, places_where, status_of, user_of, is_held_by, is_overdue, is_before, name_at}
use Rattle.sched_book.specs.Reports.{first_of_each, first_reports, recorded}
use Rattle.sched_book.specs.Step.{with_owner, granted, lapsed}
use Rattle.sched_book.specs.declared.desk.Candidate.{Candidate}
use Rattle.sched_book.specs.declared.instance.Instance.{Instance}
use Rattle.sched_book.specs.declared.instance.Lapse.TheVariants.{Late, Dropped}
use Rattle.sched_book.specs.declared.instance.Place.{Place}
use Rattle.sched_book.specs.declared.instance.UnitBook.{UnitBook}
use Rattle.sched_book.specs.declared.rows.HostRow.{HostRow}
use Rattle.sched_book.specs.declared.world.World.{World}

-- ---- lists

-- The list has an element at this index, and no element before it has its text.
pub record IsFirstWithText {X : Type 0} (text : X → List ℕ) (xs : List X) (index : ℕ) : Type 0 where
  pub element : X
  pub stands : slice_get xs index ≡ Some element
  pub new_text : (before : ℕ) (other : X) → before < index → slice_get xs before ≡ Some other → text other ≢ text element

-- The elements of a list that are the first with their text, in their order. Each text of the list has one of them.
pub record AreFirstOfEach {X : Type 0} (text : X → List ℕ) (xs firsts : List X) : Type 0 where
  pub indices : List ℕ
  pub rising : AllPairs (λ i j. i < j) indices
  pub each : All (IsFirstWithText text xs) indices
  pub none_missed : (i : ℕ) → IsFirstWithText text xs i → Contains indices i
  pub are : firsts ≡ filter_map (slice_get xs) indices
  pub each_text : (x : X) → Contains xs x → (first : X) × Contains firsts first × (text first ≡ text x)
  pub once : AllPairs (λ x y. text x ≢ text y) firsts

abbrev pub FirstReportsAreOfEachName : Type 0
FirstReportsAreOfEachName = (reports : List Report) → AreFirstOfEach (λ (r : Report). r.name) reports (first_reports reports)

-- the same of the names that a client lists: each counts once
abbrev pub FirstNamesAreOfEachName : Type 0
FirstNamesAreOfEachName = (names : List (List ℕ)) → AreFirstOfEach (λ name. name) names (first_of_each (λ name. name) [] names)

-- its report has the lesser place, or the same place and the instance the lesser number
abbrev pub IsJudgedBefore : List Instance → ℕ → ℕ → Type 0
IsJudgedBefore xs i j = (place_of xs i < place_of xs j) ⊎ ((place_of xs i ≡ place_of xs j) × (i < j))

-- The numbers of the judged successes among these instances, each once, by the places of their reports.
pub record AreJudgedSuccesses (xs : List Instance) (numbers : List ℕ) : Type 0 where
  pub each : All (λ i. tells_success (report_of xs i) ≡ true) numbers
  pub none_missed : (i : ℕ) → tells_success (report_of xs i) ≡ true → Contains numbers i
  pub rising : AllPairs (IsJudgedBefore xs) numbers
  pub once : AllPairs (λ i j. i ≢ j) numbers

abbrev pub GoodAreJudgedSuccesses : Type 0
GoodAreJudgedSuccesses = (xs : List Instance) → AreJudgedSuccesses xs (good xs)

-- The places where an instance passes, each once, in their order.
pub record ArePlacesWhere (w : World) (test : UnitBook → Instance → Bool) (ps : List Place) : Type 0 where
  pub each : All (λ p. passes w test p ≡ true) ps
  pub none_missed : (p : Place) → passes w test p ≡ true → Contains ps p
  pub rising : AllPairs (λ p q. is_before p q ≡ true) ps

abbrev pub PlacesAreThoseThatPass : Type 0
PlacesAreThoseThatPass = (w : World) (test : UnitBook → Instance → Bool) → ArePlacesWhere w test (places_where w test)

-- the workunit is open, and the instance was given to nobody
abbrev pub is_unsent : World → UnitBook → Instance → Bool
is_unsent w b x = is_open (status_of w b) && is_none x.owner

-- A candidate: an unsent instance at this place or after it, with its workunit's row.
pub record IsUnsentFrom (w : World) (from : Place) (c : Candidate) : Type 0 where
  pub unsent : passes w (is_unsent w) c.place ≡ true
  pub reached : is_before c.place from ≡ false
  pub row : workunit_at w c.place.unit ≡ Some c.unit

-- The candidates from a place on, each once, in the order of their places. No unsent instance from there on is missed.
pub record AreUnsentFrom (w : World) (from : Place) (cs : List Candidate) : Type 0 where
  pub each : All (IsUnsentFrom w from) cs
  pub none_missed : (p : Place) → passes w (is_unsent w) p ≡ true → is_before p from ≡ false → Contains (map (λ (c : Candidate). c.place) cs) p
  pub rising : AllPairs (λ (c d : Candidate). is_before c.place d.place ≡ true) cs

abbrev pub OffersAreTheUnsent : Type 0
OffersAreTheUnsent = (w : World) (from : Place) → AreUnsentFrom w from (unsent w from)

-- Some instance of the workunit at a place was given to a host of this account.
pub record IsUnitOfUser (w : World) (account unit : ℕ) : Type 0 where
  pub number : ℕ
  pub instance : Instance
  pub stands : instance_at w (record { unit = unit; number = number }) ≡ Some instance
  pub given : user_of w.hosts instance ≡ Some account

-- The places of the workunits that a user had, each once, in their order.
pub record AreUnitsOfUser (w : World) (account : ℕ) (units : List ℕ) : Type 0 where
  pub each : All (IsUnitOfUser w account) units
  pub none_missed : (unit : ℕ) → IsUnitOfUser w account unit → Contains units unit
  pub rising : AllPairs (λ m n. m < n) units

abbrev pub UnitsOfUserAreThoseHad : Type 0
UnitsOfUserAreThoseHad = (w : World) (account : ℕ) → AreUnitsOfUser w account (units_of_user w account)

-- Lost jobs are sent again, the client sent a list, the host holds the instance at the place, and its name is not in the
-- list.
pub record IsLost (w : World) (host : ℕ) (names : Option (List (List ℕ))) (p : Place) : Type 0 where
  pub resends : w.settings.resend_lost_results ≡ true
  pub listed : List (List ℕ)
  pub sent : names ≡ Some listed
  pub held : passes w (λ b x. is_held_by host x) p ≡ true
  pub unlisted : Contains listed (name_at w p) → ⊥

-- The lost jobs of a host, each once, in the order of their places.
pub record AreLost (w : World) (host : ℕ) (names : Option (List (List ℕ))) (ps : List Place) : Type 0 where
  pub each : All (IsLost w host names) ps
  pub none_missed : (p : Place) → IsLost w host names p → Contains ps p
  pub rising : AllPairs (λ p q. is_before p q ≡ true) ps

abbrev pub LostAreHeldAndUnlisted : Type 0
LostAreHeldAndUnlisted = (w : World) (host : ℕ) (names : Option (List (List ℕ))) → AreLost w host names (lost w host names)

-- ---- changes

-- The settings, the rows of accounts, applications and versions, the hosts, and the rows of workunits stay.
pub record ChangesInstancesAlone (old new : World) : Type 0 where
  pub settings : new.settings ≡ old.settings
  pub accounts : new.accounts ≡ old.accounts
  pub apps : new.apps ≡ old.apps
  pub versions : new.versions ≡ old.versions
  pub hosts : new.hosts ≡ old.hosts
  pub units : map (λ (b : UnitBook). b.unit) new.units ≡ map (λ (b : UnitBook). b.unit) old.units

-- `ReportsAreRecordedByPlace` says, by place, what reports change
abbrev pub ReportsChangeInstancesAlone : Type 0
ReportsChangeInstancesAlone = (entry : World) (host : ℕ) (reports : List Report) → ChangesInstancesAlone entry (recorded entry host reports)

-- it lapses if it is held and its deadline is past
abbrev pub lapsed_if_overdue : ℕ → Instance → Instance
lapsed_if_overdue now x = if is_overdue now x then with_lapse Late x else x

-- What the lapses of a tick leave.
pub record HasLapsed (w : World) (now : ℕ) (after : World) : Type 0 where
  pub instance : (p : Place) → instance_at after p ≡ option_map (lapsed_if_overdue now) (instance_at w p)
  pub rest : ChangesInstancesAlone w after

abbrev pub LapsesAreByPlace : Type 0
LapsesAreByPlace = (w : World) (now : ℕ) → HasLapsed w now (lapsed w now)

-- What a grant leaves: the host has each of the jobs from this moment on, for the seconds of its workunit's delay bound.
pub record HasGranted (w : World) (host now : ℕ) (jobs : List Place) (after : World) : Type 0 where
  pub job : (p : Place) → Contains jobs p
      → instance_at after p ≡ option_map (with_owner (record { host = host; sent = now; deadline = now + delay_at w p })) (instance_at w p)
  pub other : (p : Place) → (Contains jobs p → ⊥) → instance_at after p ≡ instance_at w p
  pub rest : ChangesInstancesAlone w after

abbrev pub GrantsAreByPlace : Type 0
GrantsAreByPlace = (w : World) (host now : ℕ) (jobs : List Place) → HasGranted w host now jobs (granted w host now jobs)

-- What lost jobs leave: each is sent again, with a deadline that its host can meet, or is dropped.
pub record HasResentOrDropped (entry : World) (h : HostRow) (now : ℕ) (w : World) (jobs : List Place) (after : World) : Type 0 where
  pub resent : (p : Place) → Contains jobs p → is_resent entry h p ≡ true
      → instance_at after p ≡ option_map (with_deadline (deadline_after now (estimate_at entry h p) (delay_at entry p))) (instance_at w p)
  pub dropped : (p : Place) → Contains jobs p → is_resent entry h p ≡ false → instance_at after p ≡ option_map (with_lapse Dropped) (instance_at w p)
  pub other : (p : Place) → (Contains jobs p → ⊥) → instance_at after p ≡ instance_at w p
  pub rest : ChangesInstancesAlone w after

abbrev pub LostJobsAreByPlace : Type 0
LostJobsAreByPlace = (entry : World) (h : HostRow) (now : ℕ) (w : World) (jobs : List Place)
    → HasResentOrDropped entry h now w jobs (fold (resend_or_drop entry h now) w jobs)
