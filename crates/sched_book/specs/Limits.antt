-- Rule. The ranges of the values of a world. They are this profile's, and are defined only here. Imported rows, changes
-- that fit and sound worlds refer to them.
use Rattle.std.specs.Prelude.{◌≡◌, ℕ, ◌^◌, ◌≤◌, Bool, ◌&&◌, nat_le, IsTrue, List, length, All, IfSome}
use Rattle.rpc_records.specs.Members.{is_output}
use Rattle.sched_book.specs.Classes.{class_of, imported}
use Rattle.sched_book.specs.declared.instance.Instance.{Instance}
use Rattle.sched_book.specs.declared.instance.UnitBook.{UnitBook}
use Rattle.sched_book.specs.declared.rows.Account.{Account}
use Rattle.sched_book.specs.declared.rows.Agreement.{Agreement}
use Rattle.sched_book.specs.declared.rows.Agreement.TheVariants.{Exact, Within}
use Rattle.sched_book.specs.declared.rows.App.{App}
use Rattle.sched_book.specs.declared.rows.HostRow.{HostRow}
use Rattle.sched_book.specs.declared.rows.Rows.{Rows}
use Rattle.sched_book.specs.declared.rows.Rows.TheVariants as rows
use Rattle.sched_book.specs.declared.rows.Version.{Version}
use Rattle.sched_book.specs.declared.rows.Workunit.{Workunit}
use Rattle.sched_book.specs.declared.settings.Settings.{Settings}
use Rattle.sched_book.specs.declared.world.World.{World}
use Rattle.texts.specs.Words.{IsWord}

-- the most rows of each table
abbrev pub most_accounts : ℕ
most_accounts = 10000

abbrev pub most_apps : ℕ
most_apps = 100

abbrev pub most_versions : ℕ
most_versions = 1000

abbrev pub most_workunits : ℕ
most_workunits = 200000

abbrev pub most_hosts : ℕ
most_hosts = 100000

-- the most instances of a workunit, and the most that any of its counts may ask for
abbrev pub most_instances : ℕ
most_instances = 100

-- the last moment of an arrival, and the last deadline, in seconds
abbrev pub last_moment : ℕ
last_moment = 250000000000

abbrev pub last_deadline : ℕ
last_deadline = 250100000000

-- the greatest amount of a workunit or a host: operations, bytes
abbrev pub most_amount : ℕ
most_amount = 10 ^ 18

-- the longest delay bound, in seconds
abbrev pub most_delay : ℕ
most_delay = 100000000

-- the most millicredits for one result
abbrev pub most_credit : ℕ
most_credit = 100000000

abbrev pub most_version_num : ℕ
most_version_num = 1000000

-- the greatest distance of two outputs that agree
abbrev pub most_distance : ℕ
most_distance = 1000000000

abbrev pub most_quota : ℕ
most_quota = 1000000

abbrev pub most_in_progress : ℕ
most_in_progress = 1000

abbrev pub most_to_send : ℕ
most_to_send = 100

-- the most seconds that a client may be told to wait
abbrev pub most_request_delay : ℕ
most_request_delay = 2592000

abbrev pub most_platforms : ℕ
most_platforms = 8

-- the fewest bytes of the operator's word
abbrev pub least_key : ℕ
least_key = 8

pub record AreSettingsInLimits (s : Settings) : Type 0 where
  pub quota : (1 ≤ s.daily_result_quota) × (s.daily_result_quota ≤ most_quota)
  pub hosts : (1 ≤ s.max_hosts) × (s.max_hosts ≤ most_hosts)
  pub in_progress : (1 ≤ s.max_wus_in_progress) × (s.max_wus_in_progress ≤ most_in_progress)
  pub to_send : (1 ≤ s.max_wus_to_send) × (s.max_wus_to_send ≤ most_to_send)
  pub delay : s.request_delay ≤ most_request_delay
  pub key : IsWord s.operator_key
  pub key_length : least_key ≤ length s.operator_key

-- a volunteer's name has 1 to 64 bytes
abbrev pub is_user_name : List ℕ → Bool
is_user_name text = nat_le 1 (length text) && nat_le (length text) 64

pub record IsAccountInLimits (a : Account) : Type 0 where
  pub authenticator : IsWord a.authenticator
  pub name : IsTrue (is_user_name a.name)

-- how far apart two outputs that agree may be
abbrev pub distance_of : Agreement → ℕ
distance_of Exact = 0
distance_of (Within n) = n

pub record IsAppInLimits (a : App) : Type 0 where
  pub name : IsWord a.name
  pub distance : distance_of a.agreement ≤ most_distance

pub record IsVersionInLimits (v : Version) : Type 0 where
  pub app : IsWord v.app
  pub platform : IsWord v.platform
  pub number : (1 ≤ v.version_num) × (v.version_num ≤ most_version_num)
  pub class : IsWord v.class

pub record IsUnitInLimits (u : Workunit) : Type 0 where
  pub name : IsWord u.name
  pub app : IsWord u.app
  pub quorum : (1 ≤ u.min_quorum) × (u.min_quorum ≤ most_instances)
  pub target : (u.min_quorum ≤ u.target_nresults) × (u.target_nresults ≤ most_instances)
  pub errors : u.max_error_results ≤ most_instances
  pub total : (u.target_nresults ≤ u.max_total_results) × (u.max_total_results ≤ most_instances)
  pub successes : u.max_success_results ≤ most_instances
  pub delay : (1 ≤ u.delay_bound) × (u.delay_bound ≤ most_delay)
  pub work : (1 ≤ u.rsc_fpops_est) × (u.rsc_fpops_est ≤ most_amount)
  pub memory : u.rsc_memory_bound ≤ most_amount
  pub disk : u.rsc_disk_bound ≤ most_amount
  pub credit : u.credit ≤ most_credit
  pub rule : IfSome (class_of u.class_rule) IsWord

-- a workunit as an import may bring it, which has no class yet
pub record IsNewUnit (u : Workunit) : Type 0 where
  pub limits : IsUnitInLimits u
  pub first : imported u ≡ u

-- the rows of an import
abbrev pub AreRowsInLimits : Rows → Type 0
AreRowsInLimits (rows.Accounts xs) = All IsAccountInLimits xs
AreRowsInLimits (rows.Apps xs) = All IsAppInLimits xs
AreRowsInLimits (rows.Versions xs) = All IsVersionInLimits xs
AreRowsInLimits (rows.Workunits xs) = All IsNewUnit xs

-- a host, whose quota has this limit
pub record IsHostInLimits (limit : ℕ) (h : HostRow) : Type 0 where
  pub cpid : IsWord h.cpid
  pub speed : (1 ≤ h.p_fpops) × (h.p_fpops ≤ most_amount)
  pub memory : h.m_nbytes ≤ most_amount
  pub disk : h.d_free ≤ most_amount
  pub platforms : (1 ≤ length h.platforms) × (length h.platforms ≤ most_platforms)
  pub words : All IsWord h.platforms
  pub quota : (1 ≤ h.quota) × (h.quota ≤ limit)

-- the moment of sending and the deadline, the reported output, and the place of a judged report
pub record IsInstanceInLimits (x : Instance) : Type 0 where
  pub sent : IfSome x.owner (λ o. o.sent ≤ last_moment)
  pub deadline : IfSome x.owner (λ o. o.deadline ≤ last_deadline)
  pub output : IfSome x.report (λ r. IsTrue (is_output r.output))
  pub place : IfSome x.report (λ r. IfSome r.place (λ place. (1 ≤ place) × (place ≤ most_instances)))

-- no list is longer than its table may be
pub record IsBounded (w : World) : Type 0 where
  pub accounts : length w.accounts ≤ most_accounts
  pub apps : length w.apps ≤ most_apps
  pub versions : length w.versions ≤ most_versions
  pub hosts : length w.hosts ≤ most_hosts
  pub units : length w.units ≤ most_workunits
  pub instances : All (λ (b : UnitBook). length b.instances ≤ most_instances) w.units
