-- Rule. What the contracts say about decoded rows.
use Rattle.std.specs.Prelude.{◌≡◌, ◌≤◌, ℕ, List, length, codes, All, Option, Some, None, if◌then◌else◌, Result, MatchResult}
use Rattle.std.specs.Str.{bytes_eq}
use Rattle.sqlite_rules.specs.Lists.{Has}
use Rattle.sched_book.specs.declared.rows.Account.{Account}
use Rattle.sched_book.specs.declared.rows.App.{App}
use Rattle.sched_book.specs.declared.rows.HostRow.{HostRow}
use Rattle.sched_book.specs.declared.rows.Version.{Version}
use Rattle.sched_book.specs.declared.instance.UnitBook.{UnitBook}
use Rattle.sched_book.specs.declared.settings.Settings.{Settings}
use Rattle.sched_book.specs.declared.world.World.{World}
use Rattle.table_meaning.specs.declared.rows.SettingValue.{SettingValue}
use Rattle.table_meaning.specs.declared.rows.SettingValue.TheVariants.{Number, Word}
use Rattle.table_meaning.specs.declared.rows.StoredRow.{StoredRow}
use Rattle.table_meaning.specs.declared.rows.StoredRow.TheVariants as stored
use Rattle.table_meaning.specs.Schema.{newest}
use Rattle.table_meaning.specs.Worlds.{account_row, app_row, version_row, class_row, unit_row, mark_row, host_row}
use Rattle.table_decoding.specs.declared.fault.RowFault.{RowFault}
use Rattle.table_decoding.specs.declared.fault.RowFault.TheVariants.{Unavailable}
use Rattle.texts.specs.Words.{IsWord}

-- the result is exactly this, or out of memory
abbrev pub Gives : {A : Type 0} → Result A RowFault → A → Type 0
Gives result x = MatchResult result (λ d. d ≡ x) (λ e. e ≡ Unavailable)

-- the row that names the schema of the stored tables
abbrev pub schema_row : StoredRow
schema_row = stored.Setting (record { name = codes "schema"; value = Number newest })

-- the value that a row gives for the setting of a name
abbrev pub told_of : List ℕ → StoredRow → Option SettingValue
told_of name (stored.Setting s) = if bytes_eq s.name name then Some s.value else None
told_of name _ = None

-- the row of a setting
abbrev pub of_setting : List ℕ → SettingValue → StoredRow
of_setting name value = stored.Setting (record { name = name; value = value })

-- a row gives this value for the setting of the name, and no row gives another
pub record GivesSetting (rows : List StoredRow) (name : List ℕ) (value : SettingValue) : Type 0 where
  pub this : Has rows (of_setting name value)
  pub alone : (r : StoredRow) (other : SettingValue) → Has rows r → told_of name r ≡ Some other → other ≡ value

-- the rows give the values of these settings, and no others for them
pub record GiveSettings (rows : List StoredRow) (s : Settings) : Type 0 where
  pub daily_result_quota : GivesSetting rows (codes "daily_result_quota") (Number s.daily_result_quota)
  pub max_hosts : GivesSetting rows (codes "max_hosts") (Number s.max_hosts)
  pub max_wus_in_progress : GivesSetting rows (codes "max_wus_in_progress") (Number s.max_wus_in_progress)
  pub max_wus_to_send : GivesSetting rows (codes "max_wus_to_send") (Number s.max_wus_to_send)
  pub request_delay : GivesSetting rows (codes "request_delay") (Number s.request_delay)
  pub resend_lost_results : GivesSetting rows (codes "resend_lost_results") (Number (if s.resend_lost_results then 1 else 0))
  pub operator_key : GivesSetting rows (codes "operator_key") (Word s.operator_key)

-- the rows of accounts, applications, versions, their classes, workunits, their marks and hosts
abbrev pub of_account : ℕ → Account → StoredRow
of_account id a = stored.Account (account_row id a)

abbrev pub of_app : ℕ → App → StoredRow
of_app id a = stored.App (app_row id a)

abbrev pub of_version : World → ℕ → Version → StoredRow
of_version w id v = stored.Version (version_row w id v)

abbrev pub of_class : ℕ → Version → StoredRow
of_class id v = stored.VersionClass (class_row id v)

-- the row of a class alone
abbrev pub of_word : ℕ → List ℕ → StoredRow
of_word id class = stored.VersionClass (record { version_id = id; class = class })

abbrev pub of_unit : World → ℕ → UnitBook → StoredRow
of_unit w id b = stored.Unit (unit_row w id b)

abbrev pub of_mark : ℕ → UnitBook → StoredRow
of_mark id b = stored.UnitMark (mark_row id b)

-- the row of a host that holds this many instances, with this credit
abbrev pub of_host : (ℕ → ℕ) → (ℕ → ℕ) → ℕ → HostRow → StoredRow
of_host held credit id h = stored.Host (host_row (held id) (credit id) id h)

-- platforms: at least one, and each is a word
abbrev pub ArePlatforms : List (List ℕ) → Type 0
ArePlatforms words = (1 ≤ length words) × All IsWord words
