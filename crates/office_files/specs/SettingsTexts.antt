-- Rule. The settings of a project as a TOML text. The keys are this profile's; how a text is read as a table is TOML's.
use Rattle.std.specs.Prelude.{◌≡◌, ◌≤◌, ℕ, ℤ, pos, Bool, ◌||◌, List, length, codes, Option, Some, option_and_then, IsSome, IsTrue}
use Rattle.std.specs.Str.{bytes_eq}
use Rattle.toml.specs.Data.{Members, get_member, as_integer, as_str, as_bool}
use Rattle.toml.specs.Parse.{parse_document}
use Rattle.sched_book.specs.Limits.{least_key, AreSettingsInLimits}
use Rattle.sched_book.specs.declared.settings.Settings.{Settings}
use Rattle.texts.specs.Words.{IsWord}

-- the integer, the string and the boolean at a key of a table
abbrev pub integer_at : List ℕ → Members → Option ℤ
integer_at key table = option_and_then as_integer (get_member key table)

abbrev pub string_at : List ℕ → Members → Option (List ℕ)
string_at key table = option_and_then as_str (get_member key table)

abbrev pub boolean_at : List ℕ → Members → Option Bool
boolean_at key table = option_and_then as_bool (get_member key table)

-- the key of a setting
abbrev pub is_setting : List ℕ → Bool
is_setting key =
    bytes_eq key (codes "daily_result_quota") || bytes_eq key (codes "max_hosts") || bytes_eq key (codes "max_wus_in_progress")
    || bytes_eq key (codes "max_wus_to_send") || bytes_eq key (codes "operator_key") || bytes_eq key (codes "request_delay")
    || bytes_eq key (codes "resend_lost_results")

-- a table has only keys of settings
abbrev pub HasOnlySettings : Members → Type 0
HasOnlySettings table = (key : List ℕ) → IsSome (get_member key table) → IsTrue (is_setting key)

-- a table has this number at a key, and it is in a range
abbrev pub IsNumberAt : List ℕ → ℕ → ℕ → Members → ℕ → Type 0
IsNumberAt key least most table n = (integer_at key table ≡ Some (pos n)) × (least ≤ n) × (n ≤ most)

-- a table has this word as the operator's key, and it has enough bytes
pub record IsOperatorKey (table : Members) (key : List ℕ) : Type 0 where
  pub told : string_at (codes "operator_key") table ≡ Some key
  pub word : IsWord key
  pub enough : least_key ≤ length key

-- a table has these settings: each is at its key and in range, and there is nothing else
pub record AreSettingsOf (table : Members) (s : Settings) : Type 0 where
  pub daily_result_quota : integer_at (codes "daily_result_quota") table ≡ Some (pos s.daily_result_quota)
  pub max_hosts : integer_at (codes "max_hosts") table ≡ Some (pos s.max_hosts)
  pub max_wus_in_progress : integer_at (codes "max_wus_in_progress") table ≡ Some (pos s.max_wus_in_progress)
  pub max_wus_to_send : integer_at (codes "max_wus_to_send") table ≡ Some (pos s.max_wus_to_send)
  pub operator_key : string_at (codes "operator_key") table ≡ Some s.operator_key
  pub request_delay : integer_at (codes "request_delay") table ≡ Some (pos s.request_delay)
  pub resend_lost_results : boolean_at (codes "resend_lost_results") table ≡ Some s.resend_lost_results
  pub no_other : HasOnlySettings table
  pub in_limits : AreSettingsInLimits s

-- a text has these settings: as TOML it is a table of them
abbrev pub HasSettings : List ℕ → Settings → Type 0
HasSettings text s = (table : Members) × (parse_document text ≡ Some table) × AreSettingsOf table s

-- a text has at most one set of settings
abbrev pub TextsTellOneSettings : Type 0
TextsTellOneSettings = (text : List ℕ) (s t : Settings) → HasSettings text s → HasSettings text t → s ≡ t
