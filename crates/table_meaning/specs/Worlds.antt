-- Rule. What the tables hold of a world: at each key the row that the world, the kept calls and the kept batches have there.
-- A status, what is held, a credit and what is queued are counted from the world's other rows.
use Rattle.std.specs.Prelude.{ℕ, pos, Bool, true, false, ◌&&◌, ◌==◌, if◌then◌else◌, List, [], ◌∷◌, ◌++◌, flat_map, length, codes, slice_get, Option, Some, None, is_none, option_map, option_and_then, unwrap_or}
use Rattle.std.specs.Str.{bytes_eq}
use Rattle.reply_register.specs.declared.kept.Kept.{Kept as Call}
use Rattle.sched_book.specs.Classes.{class_of}
use Rattle.sched_book.specs.Places.{nth, place_where, unit_at, host_at, status_of, held_by, host_credit}
use Rattle.sched_book.specs.declared.rows.Account.{Account}
use Rattle.sched_book.specs.declared.rows.Agreement.{Agreement}
use Rattle.sched_book.specs.declared.rows.Agreement.TheVariants.{Exact, Within}
use Rattle.sched_book.specs.declared.rows.App.{App}
use Rattle.sched_book.specs.declared.rows.ClassRule.{ClassRule}
use Rattle.sched_book.specs.declared.rows.ClassRule.TheVariants.{Any, OfFirst, Only}
use Rattle.sched_book.specs.declared.rows.HostRow.{HostRow}
use Rattle.sched_book.specs.declared.rows.Version.{Version}
use Rattle.sched_book.specs.declared.instance.Instance.{Instance as Job}
use Rattle.sched_book.specs.declared.instance.UnitBook.{UnitBook}
use Rattle.sched_book.specs.declared.settings.Settings.{Settings}
use Rattle.sched_book.specs.declared.world.World.{World}
use Rattle.sqlite.specs.Effect.{Database}
use Rattle.table_meaning.specs.declared.rows.SettingValue.{SettingValue}
use Rattle.table_meaning.specs.declared.rows.SettingValue.TheVariants.{Number, Word}
use Rattle.table_meaning.specs.declared.rows.StoredAccount.{StoredAccount}
use Rattle.table_meaning.specs.declared.rows.StoredApp.{StoredApp}
use Rattle.table_meaning.specs.declared.rows.StoredVersion.{StoredVersion}
use Rattle.table_meaning.specs.declared.rows.StoredUnit.{StoredUnit}
use Rattle.table_meaning.specs.declared.rows.StoredHost.{StoredHost}
use Rattle.table_meaning.specs.declared.rows.StoredInstance.{StoredInstance}
use Rattle.table_meaning.specs.declared.rows.StoredCall.{StoredCall}
use Rattle.table_meaning.specs.declared.rows.StoredVersionClass.{StoredVersionClass}
use Rattle.table_meaning.specs.declared.rows.StoredUnitMark.{StoredUnitMark}
use Rattle.table_meaning.specs.declared.rows.StoredRow.TheVariants as stored
use Rattle.table_meaning.specs.Codes.{status_code, lapse_code}
use Rattle.table_meaning.specs.Rows.{setting_key, account_key, app_key, version_key, unit_key, host_key, instance_key, kept_key, batch_key, class_key, mark_key}
use Rattle.table_meaning.specs.Schema.{newest}
use Rattle.table_meaning.specs.Holding.{Contents, Hold}

-- ---- values as the tables write them

abbrev pub setting_in : Settings → List ℕ → Option SettingValue
setting_in s name =
    if bytes_eq name (codes "schema") then Some (Number newest)
    else (if bytes_eq name (codes "daily_result_quota") then Some (Number s.daily_result_quota)
    else (if bytes_eq name (codes "max_hosts") then Some (Number s.max_hosts)
    else (if bytes_eq name (codes "max_wus_in_progress") then Some (Number s.max_wus_in_progress)
    else (if bytes_eq name (codes "max_wus_to_send") then Some (Number s.max_wus_to_send)
    else (if bytes_eq name (codes "operator_key") then Some (Word s.operator_key)
    else (if bytes_eq name (codes "request_delay") then Some (Number s.request_delay)
    else (if bytes_eq name (codes "resend_lost_results") then Some (Number (if s.resend_lost_results then 1 else 0)) else None)))))))

abbrev pub agreement_limit : Agreement → Option ℕ
agreement_limit Exact = None
agreement_limit (Within n) = Some n

-- a workunit is marked if it keeps to the versions of one class, now or later
abbrev pub is_marked : ClassRule → Bool
is_marked Any = false
is_marked OfFirst = true
is_marked (Only class) = true

-- words joined by commas
abbrev pub joined : List (List ℕ) → List ℕ
joined [] = []
joined (word ∷ more) = word ++ flat_map (λ w. codes "," ++ w) more

-- the place of the application of this name
abbrev pub app_place : World → List ℕ → ℕ
app_place w name = unwrap_or (place_where (λ a. bytes_eq a.name name) w.apps) 0

-- ---- rows

abbrev pub account_row : ℕ → Account → StoredAccount
account_row id a = record { id = id; auth = a.authenticator; name = a.name }

abbrev pub app_row : ℕ → App → StoredApp
app_row id a = record { id = id; name = a.name; agreement = agreement_limit a.agreement }

abbrev pub version_row : World → ℕ → Version → StoredVersion
version_row w id v = record { id = id; app_id = app_place w v.app; platform = v.platform; num = v.version_num }

-- a host, with how many instances it holds and its credit
abbrev pub host_row : ℕ → ℕ → ℕ → HostRow → StoredHost
host_row held credit id h = record {
  id = id;
  account_id = h.account;
  cpid = h.cpid;
  platforms = joined h.platforms;
  fpops = pos h.p_fpops;
  memory = pos h.m_nbytes;
  disk = pos h.d_free;
  quota = h.quota;
  held = held;
  credit = pos credit;
}

abbrev pub unit_row : World → ℕ → UnitBook → StoredUnit
unit_row w id b = record {
  id = id;
  name = b.unit.name;
  app_id = app_place w b.unit.app;
  min_quorum = b.unit.min_quorum;
  target_nresults = b.unit.target_nresults;
  max_error_results = b.unit.max_error_results;
  max_total_results = b.unit.max_total_results;
  max_success_results = b.unit.max_success_results;
  delay_bound = b.unit.delay_bound;
  rsc_fpops_est = pos b.unit.rsc_fpops_est;
  rsc_memory_bound = pos b.unit.rsc_memory_bound;
  rsc_disk_bound = pos b.unit.rsc_disk_bound;
  credit = b.unit.credit;
  status = status_code (status_of w b);
}

-- an instance waits to be sent if it has no owner and its unit is open
abbrev pub is_queued : World → UnitBook → Job → Bool
is_queued w b x = is_none x.owner && (status_code (status_of w b) == 0)

abbrev pub instance_row : World → UnitBook → ℕ → ℕ → Job → StoredInstance
instance_row w b unit num x = record {
  unit_id = unit;
  num = num;
  host_id = option_map (λ o. o.host) x.owner;
  sent = option_map (λ o. pos o.sent) x.owner;
  deadline = option_map (λ o. pos o.deadline) x.owner;
  lapse = lapse_code x.lapse;
  outcome = option_map (λ r. if r.success then 1 else 3) x.report;
  output = option_map (λ r. r.output) x.report;
  place = option_and_then (λ r. r.place) x.report;
  queued = is_queued w b x;
}

abbrev pub call_row : ℕ → ℕ → Call → StoredCall
call_row host slot k = record { host_id = host; slot = slot; seqno = k.seqno; text = k.text; reply = k.reply }

abbrev pub class_row : ℕ → Version → StoredVersionClass
class_row id v = record { version_id = id; class = v.class }

abbrev pub mark_row : ℕ → UnitBook → StoredUnitMark
mark_row id b = record { unit_id = id; marked = is_marked b.unit.class_rule; class = class_of b.unit.class_rule }

-- what is kept of a batch: its bytes and its answer
abbrev pub BatchText : Type 0
BatchText = List ℕ × List ℕ

-- the calls that are kept, by the number of the host and the slot
abbrev pub SlotCalls : Type 0
SlotCalls = ℕ → ℕ → Option Call

module _ (w : World) (calls : SlotCalls) (batches : List ℕ → List ℕ → Option BatchText) where
  abbrev pub contents_of : Contents
  contents_of (setting_key name) = option_map (λ v. stored.Setting (record { name = name; value = v })) (setting_in w.settings name)
  contents_of (account_key id) = option_map (λ a. stored.Account (account_row id a)) (nth w.accounts id)
  contents_of (app_key id) = option_map (λ a. stored.App (app_row id a)) (nth w.apps id)
  contents_of (version_key id) = option_map (λ v. stored.Version (version_row w id v)) (nth w.versions id)
  contents_of (unit_key id) = option_map (λ b. stored.Unit (unit_row w id b)) (unit_at w id)
  contents_of (host_key id) = option_map (λ h. stored.Host (host_row (length (held_by w id)) (host_credit w id) id h)) (host_at w id)
  contents_of (instance_key unit num) = option_and_then (λ b. option_map (λ x. stored.Instance (instance_row w b unit num x)) (slice_get b.instances num)) (unit_at w unit)
  contents_of (kept_key host slot) = option_map (λ k. stored.Kept (call_row host slot k)) (calls host slot)
  contents_of (batch_key kind name) = option_map (λ b. stored.Batch (record { kind = kind; name = name; text = b.0; answer = b.1 })) (batches kind name)
  contents_of (class_key id) = option_map (λ v. stored.VersionClass (class_row id v)) (nth w.versions id)
  contents_of (mark_key id) = option_map (λ b. stored.UnitMark (mark_row id b)) (unit_at w id)

-- The tables hold this world, with these calls by host and slot and these batches by kind and name.
abbrev pub HoldWorld : Database → World → SlotCalls → (List ℕ → List ℕ → Option BatchText) → Type 0
HoldWorld db w calls batches = Hold db (contents_of w calls batches)
