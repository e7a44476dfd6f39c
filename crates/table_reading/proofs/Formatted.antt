-- If their texts are in UTF-8, the rows of a sound world and of what may be kept with it have the formats of their tables.
use Rattle.std.proofs.Common.{◌≡◌, ℕ, zero, suc, ◌≤◌, ◌<◌, ℤ, pos, Bool, true, false, ◌&&◌, List, length, Option, Some, None, option_map, refl, sym, ◌∙◌, inl, inr, arith, IsTrue}
use Rattle.std.specs.Prelude.{IfSome, codes, is_some, nat_le, nat_lt, option_and_then, slice_get, if◌then◌else◌}
use Rattle.std.specs.List.{AllByRecursion}
use Rattle.std.proofs.lemmas.Bool.{and_parts}
use Rattle.std.proofs.lemmas.Option.{slice_get_within}
use Rattle.sqlite.specs.Values.{or_null}
use Rattle.sqlite_rules.proofs.ListLemmas.{all_has}
use Rattle.sqlite_value.specs.declared.value.Value.TheVariants.{Int, Text}
use Rattle.texts.specs.Words.{is_word, IsWord}
use Rattle.texts.proofs.Words.{IsUtf8-word}
use Rattle.reply_register.specs.declared.kept.Kept.{Kept as Call}
use Rattle.reply_register.specs.Keeping.{most_kept}
use Rattle.stores.specs.Kinds.{kind_of}
use Rattle.sched_book.specs.Classes.{class_of}
use Rattle.sched_book.specs.Imports.{has_app}
use Rattle.sched_book.specs.Limits.{most_instances, IsBounded, IsAccountInLimits, IsAppInLimits, IsInstanceInLimits, distance_of}
use Rattle.sched_book.specs.Places.{nth, unit_at, host_at, held_by, host_credit, host_of, status_of}
use Rattle.sched_book.specs.Sound.{Sound, IsSoundHost, IsSoundUnit, IsSoundVersion, HasOwnerAmong}
use Rattle.sched_book.specs.declared.instance.Instance.{Instance as Job}
use Rattle.sched_book.specs.declared.instance.Lapse.{Lapse}
use Rattle.sched_book.specs.declared.instance.Lapse.TheVariants.{Late, Dropped}
use Rattle.sched_book.specs.declared.instance.Outcome.{Outcome}
use Rattle.sched_book.specs.declared.instance.Status.{Status}
use Rattle.sched_book.specs.declared.instance.Status.TheVariants.{Open}
use Rattle.sched_book.specs.declared.instance.UnitBook.{UnitBook}
use Rattle.sched_book.specs.declared.rows.Account.{Account}
use Rattle.sched_book.specs.declared.rows.Agreement.{Agreement}
use Rattle.sched_book.specs.declared.rows.Agreement.TheVariants.{Exact, Within}
use Rattle.sched_book.specs.declared.rows.App.{App}
use Rattle.sched_book.specs.declared.rows.HostRow.{HostRow}
use Rattle.sched_book.specs.declared.rows.Version.{Version}
use Rattle.sched_book.specs.declared.world.World.{World}
use Rattle.sched_book.proofs.Bounded.{sound_is_bounded, instances_are_few}
use Rattle.sched_book.proofs.PlacesOf.{nth-suc}
use Rattle.table_meaning.specs.declared.rows.StoredRow.{StoredRow}
use Rattle.table_meaning.specs.declared.rows.StoredRow.TheVariants as stored
use Rattle.table_meaning.specs.declared.tables.TableName.{TableName}
use Rattle.table_meaning.specs.declared.tables.TableName.TheVariants as name
use Rattle.table_meaning.specs.Codes.{status_code, lapse_code}
use Rattle.table_meaning.specs.Formats.{IsStored, IsOf, number, integer, words, flag, optional}
use Rattle.table_meaning.specs.Rows.{setting_key, account_key, app_key, version_key, class_key, unit_key, mark_key, host_key, instance_key, kept_key, batch_key, columns_of, whole}
use Rattle.table_meaning.specs.Worlds.{BatchText, SlotCalls, agreement_limit, joined, app_place, is_marked, account_row, app_row, version_row, class_row, host_row, unit_row, mark_row, instance_row, call_row, contents_of}
use Rattle.table_rows.specs.Utf8.{IsUtf8Value, HasUtf8}
use Rattle.table_worlds.specs.RowsOf.{setting_rows}
use Rattle.table_worlds.proofs.AppsNamed.{named_app}
use Rattle.table_worlds.proofs.ByPlace.{all_nth, all_got}
use Rattle.table_worlds.proofs.RowsHold.{setting_listed}
use Rattle.table_reading.proofs.HeldRows.{HaveFormats, HaveTexts}
use Rattle.stores.specs.Standing.{last_seqno, most_import_bytes}
use Rattle.table_reading.specs.Reading.{MayBeKeptWith, is_call_of, is_import}

-- ---- values

of_number : (n : ℕ) → n < 4294967296 → IsOf number (whole n)
of_number n lt = (n, refl, lt)

of_word : (t : List ℕ) → IsWord t → IsOf words (Text t)
of_word t is = (t, refl, IsUtf8-word t is)

of_number_or_none : (o : Option ℕ) → IfSome o (λ n. n < 4294967296) → IsOf (optional number) (or_null whole o)
of_number_or_none None small = inl refl
of_number_or_none (Some n) small = inr (of_number n small)

of_integer_or_none : (o : Option ℤ) → IsOf (optional integer) (or_null Int o)
of_integer_or_none None = inl refl
of_integer_or_none (Some n) = inr (n, refl)

of_text_or_none : (o : Option (List ℕ)) → IsUtf8Value (or_null Text o) → IsOf (optional words) (or_null Text o)
of_text_or_none None utf8 = inl refl
of_text_or_none (Some t) utf8 = inr (t, refl, utf8)

of_flag : (b : Bool) → IsOf flag (whole (if b then 1 else 0))
of_flag true = inr refl
of_flag false = inl refl

weaker : {X : Type 0} {P Q : X → Type 0} (o : Option X) → ((x : X) → P x → Q x) → IfSome o P → IfSome o Q
weaker None f h = tt
weaker (Some x) f h = f x h

-- a row made of an item, if there is one, has its format if each such row with its texts in UTF-8 has it
made : {X : Type 0} (f : X → StoredRow) (t : TableName) (o : Option X) → IfSome (option_map f o) (λ r. HasUtf8 (columns_of r)) → ((x : X) → o ≡ Some x → HasUtf8 (columns_of (f x)) → IsStored t (columns_of (f x)))
    → IfSome (option_map f o) (λ r. IsStored t (columns_of r))
made f t None texts each = tt
made f t (Some x) texts each = each x refl texts

-- ---- numbers of a world

at_most : {X : Type 0} (xs : List X) (n : ℕ) (x : X) → nth xs n ≡ Some x → n ≤ length xs
at_most xs zero x is = omega arith
at_most xs (suc i) x is = let below : i < length xs = slice_get_within xs i x (sym (nth-suc xs i) ∙ is) in omega (arith, below)

stands_within : {X : Type 0} (xs : List X) (n : ℕ) → is_some (nth xs n) ≡ true → n ≤ length xs
stands_within {X} xs n some = go (nth xs n) refl some
  where
    go : (o : Option X) → nth xs n ≡ o → is_some o ≡ true → n ≤ length xs
    go None is none = cc
    go (Some x) is there = at_most xs n x is

lapse_small : (o : Option Lapse) → lapse_code o < 4294967296
lapse_small None = omega arith
lapse_small (Some Late) = omega arith
lapse_small (Some Dropped) = omega arith

status_small : (s : Status) → status_code s < 4294967296
status_small Open = omega arith
status_small _ = omega arith

limit_small : (a : Agreement) → distance_of a ≤ 1000000000 → IfSome (agreement_limit a) (λ n. n < 4294967296)
limit_small Exact le = tt
limit_small (Within n) le = omega (arith, le)

outcome_small : (o : Option Outcome) → IfSome (option_map (λ r. if r.success then 1 else 3) o) (λ n. n < 4294967296)
outcome_small None = tt
outcome_small (Some r) = elim r.success as (λ b. (if b then 1 else 3) < 4294967296) [ true ↦ omega arith | false ↦ omega arith ]

place_small : (o : Option Outcome) → IfSome o (λ r. IfSome r.place (λ p. (1 ≤ p) × (p ≤ most_instances))) → IfSome (option_and_then (λ r. r.place) o) (λ n. n < 4294967296)
place_small None few = tt
place_small (Some r) few = weaker r.place (λ p le. omega (arith, le.1)) few

-- ---- rows

module _ (w : World) (sound : Sound w) where
  bounded : IsBounded w
  bounded = sound_is_bounded w sound

  few_accounts : length w.accounts ≤ 10000
  few_accounts = bounded.accounts

  few_apps : length w.apps ≤ 100
  few_apps = bounded.apps

  few_versions : length w.versions ≤ 1000
  few_versions = bounded.versions

  few_hosts : length w.hosts ≤ 100000
  few_hosts = bounded.hosts

  few_units : length w.units ≤ 200000
  few_units = bounded.units

  setting_formats : AllByRecursion (λ r. IsStored name.Setting (columns_of r)) (setting_rows w.settings)
  setting_formats =
      let s = w.settings in
      let limits = sound.rows.settings in
      let quota : s.daily_result_quota < 4294967296 = omega (arith, limits.quota.1) in
      let hosts : s.max_hosts < 4294967296 = omega (arith, limits.hosts.1) in
      let in_progress : s.max_wus_in_progress < 4294967296 = omega (arith, limits.in_progress.1) in
      let to_send : s.max_wus_to_send < 4294967296 = omega (arith, limits.to_send.1) in
      let delay : s.request_delay < 4294967296 = omega (arith, limits.delay) in
      let resend : (if s.resend_lost_results then 1 else 0) < 4294967296 = elim s.resend_lost_results as (λ b. (if b then 1 else 0) < 4294967296) [ true ↦ omega arith | false ↦ omega arith ] in (
        (refl, (of_word (codes "schema") refl, (inl (of_number 3 (omega arith)), tt))),
        (
          (refl, (of_word (codes "daily_result_quota") refl, (inl (of_number s.daily_result_quota quota), tt))),
          (
            (refl, (of_word (codes "max_hosts") refl, (inl (of_number s.max_hosts hosts), tt))),
            (
              (refl, (of_word (codes "max_wus_in_progress") refl, (inl (of_number s.max_wus_in_progress in_progress), tt))),
              (
                (refl, (of_word (codes "max_wus_to_send") refl, (inl (of_number s.max_wus_to_send to_send), tt))),
                (
                  (refl, (of_word (codes "operator_key") refl, (inr (of_word s.operator_key limits.key), tt))),
                  (
                    (refl, (of_word (codes "request_delay") refl, (inl (of_number s.request_delay delay), tt))),
                    ((refl, (of_word (codes "resend_lost_results") refl, (inl (of_number (if s.resend_lost_results then 1 else 0) resend), tt))), tt),
                  ),
                ),
              ),
            ),
          ),
        ),
      )

  account_format : (id : ℕ) (a : Account) → nth w.accounts id ≡ Some a → HasUtf8 (columns_of (stored.Account (account_row id a))) → IsStored name.Account (columns_of (stored.Account (account_row id a)))
  account_format id a is texts =
      let limits = all_nth IsAccountInLimits w.accounts id a is sound.rows.accounts in
      (refl, (of_number id (omega (arith, at_most w.accounts id a is, few_accounts)), (of_word a.authenticator limits.authenticator, ((a.name, refl, texts.1.1.0), tt))))

  app_format : (id : ℕ) (a : App) → nth w.apps id ≡ Some a → IsStored name.App (columns_of (stored.App (app_row id a)))
  app_format id a is =
      let limits = all_nth IsAppInLimits w.apps id a is sound.rows.apps in
      (refl, (of_number id (omega (arith, at_most w.apps id a is, few_apps)), (of_word a.name limits.name, (of_number_or_none (agreement_limit a.agreement) (limit_small a.agreement limits.distance), tt))))

  -- the place of an application that exists
  app_small : (text : List ℕ) → has_app w.apps text ≡ true → app_place w text < 4294967296
  app_small text has = let named = named_app w text has in omega (arith, at_most w.apps (app_place w text) named.0 named.1, few_apps)

  version_format : (id : ℕ) (v : Version) → nth w.versions id ≡ Some v → IsStored name.Version (columns_of (stored.Version (version_row w id v)))
  version_format id v is =
      let one = all_nth (IsSoundVersion w.apps) w.versions id v is sound.rows.versions in
      let num : v.version_num < 4294967296 = omega (arith, one.limits.number.1) in
      (refl, (of_number id (omega (arith, at_most w.versions id v is, few_versions)), (of_number (app_place w v.app) (app_small v.app one.app), (of_word v.platform one.limits.platform, (of_number v.version_num num, tt)))))

  class_format : (id : ℕ) (v : Version) → nth w.versions id ≡ Some v → IsStored name.VersionClass (columns_of (stored.VersionClass (class_row id v)))
  class_format id v is =
      let one = all_nth (IsSoundVersion w.apps) w.versions id v is sound.rows.versions in
      (refl, (of_number id (omega (arith, at_most w.versions id v is, few_versions)), (of_word v.class one.limits.class, tt)))

  unit_format : (id : ℕ) (b : UnitBook) → unit_at w id ≡ Some b → IsStored name.Unit (columns_of (stored.Unit (unit_row w id b)))
  unit_format id b is =
      let one = all_nth (IsSoundUnit w.hosts w.apps) w.units id b is sound.units in
      let limits = one.well.limits in
      let u = b.unit in
      let quorum : u.min_quorum < 4294967296 = omega (arith, limits.quorum.1) in
      let target : u.target_nresults < 4294967296 = omega (arith, limits.target.1) in
      let errors : u.max_error_results < 4294967296 = omega (arith, limits.errors) in
      let total : u.max_total_results < 4294967296 = omega (arith, limits.total.1) in
      let successes : u.max_success_results < 4294967296 = omega (arith, limits.successes) in
      let delay : u.delay_bound < 4294967296 = omega (arith, limits.delay.1) in
      let credit : u.credit < 4294967296 = omega (arith, limits.credit) in (refl, (of_number id (omega (arith, at_most w.units id b is, few_units)), (of_word u.name limits.name, (of_number (app_place w u.app) (app_small u.app one.well.app), (of_number u.min_quorum quorum, (of_number u.target_nresults target, (of_number u.max_error_results errors, (of_number u.max_total_results total, (of_number u.max_success_results successes, (of_number u.delay_bound delay, ((pos u.rsc_fpops_est, refl), ((pos u.rsc_memory_bound, refl), ((pos u.rsc_disk_bound, refl), (of_number u.credit credit, (of_number (status_code (status_of w b)) (status_small (status_of w b)), tt)))))))))))))))

  mark_format : (id : ℕ) (b : UnitBook) → unit_at w id ≡ Some b → HasUtf8 (columns_of (stored.UnitMark (mark_row id b))) → IsStored name.UnitMark (columns_of (stored.UnitMark (mark_row id b)))
  mark_format id b is texts =
      let rule = b.unit.class_rule in
      (refl, (of_number id (omega (arith, at_most w.units id b is, few_units)), (of_flag (is_marked rule), (of_text_or_none (class_of rule) texts.1.1.0, tt))))

  host_format : (id : ℕ) (h : HostRow) → host_at w id ≡ Some h → HasUtf8 (columns_of (stored.Host (host_row (length (held_by w id)) (host_credit w id) id h))) → IsStored name.Host (columns_of (stored.Host (host_row (length (held_by w id)) (host_credit w id) id h)))
  host_format id h is texts =
      let one = all_nth (IsSoundHost (length w.accounts) w.settings.daily_result_quota) w.hosts id h is sound.rows.hosts in
      let account : h.account < 4294967296 = omega (arith, one.account.1, few_accounts) in
      let most : w.settings.daily_result_quota ≤ 1000000 = sound.rows.settings.quota.1 in
      let quota : h.quota < 4294967296 = omega (arith, one.limits.quota.1, most) in
      let few : length (held_by w id) ≤ 20000000 = (instances_are_few w bounded).held id in (refl, (of_number id (omega (arith, at_most w.hosts id h is, few_hosts)), (of_number h.account account, (of_word h.cpid one.limits.cpid, ((joined h.platforms, refl, texts.1.1.1.0), ((pos h.p_fpops, refl), ((pos h.m_nbytes, refl), ((pos h.d_free, refl), (of_number h.quota quota, (of_number (length (held_by w id)) (omega (arith, few)), ((pos (host_credit w id), refl), tt)))))))))))

  instance_format : (unit num : ℕ) (b : UnitBook) (x : Job) → unit_at w unit ≡ Some b → slice_get b.instances num ≡ Some x → HasUtf8 (columns_of (stored.Instance (instance_row w b unit num x)))
      → IsStored name.Instance (columns_of (stored.Instance (instance_row w b unit num x)))
  instance_format unit num b x here there texts =
      let one = all_nth (IsSoundUnit w.hosts w.apps) w.units unit b here sound.units in
      let owner = all_got (HasOwnerAmong w.hosts) b.instances num x there one.well.owners in
      let limits = all_got IsInstanceInLimits b.instances num x there one.well.instances in
      let few : length b.instances ≤ 100 = one.well.few in
      let below : num < length b.instances = slice_get_within b.instances num x there in (refl, (of_number unit (omega (arith, at_most w.units unit b here, few_units)), (of_number num (omega (arith, below, few)), (of_number_or_none (host_of x) (weaker (host_of x) (λ host stands. omega (arith, stands_within w.hosts host stands, few_hosts)) owner), (of_integer_or_none (option_map (λ o. pos o.sent) x.owner), (of_integer_or_none (option_map (λ o. pos o.deadline) x.owner), (of_number (lapse_code x.lapse) (lapse_small x.lapse), (of_number_or_none (option_map (λ r. if r.success then 1 else 3) x.report) (outcome_small x.report), (of_text_or_none (option_map (λ r. r.output) x.report) texts.1.1.1.1.1.1.1.0, (of_number_or_none (option_and_then (λ r. r.place) x.report) (place_small x.report limits.place), (of_flag (instance_row w b unit num x).queued, tt)))))))))))

  call_format : (host slot : ℕ) (k : Call) → is_call_of w (stored.Kept (call_row host slot k)) ≡ true → HasUtf8 (columns_of (stored.Kept (call_row host slot k))) → IsStored name.Kept (columns_of (stored.Kept (call_row host slot k)))
  call_format host slot k fits texts =
      let parts = and_parts (is_some (host_at w host)) (nat_lt slot most_kept && nat_le k.seqno last_seqno) fits in
      let ranges = and_parts (nat_lt slot most_kept) (nat_le k.seqno last_seqno) parts.1 in
      let in_slot : slot < 4294967296 = grind (arith, ranges.0) in
      let in_range : k.seqno < 4294967296 = grind (arith, ranges.1) in
      (refl, (of_number host (omega (arith, stands_within w.hosts host parts.0, few_hosts)), (of_number slot in_slot, (of_number k.seqno in_range, ((k.text, refl, texts.1.1.1.0), ((k.reply, refl, texts.1.1.1.1.0), tt))))))

import_format : (kind text : List ℕ) (b : BatchText) → is_import (stored.Batch (record { kind = kind; name = text; text = b.0; answer = b.1 })) ≡ true
    → HasUtf8 (columns_of (stored.Batch (record { kind = kind; name = text; text = b.0; answer = b.1 }))) → IsStored name.Batch (columns_of (stored.Batch (record { kind = kind; name = text; text = b.0; answer = b.1 })))
import_format kind text b fits texts =
    let parts = and_parts (is_some (kind_of kind)) (is_word text && nat_le (length b.0) most_import_bytes) fits in
    let named = and_parts (is_word text) (nat_le (length b.0) most_import_bytes) parts.1 in
    (refl, ((kind, refl, texts.0), (of_word text named.0, ((b.0, refl), ((b.1, refl, texts.1.1.1.0), tt)))))

pub have_formats : (w : World) (calls : SlotCalls) (batches : List ℕ → List ℕ → Option BatchText) → Sound w → MayBeKeptWith w calls batches → HaveTexts (contents_of w calls batches) → HaveFormats (contents_of w calls batches)
have_formats w calls batches sound beside texts (setting_key text) = go (contents_of w calls batches (setting_key text)) refl
  where
    go : (o : Option StoredRow) → contents_of w calls batches (setting_key text) ≡ o → IfSome o (λ r. IsStored name.Setting (columns_of r))
    go None is = tt
    go (Some r) is = all_has (λ s. IsStored name.Setting (columns_of s)) (setting_rows w.settings) r (setting_formats w sound) (setting_listed w.settings (setting_key text) r is)
have_formats w calls batches sound beside texts (account_key id) = made (λ (a : Account). stored.Account (account_row id a)) name.Account (nth w.accounts id) (texts (account_key id)) (account_format w sound id)
have_formats w calls batches sound beside texts (app_key id) = made (λ (a : App). stored.App (app_row id a)) name.App (nth w.apps id) (texts (app_key id)) (λ a is _. app_format w sound id a is)
have_formats w calls batches sound beside texts (version_key id) = made (λ (v : Version). stored.Version (version_row w id v)) name.Version (nth w.versions id) (texts (version_key id)) (λ v is _. version_format w sound id v is)
have_formats w calls batches sound beside texts (class_key id) = made (λ (v : Version). stored.VersionClass (class_row id v)) name.VersionClass (nth w.versions id) (texts (class_key id)) (λ v is _. class_format w sound id v is)
have_formats w calls batches sound beside texts (unit_key id) = made (λ (b : UnitBook). stored.Unit (unit_row w id b)) name.Unit (unit_at w id) (texts (unit_key id)) (λ b is _. unit_format w sound id b is)
have_formats w calls batches sound beside texts (mark_key id) = made (λ (b : UnitBook). stored.UnitMark (mark_row id b)) name.UnitMark (unit_at w id) (texts (mark_key id)) (mark_format w sound id)
have_formats w calls batches sound beside texts (host_key id) =
    made (λ (h : HostRow). stored.Host (host_row (length (held_by w id)) (host_credit w id) id h)) name.Host (host_at w id) (texts (host_key id)) (host_format w sound id)
have_formats w calls batches sound beside texts (instance_key unit num) = go (unit_at w unit) refl (texts (instance_key unit num))
  where
    row_in : Option UnitBook → Option StoredRow
    row_in = option_and_then (λ (b : UnitBook). option_map (λ (x : Job). stored.Instance (instance_row w b unit num x)) (slice_get b.instances num))

    go : (o : Option UnitBook) → unit_at w unit ≡ o → IfSome (row_in o) (λ r. HasUtf8 (columns_of r)) → IfSome (row_in o) (λ r. IsStored name.Instance (columns_of r))
    go None is text = tt
    go (Some b) is text = made (λ (x : Job). stored.Instance (instance_row w b unit num x)) name.Instance (slice_get b.instances num) text (λ x there. instance_format w sound unit num b x is there)
have_formats w calls batches sound beside texts (kept_key host slot) = go (calls host slot) (beside.calls_fit host slot) (texts (kept_key host slot))
  where
    row_in : Option Call → Option StoredRow
    row_in = option_map (λ (k : Call). stored.Kept (call_row host slot k))

    go : (o : Option Call) → IfSome o (λ k. IsTrue (is_call_of w (stored.Kept (call_row host slot k)))) → IfSome (row_in o) (λ r. HasUtf8 (columns_of r)) → IfSome (row_in o) (λ r. IsStored name.Kept (columns_of r))
    go None fits text = tt
    go (Some k) fits text = call_format w sound host slot k fits text
have_formats w calls batches sound beside texts (batch_key kind text) = go (batches kind text) (beside.imports_fit kind text) (texts (batch_key kind text))
  where
    row_in : Option BatchText → Option StoredRow
    row_in = option_map (λ (b : BatchText). stored.Batch (record { kind = kind; name = text; text = b.0; answer = b.1 }))

    go : (o : Option BatchText) → IfSome o (λ b. IsTrue (is_import (stored.Batch (record { kind = kind; name = text; text = b.0; answer = b.1 })))) → IfSome (row_in o) (λ r. HasUtf8 (columns_of r))
        → IfSome (row_in o) (λ r. IsStored name.Batch (columns_of r))
    go None fits utf8 = tt
    go (Some b) fits utf8 = import_format kind text b fits utf8
