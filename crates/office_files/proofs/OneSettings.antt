-- A text has one set of settings: it is one table, and a table has one value at a key.
use Rattle.std.proofs.Common.{◌≡◌, ℕ, ℤ, pos, negsuc, Option, Some, sym, ap, ◌∙◌, subst}
use Rattle.std.proofs.lemmas.Option.{same_Some}
use Rattle.toml.specs.Data.{Members}
use Rattle.sched_book.specs.declared.settings.Settings.{Settings}
use Rattle.office_files.specs.SettingsTexts.{AreSettingsOf, TextsTellOneSettings}

-- two values that are read at one place are equal
told_alike : {A : Type 0} {told : Option A} (x y : A) → told ≡ Some x → told ≡ Some y → x ≡ y
told_alike x y this that = same_Some x y (sym this ∙ that)

abbrev amount : ℤ → ℕ
amount (pos n) = n
amount (negsuc n) = 0

told_number : {told : Option ℤ} (m n : ℕ) → told ≡ Some (pos m) → told ≡ Some (pos n) → m ≡ n
told_number m n this that = ap amount (told_alike (pos m) (pos n) this that)

of_one_table : (table : Members) (s t : Settings) → AreSettingsOf table s → AreSettingsOf table t → s ≡ t
of_one_table table s t this that = λ i. record {
  daily_result_quota = told_number s.daily_result_quota t.daily_result_quota this.daily_result_quota that.daily_result_quota i;
  max_hosts = told_number s.max_hosts t.max_hosts this.max_hosts that.max_hosts i;
  max_wus_in_progress = told_number s.max_wus_in_progress t.max_wus_in_progress this.max_wus_in_progress that.max_wus_in_progress i;
  max_wus_to_send = told_number s.max_wus_to_send t.max_wus_to_send this.max_wus_to_send that.max_wus_to_send i;
  operator_key = told_alike s.operator_key t.operator_key this.operator_key that.operator_key i;
  request_delay = told_number s.request_delay t.request_delay this.request_delay that.request_delay i;
  resend_lost_results = told_alike s.resend_lost_results t.resend_lost_results this.resend_lost_results that.resend_lost_results i;
}

pub texts_tell_one_settings : TextsTellOneSettings
texts_tell_one_settings text s t (table, is_table, this) (other, is_other, that) =
    let same : other ≡ table = told_alike other table is_other is_table in
    of_one_table table s t this (subst (λ found. AreSettingsOf found t) same that)
