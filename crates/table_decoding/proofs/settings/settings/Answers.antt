use Rattle.table_decoding.proofs.Refusals.{passed_on, not_refused, same_given}
use Rattle.table_decoding.proofs.settings.settings.Goals as goal

pub returns-in_err-number : goal.returns-in_err-number
returns-in_err-number c = λ s all. absurd (not_refused c.in_err-number.field-0.0 s.daily_result_quota (c.in_err-number.ensures s.daily_result_quota all.daily_result_quota))

pub returns-in_err-number-2 : goal.returns-in_err-number-2
returns-in_err-number-2 c = λ s all. absurd (not_refused c.in_err-number-2.field-0.0 s.max_hosts (c.in_err-number-2.ensures s.max_hosts all.max_hosts))

pub returns-in_err-number-3 : goal.returns-in_err-number-3
returns-in_err-number-3 c = λ s all. absurd (not_refused c.in_err-number-3.field-0.0 s.max_wus_in_progress (c.in_err-number-3.ensures s.max_wus_in_progress all.max_wus_in_progress))

pub returns-in_err-number-4 : goal.returns-in_err-number-4
returns-in_err-number-4 c = λ s all. absurd (not_refused c.in_err-number-4.field-0.0 s.max_wus_to_send (c.in_err-number-4.ensures s.max_wus_to_send all.max_wus_to_send))

pub returns-in_err-number-5 : goal.returns-in_err-number-5
returns-in_err-number-5 c = λ s all. absurd (not_refused c.in_err-number-5.field-0.0 s.request_delay (c.in_err-number-5.ensures s.request_delay all.request_delay))

pub returns-in_err-flag : goal.returns-in_err-flag
returns-in_err-flag c = λ s all. absurd (not_refused c.in_err-flag.field-0.0 s.resend_lost_results (c.in_err-flag.ensures s.resend_lost_results all.resend_lost_results))

pub returns-in_err-word : goal.returns-in_err-word
returns-in_err-word c = λ s all.
    passed_on c.from_residual-in_err-word.result s c.in_err-word.field-0.0 c.from_residual-in_err-word.ensures.1 (c.in_err-word.ensures s.operator_key all.operator_key)

pub returns : goal.returns
returns c = λ s all i. record {
  daily_result_quota = same_given c.in_ok-number.field-0 s.daily_result_quota (c.in_ok-number.ensures s.daily_result_quota all.daily_result_quota) i;
  max_hosts = same_given c.in_ok-number-2.field-0 s.max_hosts (c.in_ok-number-2.ensures s.max_hosts all.max_hosts) i;
  max_wus_in_progress = same_given c.in_ok-number-3.field-0 s.max_wus_in_progress (c.in_ok-number-3.ensures s.max_wus_in_progress all.max_wus_in_progress) i;
  max_wus_to_send = same_given c.in_ok-number-4.field-0 s.max_wus_to_send (c.in_ok-number-4.ensures s.max_wus_to_send all.max_wus_to_send) i;
  operator_key = c.in_ok-word.ensures s.operator_key all.operator_key i;
  request_delay = same_given c.in_ok-number-5.field-0 s.request_delay (c.in_ok-number-5.ensures s.request_delay all.request_delay) i;
  resend_lost_results = same_given c.in_ok-flag.field-0 s.resend_lost_results (c.in_ok-flag.ensures s.resend_lost_results all.resend_lost_results) i;
}
