use Rattle.std.proofs.Common.{sym, ◌∙◌, rules}
use Rattle.std.proofs.lemmas.Bool.{false≢true}
use Rattle.office_files.proofs.OnlySettings.{only_settings}
use Rattle.office_files.proofs.settings.settings_in.Goals as goal

pub returns-then-not-has_only_settings-clause-bad : goal.returns-then-not-has_only_settings-clause-bad
returns-then-not-has_only_settings-clause-bad c = λ _ s all.
    let only = only_settings c.args.table.now.entries c.has_only_settings.result c.has_only_settings.ensures in
    absurd (false≢true (sym c.if-not-has_only_settings.true ∙ only.1 all.no_other))

pub returns-clause-told : goal.returns-clause-told
returns-clause-told c =
    let only = only_settings c.args.table.now.entries c.has_only_settings.result c.has_only_settings.ensures in
    record {
      daily_result_quota = c.in_ok-number_at.ensures.told.0;
      max_hosts = c.in_ok-number_at-2.ensures.told.0;
      max_wus_in_progress = c.in_ok-number_at-3.ensures.told.0;
      max_wus_to_send = c.in_ok-number_at-4.ensures.told.0;
      operator_key = c.in_ok-operator_key.ensures.told.told;
      request_delay = c.in_ok-number_at-5.ensures.told.0;
      resend_lost_results = search rules;
      no_other = only.0 c.if-not-has_only_settings.false;
      in_limits = record {
        quota = (c.in_ok-number_at.ensures.told.1, c.in_ok-number_at.ensures.told.2);
        hosts = (c.in_ok-number_at-2.ensures.told.1, c.in_ok-number_at-2.ensures.told.2);
        in_progress = (c.in_ok-number_at-3.ensures.told.1, c.in_ok-number_at-3.ensures.told.2);
        to_send = (c.in_ok-number_at-4.ensures.told.1, c.in_ok-number_at-4.ensures.told.2);
        delay = c.in_ok-number_at-5.ensures.told.2;
        key = c.in_ok-operator_key.ensures.told.word;
        key_length = c.in_ok-operator_key.ensures.told.enough;
      };
    }
