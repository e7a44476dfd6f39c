use Rattle.std.proofs.Common.{◌∙◌}
use Rattle.sched_book.specs.Places.{held_by, host_credit}
use Rattle.std.specs.Prelude.{length}
use Rattle.table_worlds.specs.RowsOf.{without_units}
use Rattle.table_decoding.proofs.Refusals.{passed_on}
use Rattle.table_decoding.proofs.WorldDecoded.{settings_told, accounts_told, apps_told, versions_told, classes_told, hosts_told, hosts_limited}
use Rattle.table_decoding.proofs.decoded.world_of.Goals as goal

pub returns-in_err-settings-clause-told : goal.returns-in_err-settings-clause-told
returns-in_err-settings-clause-told c = λ w sound are.
    passed_on c.from_residual.result (without_units w) c.in_err-settings.field-0.0 c.from_residual.ensures.1 (c.in_err-settings.ensures w.settings (settings_told w c.args.rows.now are _ c.as_slice.ensures))

pub returns-in_err-accounts-clause-told : goal.returns-in_err-accounts-clause-told
returns-in_err-accounts-clause-told c = λ w sound are.
    passed_on c.from_residual-in_err-accounts.result (without_units w) c.in_err-accounts.field-0.0 c.from_residual-in_err-accounts.ensures.1
    (c.in_err-accounts.ensures w.accounts sound.rows.accounts (accounts_told w c.args.rows.now are _ c.as_slice-2.ensures))

pub returns-in_err-apps-clause-told : goal.returns-in_err-apps-clause-told
returns-in_err-apps-clause-told c = λ w sound are.
    passed_on c.from_residual-in_err-apps.result (without_units w) c.in_err-apps.field-0.0 c.from_residual-in_err-apps.ensures.1
    (c.in_err-apps.ensures w.apps (apps_told w c.args.rows.now are _ c.as_slice-3.ensures))

pub returns-in_err-versions-clause-told : goal.returns-in_err-versions-clause-told
returns-in_err-versions-clause-told c = λ w sound are.
    let apps = c.in_ok-apps.ensures w.apps (apps_told w c.args.rows.now are _ c.as_slice-3.ensures) in
    passed_on c.from_residual-in_err-versions.result (without_units w) c.in_err-versions.field-0.0 c.from_residual-in_err-versions.ensures.1
    (c.in_err-versions.ensures w (c.as_slice-4.ensures ∙ apps) sound.rows.versions (versions_told w c.args.rows.now are _ c.as_slice-5.ensures)
    (classes_told w c.args.rows.now are _ c.as_slice-6.ensures))

pub returns-in_err-hosts-clause-told : goal.returns-in_err-hosts-clause-told
returns-in_err-hosts-clause-told c = λ w sound are.
    passed_on c.from_residual-in_err-hosts.result (without_units w) c.in_err-hosts.field-0.0 c.from_residual-in_err-hosts.ensures.1
    (c.in_err-hosts.ensures (λ id. length (held_by w id)) (host_credit w) w.hosts (hosts_limited w sound) (hosts_told w c.args.rows.now are _ c.as_slice-7.ensures))

pub returns-clause-told : goal.returns-clause-told
returns-clause-told c = λ w sound are.
    let rows = c.args.rows.now in
    let settings = c.in_ok-settings.ensures w.settings (settings_told w rows are _ c.as_slice.ensures) in
    let accounts = c.in_ok-accounts.ensures w.accounts sound.rows.accounts (accounts_told w rows are _ c.as_slice-2.ensures) in
    let apps = c.in_ok-apps.ensures w.apps (apps_told w rows are _ c.as_slice-3.ensures) in
    let versions = c.in_ok-versions.ensures w (c.as_slice-4.ensures ∙ apps) sound.rows.versions (versions_told w rows are _ c.as_slice-5.ensures) (classes_told w rows are _ c.as_slice-6.ensures) in
    let hosts = c.in_ok-hosts.ensures (λ id. length (held_by w id)) (host_credit w) w.hosts (hosts_limited w sound) (hosts_told w rows are _ c.as_slice-7.ensures) in
    let made = c.new.ensures in
    λ i. record { settings = settings i; accounts = accounts i; apps = apps i; versions = versions i; units = made i; hosts = hosts i }
