use Rattle.std.proofs.Common.{ap}
use Rattle.std.specs.Option.{option_copied}
use Rattle.std.proofs.lemmas.Result.{on_ok_weaker}
use Rattle.call_working_set.specs.WorkingSets.{book_before, book_now}
use Rattle.table_changes.specs.Tallies.{tally}
use Rattle.table_changes.proofs.ReadableCalls.{done_anyhow}
use Rattle.table_changes.proofs.Totals.{unit_state_counted}
use Rattle.table_changes.proofs.tallies.count_unit_state.Goals as goal

pub returns-clause-before : goal.returns-clause-before
returns-clause-before c =
    done_anyhow _ c.count_instances-2.result (λ host.
    unit_state_counted book_before c.in-Some.unit_state.now (option_copied c.args.unit_state) c.agreement-agreement.result c.unit.result.now c.decided_before.result c.before-2.result.now
    host (tally c.args.tallies.now.before host) (tally c.count_instances.new.totals host)
    (ap option_copied c.in-Some.is) c.agreement-agreement.ensures c.unit.ensures c.before-2.ensures.value c.decided_before.ensures (c.in_ok-count_instances.ensures host))

pub returns-clause-present : goal.returns-clause-present
returns-clause-present c =
    on_ok_weaker c.count_instances-2.result (λ counted host.
    unit_state_counted book_now c.in-Some.unit_state.now (option_copied c.args.unit_state) c.agreement-agreement.result c.unit-2.result.now c.decided_now.result c.present.result.now
    host (tally c.args.tallies.now.present host) (tally c.count_instances-2.new.totals host)
    (ap option_copied c.in-Some.is) c.agreement-agreement.ensures c.unit-2.ensures c.present.ensures.value c.decided_now.ensures (counted host)) c.count_instances-2.ensures
