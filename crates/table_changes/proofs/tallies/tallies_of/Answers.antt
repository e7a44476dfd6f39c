use Rattle.std.proofs.Common.{rules, ◌<◌, length, get_or, ap, ◌∙◌}
use Rattle.std.specs.BTreeMap.{get}
use Rattle.std.specs.Ordering.{nat_cmp}
use Rattle.call_working_set.specs.WorkingSets.{book_before, book_now}
use Rattle.table_worlds.specs.Totals.{more}
use Rattle.table_changes.specs.Tallies.{tally, held_on, credit_on}
use Rattle.table_changes.proofs.Totals.{total_next}
use Rattle.table_changes.proofs.tallies.tallies_of.Goals as goal

pub loop-unit-preserved : goal.loop-unit-preserved
loop-unit-preserved c =
    let units = c.args.units.now in
    let i = c.loop-unit.unit-index in
    let unit = get_or units i 0 in
    let within : i < length units = search rules in
    let kept = get nat_cmp c.args.call_state.now.unit_states in
    let inv = c.loop-unit.invariant in
    record {
      before = λ host.
          c.in_ok-count_unit_state.ensures.before host
          ∙ ap (λ o. more (tally c.loop-unit.tallies.before host) (held_on book_before host o) (credit_on book_before host o)) c.unit_state.ensures
          ∙ total_next book_before kept units i unit host (tally c.loop-unit.tallies.before host) within (search rules) (inv.before host);
      present = λ host.
          c.in_ok-count_unit_state.ensures.present host
          ∙ ap (λ o. more (tally c.loop-unit.tallies.present host) (held_on book_now host o) (credit_on book_now host o)) c.unit_state.ensures
          ∙ total_next book_now kept units i unit host (tally c.loop-unit.tallies.present host) within (search rules) (inv.present host);
    }
