use Rattle.std.proofs.Common.{sym, ap, subst, ◌∙◌}
use Rattle.std.specs.Option.{option_copied}
use Rattle.sched_book.specs.declared.rows.Workunit.{Workunit}
use Rattle.call_working_set.specs.WorkingSets.{IsUnitStateAt}
use Rattle.table_meaning.specs.declared.rows.StoredRow.TheVariants as stored
use Rattle.table_changes.proofs.CallStateRows.{mark_changed, mark_stays, mark_unread}
use Rattle.table_changes.proofs.marks.changed_mark.Goals as goal

pub returns-in_default : goal.returns-in_default
returns-in_default c = λ w v at. mark_unread w v c.args.unit (subst (λ o. IsUnitStateAt w v c.args.unit (option_copied o)) c.in_default.is at)

pub returns-then-same_rule : goal.returns-then-same_rule
returns-then-same_rule c = λ w v at.
    mark_stays w v c.args.unit c.in-Some.unit_state.now (subst (λ o. IsUnitStateAt w v c.args.unit (option_copied o)) c.in-Some.is at)
    (ap (λ (u : Workunit). u.class_rule) (sym c.unit.ensures) ∙ c.same_rule.ensures c.if-same_rule.true ∙ c.rule.ensures)

pub returns : goal.returns
returns c = λ w v at.
    mark_changed w v c.args.unit c.in-Some.unit_state.now c.update.result (subst (λ o. IsUnitStateAt w v c.args.unit (option_copied o)) c.in-Some.is at)
    (λ b of. c.update.ensures ∙ ap stored.UnitMark (c.in_ok-row.ensures b (of ∙ sym c.rule-2.ensures)))
