use Rattle.std.proofs.Common.{ap, ◌∙◌}
use Rattle.std.specs.Option.{option_copied}
use Rattle.table_meaning.specs.declared.rows.StoredRow.TheVariants as stored
use Rattle.call_working_set.proofs.SetRows.{row_got}
use Rattle.table_changes.proofs.CallStateRows.{instance_gone, instance_stays, instance_changed, none_is_change}
use Rattle.table_changes.proofs.instances.changed_instance.Goals as goal

pub returns-in_default : goal.returns-in_default
returns-in_default c = λ w v apps unit_state old new.
    let k = c.args.unit_state.now in
    none_is_change _ _ (instance_gone w v c.args.place.unit c.args.place.number k apps unit_state
    (row_got c.present.result.now k.present c.args.place.number c.get.result c.get.ensures.lookup c.present.ensures.value ∙ ap option_copied c.in_default.is))

pub returns-in_default-get : goal.returns-in_default-get
returns-in_default-get c = λ w v apps unit_state old new.
    let k = c.args.unit_state.now in
    let number = c.args.place.number in
    instance_changed w v c.args.place.unit number k c.in-Some.instance.now c.args.statuses.present c.insert.result apps unit_state
    (row_got c.present.result.now k.present number c.get.result c.get.ensures.lookup c.present.ensures.value ∙ ap option_copied c.in-Some.is)
    new (λ u b told. c.insert.ensures ∙ ap stored.Instance (c.in_ok-row.ensures u b told))

pub returns-then-has_same_row : goal.returns-then-has_same_row
returns-then-has_same_row c = λ w v apps unit_state old new.
    let k = c.args.unit_state.now in
    let number = c.args.place.number in
    instance_stays w v c.args.place.unit number k c.in-Some-get.before.now c.in-Some.instance.now c.args.statuses.before c.args.statuses.present apps unit_state
    (row_got c.before-2.result.now k.before number c.get-2.result c.get-2.ensures.lookup c.before-2.ensures.value ∙ ap option_copied c.in-Some-get.is)
    (row_got c.present.result.now k.present number c.get.result c.get.ensures.lookup c.present.ensures.value ∙ ap option_copied c.in-Some.is)
    old new (c.has_same_row.ensures.instance c.if-has_same_row.true) (c.has_same_row.ensures.queued c.if-has_same_row.true)

pub returns : goal.returns
returns c = λ w v apps unit_state old new.
    let k = c.args.unit_state.now in
    let number = c.args.place.number in
    instance_changed w v c.args.place.unit number k c.in-Some.instance.now c.args.statuses.present c.update.result apps unit_state
    (row_got c.present.result.now k.present number c.get.result c.get.ensures.lookup c.present.ensures.value ∙ ap option_copied c.in-Some.is)
    new (λ u b told. c.update.ensures ∙ ap stored.Instance (c.in_ok-row-2.ensures u b told))
