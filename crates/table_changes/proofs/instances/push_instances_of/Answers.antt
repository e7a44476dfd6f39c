use Rattle.std.proofs.Common.{rules, ◌+◌, ◌≤◌, length, [], ◌∷◌, subst}
use Rattle.std.specs.Option.{option_copied}
use Rattle.call_working_set.specs.WorkingSets.{IsUnitStateOf, IsUnitStateAt}
use Rattle.table_worlds.specs.declared.keys.WorldKey.TheVariants.{Instance}
use Rattle.table_changes.specs.Added.{is_instance_among}
use Rattle.table_changes.proofs.Adding.{none_added, one_added, added_at}
use Rattle.table_changes.proofs.InTurn.{is_instance_below, none_below, instances_next, instances_all}
use Rattle.table_changes.proofs.CallStateRows.{instances_gone, unread_settled}
use Rattle.table_changes.proofs.instances.push_instances_of.Goals as goal

pub loop-number-init : goal.loop-number-init
loop-number-init c = λ w v apps unit_state. none_added (is_instance_below c.args.unit 0) w v c.args.rows.now (λ k is. none_below c.args.unit k is _)

pub loop-number-preserved : goal.loop-number-preserved
loop-number-preserved c = λ w v apps unit_state.
    let unit = c.args.unit in
    let i = c.loop-number.number in
    one_added (is_instance_below unit i) (is_instance_below unit (i + 1)) (Instance (record { unit = unit; number = i })) w v c.args.rows.now c.loop-number.rows c.push_some.new.self
    c.in_ok-changed_instance.field-0 (instances_next unit i)
    (c.in_ok-changed_instance.ensures w v apps unit_state c.status_before.ensures c.present_status.ensures)
    c.in_ok-push_some.ensures (c.loop-number.invariant w v apps unit_state)

pub returns : goal.returns
returns c = λ w v apps at.
    let unit = c.args.unit in
    let n = c.loop-number.number in
    let k = c.in-Some.read.now in
    let unit_state : IsUnitStateOf w v unit k = subst (λ o. IsUnitStateAt w v unit (option_copied o)) c.in-Some.is at in
    let all : length k.present ≤ n = search rules in
    added_at (is_instance_below unit n) (is_instance_among (unit ∷ [])) w v c.args.rows.now c.loop-number.rows
    (instances_all w v unit n (instances_gone w v unit n k apps unit_state all)) (c.loop-number.invariant w v apps unit_state)

pub returns-in_default : goal.returns-in_default
returns-in_default c = λ w v apps at.
    none_added (is_instance_among (c.args.unit ∷ [])) w v c.args.rows.now
    (unread_settled w v c.args.unit apps (subst (λ o. IsUnitStateAt w v c.args.unit (option_copied o)) c.in_default.is at))
