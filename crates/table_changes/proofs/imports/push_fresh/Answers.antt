use Rattle.std.proofs.Common.{rules, ap, ◌+◌, ◌<◌, ◌≤◌, [], ◌∷◌, ◌∙◌, Some}
use Rattle.table_meaning.specs.declared.rows.StoredRow.TheVariants as stored
use Rattle.table_worlds.specs.declared.keys.WorldKey.TheVariants.{Instance}
use Rattle.table_changes.specs.Added.{is_instance_among}
use Rattle.table_changes.proofs.Adding.{none_added, one_added, added_at}
use Rattle.table_changes.proofs.InTurn.{is_instance_below, none_below, instances_next, instances_all}
use Rattle.table_changes.proofs.ImportRows.{fresh_change, fresh_gone}
use Rattle.table_changes.proofs.imports.push_fresh.Goals as goal

pub loop-number-init : goal.loop-number-init
loop-number-init c = λ w v b stands begins told. none_added (is_instance_below c.args.unit 0) w v c.args.rows.now (λ k is. none_below c.args.unit k is _)

pub loop-number-preserved : goal.loop-number-preserved
loop-number-preserved c = λ w v b stands begins told.
    let unit = c.args.unit in
    let i = c.loop-number.number in
    let row = c.insert.result in
    let within : i < c.args.count = search rules in
    one_added (is_instance_below unit i) (is_instance_below unit (i + 1)) (Instance (record { unit = unit; number = i })) w v c.args.rows.now c.loop-number.rows c.push.new.self
    (Some row) (instances_next unit i)
    (fresh_change w v b unit c.args.count i c.args.status c.unsent.result row stands begins within told c.unsent.ensures
    (λ y d of. c.insert.ensures ∙ ap stored.Instance (c.in_ok-row.ensures y d of)))
    c.in_ok-push.ensures.ok (c.loop-number.invariant w v b stands begins told)

pub returns : goal.returns
returns c = λ w v b stands begins told.
    let unit = c.args.unit in
    let n = c.loop-number.number in
    let all : c.args.count ≤ n = search rules in
    added_at (is_instance_below unit n) (is_instance_among (unit ∷ [])) w v c.args.rows.now c.loop-number.rows
    (instances_all w v unit n (fresh_gone v b unit c.args.count n stands begins all)) (c.loop-number.invariant w v b stands begins told)
