use Rattle.std.proofs.Common.{rules, ◌≡◌, ◌+◌, ◌∷◌, Bool, drop, cond, sym, ap, ◌∙◌}
use Rattle.std.proofs.lemmas.List.{drop_more, drop_all}
use Rattle.sched_book.specs.Count.{verdict_by, is_valid}
use Rattle.sched_book.specs.declared.instance.Instance.{Instance}
use Rattle.table_worlds.specs.Totals.{with_instances}
use Rattle.table_worlds.proofs.TotalsCounted.{instance_first, no_instance_first}
use Rattle.table_changes.specs.Tallies.{tally}
use Rattle.table_changes.proofs.tallies.count_instances.Goals as goal

pub loop-instance-preserved : goal.loop-instance-preserved
loop-instance-preserved c = λ host.
    let xs = c.args.instances.now in
    let u = c.args.unit.now in
    let i = c.loop-instance.instance-index in
    let x = c.instance-item.result in
    let valid : Instance → Bool = λ y. is_valid (verdict_by c.args.agreement.now xs c.args.canonical y) in
    let earns : c.earned.result ≡ cond (valid x) u.credit 0 = search rules in
    let split : drop i xs ≡ x ∷ drop (i + 1) xs =
    drop_more xs i x (search rules) ∙ ap (λ y. y ∷ drop (i + 1) xs) (search rules) in
    ap (with_instances valid u.credit (drop (i + 1) xs) host) (c.in_ok-count_instance.ensures host)
    ∙ instance_first valid u.credit c.earned.result x (drop (i + 1) xs) host (tally c.loop-instance.totals host) earns
    ∙ ap (λ ys. with_instances valid u.credit ys host (tally c.loop-instance.totals host)) (sym split)
    ∙ c.loop-instance.invariant host

pub returns : goal.returns
returns c = λ host.
    let xs = c.args.instances.now in
    let u = c.args.unit.now in
    let i = c.loop-instance.instance-index in
    let valid : Instance → Bool = λ y. is_valid (verdict_by c.args.agreement.now xs c.args.canonical y) in
    sym (no_instance_first valid u.credit host (tally c.loop-instance.totals host))
    ∙ ap (λ ys. with_instances valid u.credit ys host (tally c.loop-instance.totals host)) (sym (drop_all i xs (search rules)))
    ∙ c.loop-instance.invariant host
