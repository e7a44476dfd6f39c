use Rattle.std.proofs.Common.{rules, ◌≡◌, ◌+◌, ◌∷◌, Bool, drop, cond, sym, ap, ◌∙◌}
use Rattle.std.proofs.lemmas.List.{drop_more, drop_all}
use Rattle.sched_book.specs.Count.{is_valid}
use Rattle.sched_book.specs.Numbered.{map_from}
use Rattle.sched_book.specs.Places.{book_verdict}
use Rattle.sched_book.specs.declared.instance.Instance.{Instance}
use Rattle.table_worlds.specs.Totals.{with_instances}
use Rattle.table_worlds.proofs.TotalsCounted.{instance_more, no_instance_left}
use Rattle.table_worlds.proofs.totals.count_unit.Goals as goal

pub loop-instance-preserved : goal.loop-instance-preserved
loop-instance-preserved c =
    let b = c.args.book.now in
    let i = c.loop-instance.instance-index in
    let x = c.instance-item.result in
    let valid : Instance → Bool = λ y. is_valid (book_verdict c.args.apps.now b y) in
    let earns : c.earned.result ≡ cond (valid x) b.unit.credit 0 = search rules in
    let split : drop i b.instances ≡ x ∷ drop (i + 1) b.instances =
    drop_more b.instances i x (search rules) ∙ ap (λ y. y ∷ drop (i + 1) b.instances) (search rules) in
    instance_more valid b.unit.credit c.earned.result x (drop (i + 1) b.instances) c.loop-instance.totals c.count_instance.new.totals earns c.in_ok-count_instance.ensures
    ∙ ap (λ ys. map_from 1 (with_instances valid b.unit.credit ys) c.loop-instance.totals) (sym split)
    ∙ c.loop-instance.invariant

pub returns : goal.returns
returns c =
    let b = c.args.book.now in
    let i = c.loop-instance.instance-index in
    let valid : Instance → Bool = λ y. is_valid (book_verdict c.args.apps.now b y) in
    let none : drop i b.instances ≡ _ = drop_all i b.instances (search rules) in
    sym (no_instance_left valid b.unit.credit c.loop-instance.totals)
    ∙ ap (λ ys. map_from 1 (with_instances valid b.unit.credit ys) c.loop-instance.totals) (sym none)
    ∙ c.loop-instance.invariant
