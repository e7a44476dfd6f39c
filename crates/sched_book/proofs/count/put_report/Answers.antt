use Rattle.std.proofs.Common.{ap, sym, subst, ◌∙◌}
use Rattle.std.specs.Prelude.{nat_le, insert}
use Rattle.std.specs.List.{prefix_len}
use Rattle.std.specs.List.Sorted.{IsNonDecreasingBy}
use Rattle.sched_book.specs.Count.{place_of}
use Rattle.sched_book.proofs.InOrder.{put_in_order}
use Rattle.sched_book.proofs.count.put_report.Goals as goal

pub returns-clause-order : goal.returns-clause-order
returns-clause-order c =
    let key = place_of c.args.instances.now in
    let before = c.args.reports.now.items in
    let number = c.args.number in
    subst (IsNonDecreasingBy key)
    (sym (c.insert.ensures.items
    ∙ ap (λ k. insert before k number)
    (c.spot_among-index.ensures.value ∙ ap (prefix_len (λ j. nat_le (key j) (key number))) c.as_slice.ensures.value)))
    (put_in_order key before number c.requires.order)
