use Rattle.std.proofs.Common.{sym, ap, ◌∙◌}
use Rattle.std.specs.Prelude.{nat_le}
use Rattle.sched_book.specs.Count.{place_of}
use Rattle.sched_book.proofs.InOrder.{all_up_to}
use Rattle.sched_book.proofs.count.is_last.Goals as goal

pub returns-in-Some : goal.returns-in-Some
returns-in-Some c = λ low.
    all_up_to (place_of c.args.instances.now) c.args.reports.now c.in-Some.last.now c.args.place c.requires (sym c.in-Some.ensures.value) (ap (λ p. nat_le p c.args.place) (sym c.place_at.ensures) ∙ low)
