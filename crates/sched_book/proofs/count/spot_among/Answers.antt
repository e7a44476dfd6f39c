use Rattle.std.proofs.Common.{ap, ◌∙◌, rules}
use Rattle.std.specs.Prelude.{nat_le}
use Rattle.std.specs.List.{prefix_len}
use Rattle.std.proofs.lemmas.Fn.{always_returns_same}
use Rattle.std.proofs.lemmas.List.Sorted.{IsPartitionedBy-leb}
use Rattle.sched_book.specs.Count.{place_of}
use Rattle.sched_book.proofs.InOrder.{point_of_front}
use Rattle.sched_book.proofs.count.spot_among.Goals as goal

pub returns-clause-value : goal.returns-clause-value
returns-clause-value c =
    let key = place_of c.args.instances.now in
    let reports = c.args.reports.now in
    let place = c.place_at-place.result in
    point_of_front (λ j. nat_le (key j) place) reports c.partition_point.result c.partition_point.ensures.bound
    (c.partition_point.ensures.partitioned (λ j. nat_le (key j) place) (always_returns_same _ _ _ (λ a r f k. search rules))
    (IsPartitionedBy-leb key reports place c.requires))
    ∙ ap (λ p. prefix_len (λ j. nat_le (key j) p) reports) c.place_at-place.ensures
