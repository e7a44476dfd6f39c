use Rattle.std.proofs.Common.{◌≡◌, Some, ap, ◌∙◌, rules}
use Rattle.sched_book.specs.Places.{nth}
use Rattle.sched_book.specs.Sound.{IsSoundVersion}
use Rattle.table_decoding.specs.Decoding.{of_version}
use Rattle.table_decoding.proofs.ClassesDecoded.{class_stands}
use Rattle.table_worlds.proofs.ByPlace.{all_nth}
use Rattle.table_decoding.proofs.rows.classed_versions.Goals as goal

pub returns : goal.returns
returns c = λ w apps all classes are.
    c.each.ensures (of_version w) w.versions
    (λ id v told_as stands called.
    let sound : IsSoundVersion w.apps v = all_nth (IsSoundVersion w.apps) w.versions id v stands all in
    let class : nth c.args.classes.now id ≡ Some v.class = ap (λ l. nth l id) classes ∙ class_stands w.versions id v stands in
    search rules)
    are
