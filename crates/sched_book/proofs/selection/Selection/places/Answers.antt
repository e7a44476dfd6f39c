use Rattle.std.proofs.Common.{rules, ◌≡◌, ◌++◌, ◌+◌}
use Rattle.sched_book.specs.Places.{places_in}
use Rattle.sched_book.specs.Selections.{includes}
use Rattle.sched_book.proofs.PlaceLists.{places_more}
use Rattle.sched_book.proofs.selection.Selection.places.Goals as goal

pub loop-index-preserved : goal.loop-index-preserved
loop-index-preserved c =
    let test = includes c.args.world.now.hosts c.args.self.now in
    let b = c.book-item.result in
    let added : c.add_places.new.places ≡ c.loop-index.places ++ places_in (c.loop-index.index + 1) 0 test b.instances = search rules in
    places_more (λ b x. test x) c.loop-index.places c.add_places.new.places _ c.as_slice-book-items.result.now c.loop-index.index b
    c.loop-index-test.true c.book-item.is added c.loop-index.invariant
