use Rattle.std.proofs.Common.{rules, ◌≡◌, ◌++◌, ◌∷◌, [], ◌+◌, ◌∙◌, Bool, cond, ap}
use Rattle.std.specs.List.{list_any}
use Rattle.sched_book.specs.Selections.{includes}
use Rattle.sched_book.specs.declared.instance.UnitBook.{UnitBook}
use Rattle.sched_book.proofs.PlaceLists.{units_more}
use Rattle.sched_book.proofs.selection.Selection.units.Goals as goal
use Rattle.sched_book.proofs.selection.Selection.units.Goals.{then-is_in+in_ok-push, else-is_in}

pub loop-index-preserved : goal.loop-index-preserved
loop-index-preserved c =
    let b = c.book-item.result in
    let done = c.loop-index.units in
    let is_meant : c.is_in.result ≡ list_any (includes c.args.world.now.hosts c.args.self.now) b.instances = search rules in
    let put : c.if-is_in.units ≡ cond c.is_in.result (done ++ (c.loop-index.index + 1) ∷ []) done =
    elim c.if-is_in.branch [ then-is_in+in_ok-push w ↦ search rules | else-is_in w ↦ search rules ] in
    units_more (λ (b : UnitBook). list_any (includes c.args.world.now.hosts c.args.self.now) b.instances) done c.if-is_in.units _
    c.as_slice-book-items.result.now c.loop-index.index b c.loop-index-test.true c.book-item.is
    (put ∙ ap (λ (t : Bool). cond t (done ++ (c.loop-index.index + 1) ∷ []) done) is_meant) c.loop-index.invariant
