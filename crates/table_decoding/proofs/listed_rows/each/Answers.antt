use Rattle.std.proofs.Common.{◌≡◌, ◌+◌, ◌∙◌, Ok, Err, Bor, refl, arith}
use Rattle.std.specs.Fn.{FnReturnsAt, Shared}
use Rattle.std.proofs.lemmas.Option.{slice_get_read}
use Rattle.table_decoding.proofs.Refusals.{passed_on}
use Rattle.table_decoding.proofs.RowsInOrder.{item_at, one_more, all_items}
use Rattle.table_decoding.proofs.listed_rows.each.Goals as goal

called_at : {F T R : Type 0} (g : Shared F (Bor T × Unit {0}) R) (f : F) (p : Bor T) (x : T) (r : R) → g.post f (p, tt) r → p.now ≡ x → FnReturnsAt g f x r
called_at g f p x r met shows = record { shown = p; shows = shows; says = record { met = met } }

pub loop-row-preserved : goal.loop-row-preserved
loop-row-preserved g c = λ place xs tells are.
    let rows = c.args.rows.now in
    let i = c.loop-row.row-index in
    let row = c.row-item.result in
    let item = c.in_ok-told.field-0 in
    one_more place xs rows are i row c.loop-row.items c.push.new.self item (slice_get_read rows _ i row refl c.loop-row-test.true c.row-item.is) (c.loop-row.invariant place xs tells are)
    c.in_ok-push.ensures.ok (λ x here is. tells (i + 1) x (Ok item) here (called_at g.F.Fn c.args.told _ (place (i + 1) x) (Ok item) c.in_ok-told.ensures is))

pub returns : goal.returns
returns g c = λ place xs tells are. c.loop-row.invariant place xs tells are ∙ all_items place xs c.args.rows.now are c.loop-row.row-index (omega arith)

pub returns-in_err-told : goal.returns-in_err-told
returns-in_err-told g c = λ place xs tells are.
    let rows = c.args.rows.now in
    let i = c.loop-row.row-index in
    let row = c.row-item.result in
    let e = c.in_err-told.field-0.0 in
    let x = item_at place xs rows are i row (slice_get_read rows _ i row refl c.loop-row-test.true c.row-item.is) in
    passed_on c.from_residual.result xs e c.from_residual.ensures.1 (tells (i + 1) x.0 (Err e) x.1 (called_at g.F.Fn c.args.told _ (place (i + 1) x.0) (Err e) c.in_err-told.ensures x.2))
