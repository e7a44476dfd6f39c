use Rattle.std.proofs.Common.{◌≡◌, ◌+◌, [], ◌∷◌, ◌++◌, take, sym, ap, subst, ◌∙◌, rules, arith}
use Rattle.std.proofs.lemmas.List.{take_more}
use Rattle.sqlite.specs.Held.{state}
use Rattle.sqlite.specs.State.{HasCleanDisk}
use Rattle.sqlite.proofs.InsideLemmas.{keeps_then}
use Rattle.table_meaning.specs.Steps.{Moves}
use Rattle.table_meaning.proofs.StepLemmas.{survives_on, moved_more}
use Rattle.sqlite_keyed.proofs.ListLemmas.{all-append}
use Rattle.table_meaning.specs.Rows.{columns_of}
use Rattle.table_rows.specs.Utf8.{HasUtf8, HaveUtf8}
use Rattle.table_rows.proofs.put.put_each.Goals as goal

pub loop-change-preserved : goal.loop-change-preserved
loop-change-preserved g c =
    let first = state g.S.Store c.args.tx.now.conn.now in
    let before = state g.S.Store c.loop-change.tx.conn.now in
    let after = state g.S.Store c.put_row.new.tx.conn.now in
    let kept = c.loop-change.invariant in
    let early = λ (clean : HasCleanDisk after). let h : HasCleanDisk before = omega (arith, c.put_row.ensures.survives.clean) in h in
    let rows = c.args.changes.now in
    let row = c.row.result.now in
    let next : take (c.loop-change.change-index + 1) rows ≡ take c.loop-change.change-index rows ++ row ∷ [] =
    take_more rows c.loop-change.change-index c.change-item.result (search rules) ∙ ap (λ x. take c.loop-change.change-index rows ++ x ∷ []) (sym c.change-item.is ∙ sym c.row.ensures) in (
      c.put_row.ensures.same_reference ∙ kept.0,
      survives_on first before after kept.1 c.put_row.ensures.survives,
      λ clean. keeps_then first before after (kept.2 (early clean)) (c.put_row.ensures.kept clean),
      λ clean inside.
          let moved = kept.3 (early clean) inside in
          subst (Moves first after) (sym next) (moved_more first before after (take c.loop-change.change-index c.args.changes.now) row moved (c.in_ok-put_row.ensures.moves clean moved.inside)),
      λ clean inside some. (kept.2 (early clean)).was_open (c.in_ok-put_row.ensures.was_open clean (kept.3 (early clean) inside).inside),
      subst HaveUtf8 (sym next) (all-append (λ r. HasUtf8 (columns_of r)) (take c.loop-change.change-index rows) (row ∷ []) kept.5 (c.in_ok-put_row.ensures.utf8, tt)),
    )
