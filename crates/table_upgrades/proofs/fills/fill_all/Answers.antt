use Rattle.std.proofs.Common.{◌≡◌, None, Some, rules}
use Rattle.table_upgrades.proofs.Within.{early, within_then, stays_then}
use Rattle.table_upgrades.proofs.fills.fill_all.Goals as goal

pub returns-in_default-clause-fills : goal.returns-in_default-clause-fills
returns-in_default-clause-fills g c clean inside start contents rows fit filled =
    let kept = c.rows.invariant in
    let none : c.in_ok-next.field-0 ≡ None = search rules in
    let was = early g.S.Store c.args.tx.now.conn c.rows.tx.conn c.fill_next.new.tx.conn kept.0 kept.1 c.fill_next.ensures.within clean in
    (rw none at c.in_ok-next.ensures.fills) clean (kept.1 was inside) start contents rows fit (kept.2 was inside start contents rows fit filled)

pub rows-preserved : goal.rows-preserved
rows-preserved g c =
    let first = c.args.tx.now.conn in
    let before = c.rows.tx.conn in
    let after = c.fill_next.new.tx.conn in
    let kept = c.rows.invariant in
    let then = c.fill_next.ensures.within in
    let next = c.in-Some.next in
    let some : c.in_ok-next.field-0 ≡ Some next = search rules in (
      within_then g.S.Store first before after kept.0 kept.1 then,
      stays_then g.S.Store first before after kept.0 kept.1 then c.in_ok-next.ensures.inside,
      λ clean inside start contents rows fit filled.
          let was = early g.S.Store first before after kept.0 kept.1 then clean in
          (rw some at c.in_ok-next.ensures.fills) clean (kept.1 was inside) start contents rows fit (kept.2 was inside start contents rows fit filled),
    )
