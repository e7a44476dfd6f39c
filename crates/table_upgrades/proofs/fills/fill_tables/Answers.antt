use Rattle.std.proofs.Common.{◌≡◌, ◌∙◌, ◌∷◌, ◌+◌, ◌<◌, ◌≤◌, length, drop, get_or, refl, sym, subst, rules}
use Rattle.std.proofs.lemmas.List.{drop_all, at_drop_more}
use Rattle.sqlite.specs.Held.{state}
use Rattle.table_meaning.specs.declared.tables.Fill.TheVariants.{Calls}
use Rattle.table_meaning.specs.Fills.{fills_of, FillsEach}
use Rattle.table_upgrades.proofs.Within.{early, within_then, stays_then}
use Rattle.table_upgrades.proofs.fills.fill_tables.Goals as goal

pub loop-fill-preserved : goal.loop-fill-preserved
loop-fill-preserved g c =
    let first = c.args.tx.now.conn in
    let before = c.loop-fill.tx.conn in
    let after = c.fill_all.new.tx.conn in
    let kept = c.loop-fill.invariant in
    let then = c.fill_all.ensures.within in
    let at = c.loop-fill.fill-index in
    let items = c.fills_of-fill-items.result.now in
    let within : at < length items = search rules in
    let next = subst (λ fs. drop at fs ≡ get_or items at Calls ∷ drop (at + 1) fs) c.fills_of-fill-items.ensures (at_drop_more (λ fs. fs) items at Calls within) in (
      within_then g.S.Store first before after kept.0 kept.1 then,
      stays_then g.S.Store first before after kept.0 kept.1 then c.in_ok-fill_all.ensures.inside,
      λ clean inside new rest.
          let was = early g.S.Store first before after kept.0 kept.1 then clean in
          let filled = c.in_ok-fill_all.ensures.fills clean (kept.1 was inside) in
          kept.2 was inside new (subst (λ fs. FillsEach fs (state g.S.Store before.now).now new) (sym next) ((state g.S.Store after.now).now, filled, rest)),
    )

pub returns-clause-fills : goal.returns-clause-fills
returns-clause-fills g c clean inside =
    let now = (state g.S.Store c.loop-fill.tx.conn.now).now in
    let past : length (fills_of c.args.schema) ≤ c.loop-fill.fill-index = search rules in
    c.loop-fill.invariant.2 clean inside now (subst (λ fs. FillsEach fs now now) (sym (drop_all c.loop-fill.fill-index (fills_of c.args.schema) past)) refl)
