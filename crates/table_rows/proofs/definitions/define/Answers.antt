use Rattle.std.proofs.Common.{◌≤◌, ◌<◌, IsTrue, length, sym, ◌∙◌, rules, arith}
use Rattle.std.proofs.lemmas.Bool.{true_from_ne_false}
use Rattle.sqlite.specs.Held.{state}
use Rattle.sqlite.specs.State.{HasCleanDisk}
use Rattle.sqlite.proofs.InsideLemmas.{keeps_then}
use Rattle.table_meaning.specs.Schema.{parts_at}
use Rattle.table_meaning.specs.Texts.{definitions}
use Rattle.table_meaning.proofs.Definitions.{parts_within}
use Rattle.table_meaning.proofs.StepLemmas.{survives_on, defined_more, all_defined}
use Rattle.table_rows.proofs.definitions.define.Goals as goal

pub loop-at-preserved : goal.loop-at-preserved
loop-at-preserved g c =
    let first = state g.S.Store c.args.tx.now.conn.now in
    let before = state g.S.Store c.loop-at.tx.conn.now in
    let after = state g.S.Store c.execute.new.self.conn.now in
    let kept = c.loop-at.invariant in
    let early = λ (clean : HasCleanDisk after). let h : HasCleanDisk before = omega (arith, c.execute.ensures.survives.clean) in h in
    let below : c.loop-at.at < length (parts_at c.args.to) = search rules in
    let within : c.loop-at.at < length definitions = omega (arith, below, parts_within c.args.to) in
    let begun : IsTrue before.in_transaction = true_from_ne_false _ (λ out. absurd (let e = sym c.in_ok-execute.was ∙ (c.execute.ensures.ended out).0 in cc)) in (
      c.execute.ensures.same_reference ∙ kept.0,
      survives_on first before after kept.1 c.execute.ensures.survives,
      search (rules, keeps_then),
      λ clean inside. (c.in_ok-execute.ensures.runs clean begun).1.mode,
      λ clean inside wanted rows left.
          let more = defined_more wanted rows (length (parts_at c.args.to)) c.loop-at.at c.definition.result.now before after c.in_ok-execute.field-0 within below c.definition.ensures
          (kept.4 (early clean) inside wanted rows left).0 (c.in_ok-execute.ensures.runs clean begun) in
          (more.1, λ _. more.2),
      λ clean some. let ran = (c.in_ok-execute.ensures.runs clean begun).1 in ((kept.2 (early clean)).was_open ran.was_open, ran.mode),
    )

pub returns-clause-made : goal.returns-clause-made
returns-clause-made g c clean inside wanted rows left =
    let past : length (parts_at c.args.to) ≤ c.loop-at.at = search rules in
    let made = c.loop-at.invariant.4 clean inside wanted rows left in
    (all_defined wanted rows (length (parts_at c.args.to)) c.loop-at.at (state g.S.Store c.loop-at.tx.conn.now).now past made.0, made.1)
