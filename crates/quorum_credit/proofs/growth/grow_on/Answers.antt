use Rattle.std.proofs.Common.{sym, ap₂, ◌∙◌, ◌++◌, List, subst, rules}
use Rattle.std.specs.Prelude.{All}
use Rattle.sched_book.specs.Delta.{edited}
use Rattle.sched_book.specs.declared.delta.Edit.{Edit}
use Rattle.sched_book.specs.declared.world.World.{World}
use Rattle.call_working_set.specs.WorkingSets.{IsOfKnown}
use Rattle.quorum_credit.proofs.Grown.{all_grown_among}
use Rattle.quorum_credit.proofs.KnownGrowth.{all_growth_known}
use Rattle.quorum_credit.proofs.growth.grow_on.Goals as goal

pub returns-clause-grown : goal.returns-clause-grown
returns-clause-grown g c = λ honest kept rising.
    let u = g.met.S.Units in
    let honest_1 = g.met.S.Draft.works_honest _ _ c.put_all.ensures.works honest in
    let kept_1 = u.stays_kept _ _ c.growth_in_turn.ensures.reads honest_1 kept in
    let here = u.stays_same _ _ c.growth_in_turn.ensures.reads honest_1 kept in
    let before = g.S.Units.world c.args.working_set.now in
    c.in_ok-put_all.ensures.put honest kept_1
    ∙ ap₂ (λ (v : World) (cs : List Edit). edited v cs) here (c.as_slice.ensures ∙ c.in_ok-more.ensures.answer honest_1 kept)
    ∙ all_grown_among before c.args.touched.now rising

pub returns-clause-edits : goal.returns-clause-edits
returns-clause-edits g c = λ honest kept.
    let honest_1 = g.met.S.Draft.works_honest _ _ c.put_all.ensures.works honest in
    c.in_ok-put_all.ensures.edits
    ∙ ap₂ (λ (ds cs : List Edit). ds ++ cs) (g.met.S.Draft.reads_edits _ _ c.growth_in_turn.ensures.reads)
    (c.as_slice.ensures ∙ c.in_ok-more.ensures.answer honest_1 kept)

-- the new instances are of workunits that exist
pub returns-in_err-put_all-clause-causes : goal.returns-in_err-put_all-clause-causes
returns-in_err-put_all-clause-causes g c honest kept limits =
    let u = g.met.S.Units in
    let honest_1 = g.met.S.Draft.works_honest _ _ c.put_all.ensures.works honest in
    let kept_1 = u.stays_kept _ _ c.growth_in_turn.ensures.reads honest_1 kept in
    let here = u.stays_same _ _ c.growth_in_turn.ensures.reads honest_1 kept in
    let before = g.S.Units.world c.args.working_set.now in
    let known = subst (λ w. All (IsOfKnown w) c.as_slice.result.now) (sym here)
    (subst (λ es. All (IsOfKnown before) es) (sym (c.as_slice.ensures ∙ c.in_ok-more.ensures.answer honest_1 kept))
    (all_growth_known before limits c.args.touched.now)) in
    let why = u.stays_failing _ _ c.growth_in_turn.ensures.reads honest_1 kept _ (c.in_err-put_all.ensures.causes honest kept_1 known) in
    search (rules, why)
