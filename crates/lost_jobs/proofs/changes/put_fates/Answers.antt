use Rattle.std.proofs.Common.{◌≡◌, sym, ap₂, ◌∙◌, ◌++◌, List, subst, rules}
use Rattle.std.specs.Prelude.{All}
use Rattle.sched_book.specs.Delta.{edited}
use Rattle.sched_book.specs.declared.delta.Edit.{Edit}
use Rattle.sched_book.specs.declared.world.World.{World}
use Rattle.call_working_set.specs.WorkingSets.{IsOfKnown}
use Rattle.lost_jobs.proofs.Fated.{made_by_fates}
use Rattle.lost_jobs.proofs.changes.put_fates.Goals as goal

pub returns-clause-put : goal.returns-clause-put
returns-clause-put g c = λ honest kept by_place.
    let units = g.met.S.Units in
    let honest_read = g.met.S.Draft.works_honest _ _ c.put_all.ensures.works honest in
    let kept_read = units.stays_kept _ _ c.changes_of.ensures.reads honest_read kept in
    let here = units.stays_same _ _ c.changes_of.ensures.reads honest_read kept in
    let before = g.S.Units.world c.args.working_set.now in
    c.in_ok-put_all.ensures.put honest kept_read
    ∙ ap₂ (λ (v : World) (cs : List Edit). edited v cs) here (c.as_slice.ensures ∙ c.in_ok-changes.ensures.answer honest_read kept)
    ∙ made_by_fates before c.args.fates.now by_place

pub returns-clause-edits : goal.returns-clause-edits
returns-clause-edits g c = λ honest kept.
    let honest_read = g.met.S.Draft.works_honest _ _ c.put_all.ensures.works honest in
    c.in_ok-put_all.ensures.edits
    ∙ ap₂ (λ (ds cs : List Edit). ds ++ cs) (g.met.S.Draft.reads_edits _ _ c.changes_of.ensures.reads)
    (c.as_slice.ensures ∙ c.in_ok-changes.ensures.answer honest_read kept)

-- each change is of a workunit that exists
pub returns-in_err-put_all-clause-causes : goal.returns-in_err-put_all-clause-causes
returns-in_err-put_all-clause-causes g c honest kept =
    let units = g.met.S.Units in
    let honest_read = g.met.S.Draft.works_honest _ _ c.put_all.ensures.works honest in
    let kept_read = units.stays_kept _ _ c.changes_of.ensures.reads honest_read kept in
    let here = units.stays_same _ _ c.changes_of.ensures.reads honest_read kept in
    let before = g.S.Units.world c.args.working_set.now in
    let known = subst (λ w. All (IsOfKnown w) c.as_slice.result.now) (sym here)
    (subst (λ es. All (IsOfKnown before) es) (sym c.as_slice.ensures) (c.in_ok-changes.ensures.known honest_read kept)) in
    let why = units.stays_failing _ _ c.changes_of.ensures.reads honest_read kept _ (c.in_err-put_all.ensures.causes honest kept_read known) in
    search (rules, why)
