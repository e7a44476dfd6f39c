use Rattle.std.proofs.Common.{sym, ap, ap₂, ◌∙◌, ◌++◌, subst, List, rules}
use Rattle.std.specs.Prelude.{All}
use Rattle.sched_book.specs.Delta.{edited}
use Rattle.sched_book.specs.declared.delta.Edit.{Edit}
use Rattle.sched_book.specs.declared.world.World.{World}
use Rattle.call_working_set.specs.WorkingSets.{IsOfKnown}
use Rattle.quorum_credit.specs.Growing.{all_growth}
use Rattle.quorum_credit.specs.Scoring.{scores_of_units}
use Rattle.quorum_credit.specs.Settling.{AreQuotasBy, AreUnitsInLimits}
use Rattle.quorum_credit.proofs.SettledAll.{AreSteps, units_in_limits, scores_hold, settles, settling_fits, goes_on}
use Rattle.quorum_credit.proofs.settling.settle_on.Given
use Rattle.quorum_credit.proofs.settling.settle_on.Goals as goal

-- what the steps say of the world that the call found, and of those in between
steps : (g : Given.Over) (c : goal.After-drop-quotas-inside-2 g) → g.S.Units.honest c.put_all.new.working_set → g.S.Units.well_kept c.args.working_set.now
    → AreSteps (g.S.Draft.entry c.args.working_set.now) (g.S.Units.world c.args.working_set.now) (g.S.Units.world c.grow_on.new.working_set) (g.S.Units.world c.put_all.new.working_set)
    (g.S.Draft.edits c.args.working_set.now) (g.S.Draft.edits c.put_all.new.working_set) c.in_ok-quotas.quotas c.args.touched.now c.in_ok-scores.scores
steps g c honest kept =
    let u = g.met.S.Units in
    let draft = g.met.S.Draft in
    let honest_3 = draft.works_honest _ _ c.put_all.ensures.works honest in
    let honest_2 = u.stays_honest _ _ c.new_quotas.ensures.reads honest_3 in
    let honest_1 = u.stays_honest _ _ c.scores_of_units.ensures.reads honest_2 in
    let kept_1 = draft.works_kept _ _ c.grow_on.ensures.works honest_1 kept in
    let kept_2 = u.stays_kept _ _ c.scores_of_units.ensures.reads honest_2 kept_1 in
    let kept_3 = u.stays_kept _ _ c.new_quotas.ensures.reads honest_3 kept_2 in
    let same_2 = u.stays_same _ _ c.scores_of_units.ensures.reads honest_2 kept_1 in
    let same_3 = u.stays_same _ _ c.new_quotas.ensures.reads honest_3 kept_2 ∙ same_2 in
    let entry = draft.works_entry _ _ c.grow_on.ensures.works honest_1 kept in
    record {
      here = draft.is_edited c.args.working_set.now;
      grew = c.in_ok-grow_on.ensures.grown honest_1 kept;
      scored = c.in_ok-scores.ensures.answer honest_2 kept_1
          ∙ ap (λ e. scores_of_units e (g.S.Units.world c.grow_on.new.working_set) c.args.touched.now) entry;
      quoted = subst (λ z. AreQuotasBy c.in_ok-scores.scores z c.in_ok-quotas.quotas) same_2
          (subst (λ ms. AreQuotasBy ms (g.S.Units.world c.scores_of_units.new.working_set) c.in_ok-quotas.quotas) c.as_slice.ensures
          (c.in_ok-quotas.ensures.answer honest_3 kept_2));
      put = c.in_ok-put_all.ensures.put honest kept_3
          ∙ ap₂ (λ (v : World) (cs : List Edit). edited v cs) same_3 c.as_slice-2.ensures;
      changes = c.in_ok-put_all.ensures.edits
          ∙ ap₂ (λ (ds cs : List Edit). ds ++ cs)
          (draft.reads_edits _ _ c.new_quotas.ensures.reads ∙ draft.reads_edits _ _ c.scores_of_units.ensures.reads
          ∙ c.in_ok-grow_on.ensures.edits honest_1 kept)
          c.as_slice-2.ensures;
    }

pub returns-clause-settled : goal.returns-clause-settled
returns-clause-settled g c = λ honest kept. settles _ _ _ _ _ _ _ _ _ (steps g c honest kept)

pub returns-clause-fits : goal.returns-clause-fits
returns-clause-fits g c = λ honest kept. settling_fits _ _ _ _ _ _ _ _ _ (steps g c honest kept)

pub returns-clause-scores : goal.returns-clause-scores
returns-clause-scores g c = λ honest kept. scores_hold _ _ _ _ _ _ _ _ _ (steps g c honest kept)

pub returns-clause-edits : goal.returns-clause-edits
returns-clause-edits g c = λ honest kept.
    goes_on (g.S.Draft.edits c.args.working_set.now) (all_growth (g.S.Units.world c.args.working_set.now) c.args.touched.now) c.in_ok-quotas.quotas
    (g.S.Draft.edits c.put_all.new.working_set) (steps g c honest kept).changes

-- a sound world has workunits within limits, and each edit is of a workunit or a host that exists
pub returns-in_err-grow_on-clause-causes : goal.returns-in_err-grow_on-clause-causes
returns-in_err-grow_on-clause-causes g c honest kept sound =
    let draft = g.met.S.Draft in
    let limits = subst AreUnitsInLimits (sym (draft.is_edited c.args.working_set.now))
    (units_in_limits (g.S.Draft.entry c.args.working_set.now) (g.S.Draft.edits c.args.working_set.now) sound) in
    let why = c.in_err-grow_on.ensures.causes honest kept limits in
    search (rules, why)

pub returns-in_err-scores-clause-causes : goal.returns-in_err-scores-clause-causes
returns-in_err-scores-clause-causes g c honest kept sound =
    let u = g.met.S.Units in
    let draft = g.met.S.Draft in
    let honest_1 = u.stays_honest _ _ c.scores_of_units.ensures.reads honest in
    let kept_1 = draft.works_kept _ _ c.grow_on.ensures.works honest_1 kept in
    let why = draft.works_failing _ _ c.grow_on.ensures.works honest_1 kept _ (c.in_err-scores.ensures.causes honest kept_1) in
    search (rules, why)

pub returns-in_err-quotas-clause-causes : goal.returns-in_err-quotas-clause-causes
returns-in_err-quotas-clause-causes g c honest kept sound =
    let u = g.met.S.Units in
    let draft = g.met.S.Draft in
    let honest_2 = u.stays_honest _ _ c.new_quotas.ensures.reads honest in
    let honest_1 = u.stays_honest _ _ c.scores_of_units.ensures.reads honest_2 in
    let kept_1 = draft.works_kept _ _ c.grow_on.ensures.works honest_1 kept in
    let kept_2 = u.stays_kept _ _ c.scores_of_units.ensures.reads honest_2 kept_1 in
    let then = u.stays_failing _ _ c.scores_of_units.ensures.reads honest_2 kept_1 _ (c.in_err-quotas.ensures.causes honest kept_2) in
    let why = draft.works_failing _ _ c.grow_on.ensures.works honest_1 kept _ then in
    search (rules, why)

pub returns-in_err-put_all-clause-causes : goal.returns-in_err-put_all-clause-causes
returns-in_err-put_all-clause-causes g c honest kept sound =
    let u = g.met.S.Units in
    let draft = g.met.S.Draft in
    let honest_3 = draft.works_honest _ _ c.put_all.ensures.works honest in
    let honest_2 = u.stays_honest _ _ c.new_quotas.ensures.reads honest_3 in
    let honest_1 = u.stays_honest _ _ c.scores_of_units.ensures.reads honest_2 in
    let kept_1 = draft.works_kept _ _ c.grow_on.ensures.works honest_1 kept in
    let kept_2 = u.stays_kept _ _ c.scores_of_units.ensures.reads honest_2 kept_1 in
    let kept_3 = u.stays_kept _ _ c.new_quotas.ensures.reads honest_3 kept_2 in
    let same = u.stays_same _ _ c.new_quotas.ensures.reads honest_3 kept_2 in
    let known = subst (λ w. All (IsOfKnown w) c.as_slice-2.result.now) (sym same)
    (subst (λ es. All (IsOfKnown (g.S.Units.world c.scores_of_units.new.working_set)) es) (sym c.as_slice-2.ensures)
    (c.in_ok-quotas.ensures.answer honest_3 kept_2).known) in
    let why_3 = u.stays_failing _ _ c.new_quotas.ensures.reads honest_3 kept_2 _ (c.in_err-put_all.ensures.causes honest kept_3 known) in
    let why_2 = u.stays_failing _ _ c.scores_of_units.ensures.reads honest_2 kept_1 _ why_3 in
    let why = draft.works_failing _ _ c.grow_on.ensures.works honest_1 kept _ why_2 in
    search (rules, why)
