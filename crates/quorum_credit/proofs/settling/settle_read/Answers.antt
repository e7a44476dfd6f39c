use Rattle.std.proofs.Common.{sym, subst}
use Rattle.quorum_credit.specs.Settling.{TouchJust}
use Rattle.quorum_credit.proofs.SettledAll.{read_touch, settled_touch_just}
use Rattle.quorum_credit.proofs.settling.settle_read.Given
use Rattle.quorum_credit.proofs.settling.settle_read.Goals as goal

-- only workunits that were read are touched
touched : (g : Given.Over) (c : goal.After-drop-touched-2 g) → g.S.Units.well_kept c.args.working_set.now
    → TouchJust c.as_slice.result.now (g.S.Draft.entry c.args.working_set.now) (g.S.Units.world c.args.working_set.now)
touched g c kept =
    let draft = g.met.S.Draft in
    let working_set = c.args.working_set.now in
    subst (λ units. TouchJust units (g.S.Draft.entry working_set) (g.S.Units.world working_set)) (sym c.as_slice.ensures.value)
    (read_touch (g.S.Draft.entry working_set) (g.S.Units.world working_set) (g.S.Draft.kept working_set) c.in_ok-touched.touched.items
    (draft.rest_stays working_set kept) (draft.unit_states_are working_set kept) c.in_ok-touched.ensures)

pub returns-clause-settled : goal.returns-clause-settled
returns-clause-settled g c = λ honest kept sound fits. c.in_ok-scores.ensures.settled honest kept sound fits (touched g c kept)

pub returns-clause-fits : goal.returns-clause-fits
returns-clause-fits g c = λ honest kept sound fits. c.in_ok-scores.ensures.fits honest kept sound fits (touched g c kept)

pub returns-clause-scores : goal.returns-clause-scores
returns-clause-scores g c = λ honest kept sound fits.
    let entry = g.S.Draft.entry c.args.working_set.now in
    let just = touched g c kept in
    record {
      units = c.as_slice.result.now;
      just = subst (TouchJust c.as_slice.result.now entry) (sym (c.in_ok-scores.ensures.settled honest kept sound fits just))
          (settled_touch_just c.as_slice.result.now entry (g.S.Units.world c.args.working_set.now) sound just);
      are = c.in_ok-scores.ensures.scores honest kept;
    }
