use Rattle.std.proofs.Common.{[], sym, ap, ap₂, ◌∙◌, subst}
use Rattle.sched_book.specs.Delta.{edited, EditsFit}
use Rattle.sched_book.specs.Settle.{settled}
use Rattle.sched_book.specs.Sound.{Sound}
use Rattle.sched_book.specs.declared.world.World.{World}
use Rattle.quorum_credit.specs.Late.{lapsed_at}
use Rattle.quorum_credit.proofs.FitReports.{nothing_put_within}
use Rattle.quorum_credit.proofs.settling.lapse_read.Goals as goal

pub returns-clause-left : goal.returns-clause-left
returns-clause-left g c = λ honest kept none sound.
    let draft = g.met.S.Draft in
    let working_set = c.args.working_set.now in
    let honest_1 = draft.works_honest _ _ c.settle_read.ensures.works honest in
    let kept_1 = draft.works_kept _ _ c.lapse_on.ensures.works honest_1 kept in
    let entry = draft.works_entry _ _ c.lapse_on.ensures.works honest_1 kept in
    let here = draft.is_edited working_set ∙ ap (edited (g.S.Draft.entry working_set)) none in
    let fits = c.in_ok-lapse_on.ensures.fits honest_1 kept (nothing_put_within (g.S.Draft.entry working_set) (g.S.Draft.edits working_set) none sound) in
    c.in_ok-settle_read.ensures.settled honest kept_1 (subst Sound (sym entry) sound)
    (subst (λ (w : World). EditsFit w (g.S.Draft.edits c.lapse_on.new.working_set)) (sym entry) fits.fits)
    ∙ ap₂ settled entry (c.in_ok-lapse_on.ensures.lapsed honest_1 kept ∙ ap (λ w. lapsed_at w c.args.places.now) here)

pub returns-clause-fits : goal.returns-clause-fits
returns-clause-fits g c = λ honest kept none sound.
    let draft = g.met.S.Draft in
    let working_set = c.args.working_set.now in
    let honest_1 = draft.works_honest _ _ c.settle_read.ensures.works honest in
    let kept_1 = draft.works_kept _ _ c.lapse_on.ensures.works honest_1 kept in
    let entry = draft.works_entry _ _ c.lapse_on.ensures.works honest_1 kept in
    let fits = c.in_ok-lapse_on.ensures.fits honest_1 kept (nothing_put_within (g.S.Draft.entry working_set) (g.S.Draft.edits working_set) none sound) in
    subst (λ (w : World). EditsFit w (g.S.Draft.edits c.settle_read.new.working_set)) entry
    (c.in_ok-settle_read.ensures.fits honest kept_1 (subst Sound (sym entry) sound)
    (subst (λ (w : World). EditsFit w (g.S.Draft.edits c.lapse_on.new.working_set)) (sym entry) fits.fits))
