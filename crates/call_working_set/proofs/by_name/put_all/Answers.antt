-- One more edit: the working set belongs to the same call as at the beginning.
use Rattle.std.proofs.Common.{◌≡◌, ◌+◌, ◌++◌, [], ◌∷◌, drop, sym, ap, ◌∙◌, subst, append_assoc, rules}
use Rattle.std.proofs.lemmas.List.{at_drop_more}
use Rattle.sched_book.specs.Delta.{edited, edited_one}
use Rattle.call_working_set.specs.WorkingSets.{IsOfKnown}
use Rattle.call_working_set.proofs.KnownEdits.{known_stays}
use Rattle.call_working_set.proofs.by_name.put_all.Goals as goal

pub loop-edit-preserved : goal.loop-edit-preserved
loop-edit-preserved g c =
    let draft = g.met.S.Draft in
    let inv = c.loop-edit.invariant in
    let edits = c.args.edits.now in
    let i = c.loop-edit.edit-index in
    let so_far = g.S.Units.world c.loop-edit.working_set in
    let made = g.S.Draft.edits c.loop-edit.working_set in
    record {
      works = draft.works_on _ _ _ inv.works c.put_one.ensures.works;
      put = λ honest kept.
          let before = draft.works_honest _ _ c.put_one.ensures.works honest in
          let well = draft.works_kept _ _ inv.works before kept in
          ap (λ w. edited w (drop (i + 1) edits)) (c.in_ok-put_one.ensures.put honest well ∙ ap (edited_one so_far) c.edit-item.is)
          ∙ sym (at_drop_more (edited so_far) edits i _ c.loop-edit-test.true)
          ∙ inv.put before kept;
      edits =
          ap (λ es. es ++ drop (i + 1) edits) c.in_ok-put_one.ensures.edits
          ∙ append_assoc made (c.edit-item.result ∷ []) (drop (i + 1) edits)
          ∙ ap (λ e. made ++ e ∷ drop (i + 1) edits) c.edit-item.is
          ∙ sym (at_drop_more (λ es. made ++ es) edits i _ c.loop-edit-test.true)
          ∙ inv.edits;
      known = λ honest kept all k d less.
          let before = draft.works_honest _ _ c.put_one.ensures.works honest in
          let well = draft.works_kept _ _ inv.works before kept in
          known_stays so_far _ c.edit-item.result _ (c.in_ok-put_one.ensures.put honest well) (inv.known before kept all k d less);
    }

pub returns-in_err-put_one-clause-causes : goal.returns-in_err-put_one-clause-causes
returns-in_err-put_one-clause-causes g c honest kept all =
    let draft = g.met.S.Draft in
    let inv = c.loop-edit.invariant in
    let so_far = g.S.Units.world c.loop-edit.working_set in
    let before = draft.works_honest _ _ c.put_one.ensures.works honest in
    let well = draft.works_kept _ _ inv.works before kept in
    let known = subst (IsOfKnown so_far) (sym c.edit-item.is) (inv.known before kept all c.loop-edit.edit-index _ c.loop-edit-test.true) in
    let why = draft.works_failing _ _ inv.works before kept _ (c.in_err-put_one.ensures.causes honest well known) in
    search (rules, why)
