use Rattle.std.proofs.Common.{[], ◌∷◌, ◌++◌, sym, ap, ◌∙◌, subst, rules}
use Rattle.std.specs.Prelude.{IsSome}
use Rattle.sched_book.specs.Delta.{edited, edited_one}
use Rattle.sched_book.specs.Places.{host_at}
use Rattle.sched_book.specs.declared.delta.Edit.TheVariants as edit
use Rattle.sched_book.specs.declared.world.World.{World}
use Rattle.sched_machine.proofs.Calls.Entry.{renews, enters}
use Rattle.sched_machine.proofs.caller.renew_host.Goals as goal

pub returns-clause-entered : goal.returns-clause-entered
returns-clause-entered g c = λ honest kept none sound admitted known.
    let u = g.met.S.Units in
    let draft = g.met.S.Draft in
    let working_set = c.args.working_set.now in
    let w = g.S.Draft.entry working_set in
    let row = edit.Host c.args.number c.in_ok-host.host in
    let honest_1 = draft.works_honest _ _ c.put_host.ensures.works honest in
    let kept_1 = u.stays_kept _ _ c.host.ensures.reads honest_1 kept in
    let here = draft.is_edited working_set ∙ ap (edited w) none in
    let same = u.stays_same _ _ c.host.ensures.reads honest_1 kept ∙ here in
    enters w (g.S.Units.world c.put_host.new.self) c.args.request.now _ (g.S.Draft.edits c.put_host.new.self)
    (renews w c.args.caller.now c.args.request.now c.args.number c.in-Some.before c.in_ok-host.host sound admitted known
    (ap (λ v. host_at v c.args.number) (sym here) ∙ sym (c.in_ok-before.ensures.answer honest_1 kept) ∙ c.in-Some.is)
    c.in_ok-host.ensures.value)
    (c.in_ok-put_host.ensures.put honest kept_1 ∙ ap (λ v. edited_one v row) same)
    (c.in_ok-put_host.ensures.edits ∙ ap (λ cs. cs ++ row ∷ []) (draft.reads_edits _ _ c.host.ensures.reads ∙ none))

-- only memory may run out
pub returns-in_err-host-clause-causes : goal.returns-in_err-host-clause-causes
returns-in_err-host-clause-causes g c honest kept there =
    let told = c.in_err-host.ensures.causes in
    search (rules, told, g.met.S.Units.fails_for_memory)

-- the host exists
pub returns-in_err-put_host-clause-causes : goal.returns-in_err-put_host-clause-causes
returns-in_err-put_host-clause-causes g c honest kept there =
    let u = g.met.S.Units in
    let honest_1 = g.met.S.Draft.works_honest _ _ c.put_host.ensures.works honest in
    let kept_1 = u.stays_kept _ _ c.host.ensures.reads honest_1 kept in
    let same = u.stays_same _ _ c.host.ensures.reads honest_1 kept in
    let known = subst (λ (w : World). IsSome (host_at w c.args.number)) (sym same) there in
    let why = u.stays_failing _ _ c.host.ensures.reads honest_1 kept _ (c.in_err-put_host.ensures.causes honest kept_1 known) in
    search (rules, why)
