use Rattle.std.proofs.Common.{◌≡◌, ◌+◌, ◌≤◌, [], ◌∷◌, ◌++◌, length, ap, ◌∙◌, subst, rules}
use Rattle.std.specs.Prelude.{IfSome}
use Rattle.sched_book.specs.Delta.{edited, edited_one}
use Rattle.sched_book.specs.declared.delta.Edit.TheVariants as edit
use Rattle.sched_machine.proofs.Calls.Entry.{makes, enters}
use Rattle.sched_machine.proofs.caller.make_host.Goals as goal

pub returns-in-Some-clause-entered : goal.returns-in-Some-clause-entered
returns-in-Some-clause-entered g c = λ honest kept none sound admitted new.
    let draft = g.met.S.Draft in
    let working_set = c.args.working_set.now in
    let w = g.S.Draft.entry working_set in
    let host = c.in_ok-host.host in
    let row = edit.Host c.in-Some.number host in
    let most = c.settings-2.result.now.max_hosts in
    let here = draft.is_edited working_set ∙ ap (edited w) none in
    let added = c.in_ok-add_host.ensures in
    let number = subst (λ o. IfSome o (λ n. (n ≡ length w.hosts + 1) × (n ≤ most))) c.in-Some.is (added.number honest kept) in
    enters w (g.S.Units.world c.add_host.new.self) c.args.request.now _ (g.S.Draft.edits c.add_host.new.self)
    (makes w c.args.caller.now c.args.request.now c.in-Some.number most c.settings.result.now.daily_result_quota host sound admitted new number.0 number.1
    (ap (λ s. s.max_hosts) (c.settings-2.ensures kept)) (ap (λ s. s.daily_result_quota) (c.settings.ensures kept)) c.in_ok-host.ensures.value)
    (subst (λ o. IfSome o (λ n. g.S.Units.world c.add_host.new.self ≡ edited_one (g.S.Units.world working_set) (edit.Host n host))) c.in-Some.is (added.put honest kept)
    ∙ ap (λ v. edited_one v row) here)
    (subst (λ o. IfSome o (λ n. g.S.Draft.edits c.add_host.new.self ≡ g.S.Draft.edits working_set ++ edit.Host n host ∷ [])) c.in-Some.is added.edits
    ∙ ap (λ cs. cs ++ row ∷ []) none)

-- only memory may run out
pub returns-in_err-host-clause-causes : goal.returns-in_err-host-clause-causes
returns-in_err-host-clause-causes g c honest kept none cause is =
    let told = c.in_err-host.ensures.causes in
    search (rules, told, is, g.met.S.Units.fails_for_memory)
