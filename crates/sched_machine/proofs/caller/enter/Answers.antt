use Rattle.std.proofs.Common.{◌≡◌, sym, ap, ◌∙◌, subst, rules}
use Rattle.std.specs.Prelude.{IsSome}
use Rattle.sched_book.specs.Delta.{edited}
use Rattle.sched_book.specs.Places.{host_at}
use Rattle.sched_book.specs.declared.world.World.{World}
use Rattle.sched_machine.proofs.Calls.Entry.{caller_stands}
use Rattle.sched_machine.proofs.caller.enter.Goals as goal

-- the caller's host exists
pub returns-in_err-renew_host-in-Some-clause-causes : goal.returns-in_err-renew_host-in-Some-clause-causes
returns-in_err-renew_host-in-Some-clause-causes g c honest kept none admitted cause is =
    let draft = g.met.S.Draft in
    let working_set = c.args.working_set.now in
    let w = g.S.Draft.entry working_set in
    let here = draft.is_edited working_set ∙ ap (edited w) none in
    let there = subst (λ (v : World). IsSome (host_at v c.in-Some.number)) (sym here)
    (caller_stands w c.args.caller.now c.args.request.now admitted.caller c.in-Some.number c.in-Some.is) in
    let told = c.in_err-renew_host-in-Some.ensures.causes honest kept there in
    search (rules, told, is)
