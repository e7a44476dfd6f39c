use Rattle.std.proofs.Common.{[], ◌∷◌, rules, sym, subst, ◌∙◌}
use Rattle.stores.specs.Acting.{parts_of}
use Rattle.sched_server.proofs.Served.{none_served}
use Rattle.sched_server.specs.Views.{operator_key_of}
use Rattle.commands.specs.Messages.{IsStatement}
use Rattle.commands.proofs.Messages.{one_of}
use Rattle.commands.proofs.answering.statement.Goals as goal

pub returns-in_err-message : goal.returns-in_err-message
returns-in_err-message g c = ([], search rules, none_served (parts_of g.S.Units g.S.Store.holds g.S.Store.clean g.S.Store.lasting g.S.Store.may_leave g.S.Store.reopens) c.args.service.now)

pub returns : goal.returns
returns g c =
    let done = c.answer.ensures in
    let Is = IsStatement (operator_key_of c.args.service.now) c.args.host in
    let message = subst (λ key. IsStatement key c.args.host c.in_ok-message.message.items) c.operator_key.ensures c.in_ok-message.ensures in
    (done.0 ∷ [], one_of c.answer.result done.0 0 _ Is (record { now_is = done.1.now_is ∙ c.any_moment.ensures; bytes_are = done.1.bytes_are; ends = done.1.ends }) (subst Is (sym c.deref.ensures.value) message), done.2)
