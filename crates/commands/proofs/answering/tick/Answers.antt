use Rattle.std.proofs.Common.{[], ◌∷◌, rules, ap, ◌∙◌}
use Rattle.http_requests.specs.Requests.{tick_request}
use Rattle.stores.specs.Acting.{parts_of}
use Rattle.sched_server.proofs.Served.{none_served}
use Rattle.commands.proofs.answering.tick.Goals as goal

pub returns-in_err-message : goal.returns-in_err-message
returns-in_err-message g c = ([], search rules, none_served (parts_of g.S.Units g.S.Store.holds g.S.Store.clean g.S.Store.lasting g.S.Store.may_leave g.S.Store.reopens) c.args.service.now)

pub returns : goal.returns
returns g c =
    let done = c.answer.ensures in (
      done.0 ∷ [],
      (done.1.now_is, done.1.bytes_are ∙ c.deref.ensures.value ∙ c.in_ok-message.ensures ∙ ap tick_request c.operator_key.ensures, done.1.ends),
      done.2,
    )
