use Rattle.std.specs.Prelude.{is_ok}
use Rattle.http_messages.specs.Meaning.{message_seen}
use Rattle.stores.specs.Acting.{parts_of}
use Rattle.stores.proofs.ReadsAct.{acts_too}
use Rattle.sched_server.specs.Handled.{is_answered}
use Rattle.sched_server.proofs.Handled.{handled, is_handled, told_well}
use Rattle.sched_server.proofs.Standing.{handled_may_stand}
use Rattle.sched_server.proofs.Stopped.{handled_stands}
use Rattle.stores.proofs.Results.{err_on}
use Rattle.sched_server.proofs.service.Service.handle.Goals as goal

pub returns-clause-acts : goal.returns-clause-acts
returns-clause-acts g c =
    acts_too (parts_of g.S.Units g.S.Store.holds g.S.Store.clean g.S.Store.lasting g.S.Store.may_leave g.S.Store.reopens) (is_ok c.answer-told.result) (is_answered c.respond.result) _ _ _ c.answer-told.new.store
    (told_well c.allowed_by-allowed.result c.answer-told.result c.respond.result c.respond.ensures)
    (λ h served. is_handled _ _ _ (message_seen c.heard.result.message) _ h c.heard.ensures.meaning served)
    c.answer-told.ensures.acts.acts

pub returns-clause-exact : goal.returns-clause-exact
returns-clause-exact g c = λ honest kept.
    handled _ _ _ (message_seen c.heard.result.message) c.allowed_by-allowed.result _ _ c.answer-told.result c.respond.result
    c.heard.ensures.meaning c.allowed_by-allowed.ensures (c.answer-told.ensures.exact honest kept)
    (err_on c.answer-told.result _ (c.answer-told.ensures.acts.unchanged honest kept))
    c.respond.ensures

pub returns-clause-stands : goal.returns-clause-stands
returns-clause-stands g c = λ points before st clean.
    handled_stands (parts_of g.S.Units g.S.Store.holds g.S.Store.clean g.S.Store.lasting g.S.Store.may_leave g.S.Store.reopens) g.met.S.Store.settled _ _ _ c.respond.result _ c.answer-told.new.store
    (returns-clause-acts g c) (returns-clause-exact g c) points before st clean

pub returns-clause-reopens : goal.returns-clause-reopens
returns-clause-reopens g c = λ kept reopens.
    (returns-clause-acts g c).reopens reopens
    (λ honest. (kept honest, λ h handled. handled_may_stand _ _ _ _ h (g.met.S.Store.may_stand _ honest (kept honest) reopens) handled))
