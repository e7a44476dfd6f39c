use Rattle.std.proofs.Common.{refl}
use Rattle.std.specs.Prelude.{is_ok}
use Rattle.http_messages.specs.Meaning.{message_seen}
use Rattle.rpc_records.specs.Reading.{meaning}
use Rattle.rpc_records.specs.declared.fault.Fault.TheVariants as fault
use Rattle.stores.specs.Acting.{parts_of}
use Rattle.stores.proofs.Results.{only}
use Rattle.stores.proofs.ReadsAct.{reads_act, whole_too}
use Rattle.pasts.specs.Messages.{Said, Import, Tick, Read, Refused, heard_now}
use Rattle.pasts.specs.declared.answer.AnswerContent.TheVariants.{Refusal}
use Rattle.message_engine.specs.Stores.{ServesIn}
use Rattle.sched_server.specs.Meanings.{SaysInThisEra, said_by}
use Rattle.sched_server.specs.Statements.{told_of_host}
use Rattle.sched_server.proofs.Told.{refused_serves}
use Rattle.sched_server.proofs.Answered.{says_so, known_serves, at_moment, import_says, import_serves}
use Rattle.sched_server.proofs.answers.answer.Goals as goal

pub returns-in-Call-clause-exact : goal.returns-in-Call-clause-exact
returns-in-Call-clause-exact g c = λ honest kept.
    known_serves c.args.message _ (said_by (meaning c.in-Call.body.now)) c.args.now _ _ c.call_in_body.result c.in-Call.is refl
    (c.call_in_body.ensures.exact honest kept)

pub returns-in-Import-clause-exact : goal.returns-in-Import-clause-exact
returns-in-Import-clause-exact g c = λ honest kept.
    import_serves c.args.message _ c.in-Import.kind c.in-Import.batch.now c.in-Import.text.now c.args.now _ _ c.import_batch.result c.in-Import.is refl
    (c.import_batch.ensures.exact honest kept)

pub returns-in-Tick-clause-exact : goal.returns-in-Tick-clause-exact
returns-in-Tick-clause-exact g c = λ honest kept.
    known_serves c.args.message _ Tick c.args.now _ _ c.tick.result c.in-Tick.is refl (c.tick.ensures.exact honest kept)

pub returns-in-Statement-clause-exact : goal.returns-in-Statement-clause-exact
returns-in-Statement-clause-exact g c = λ honest kept.
    known_serves c.args.message _ (Read (told_of_host c.in-Statement.host)) c.args.now _ _ c.statement.result c.in-Statement.is refl
    (at_moment
    (λ now a. ServesIn (heard_now now (Read (told_of_host c.in-Statement.host))) a (g.S.Store.holds c.args.store.now) (g.S.Store.holds c.statement.new.store))
    c.args.now c.statement.result (c.statement.ensures.exact honest kept))

pub returns-in-Call-clause-acts : goal.returns-in-Call-clause-acts
returns-in-Call-clause-acts g c =
    whole_too (parts_of g.S.Units g.S.Store.holds g.S.Store.clean g.S.Store.lasting g.S.Store.may_leave g.S.Store.reopens) (is_ok c.call_in_body.result) _ _ c.args.store.now c.call_in_body.new.store
    (λ h served. (said_by (meaning c.in-Call.body.now), says_so c.args.message _ _ c.in-Call.is refl, served))
    c.call_in_body.ensures.acts

pub returns-in-Import-clause-acts : goal.returns-in-Import-clause-acts
returns-in-Import-clause-acts g c =
    whole_too (parts_of g.S.Units g.S.Store.holds g.S.Store.clean g.S.Store.lasting g.S.Store.may_leave g.S.Store.reopens) (is_ok c.import_batch.result) _ _ c.args.store.now c.import_batch.new.store
    (λ h served. (
      Import c.in-Import.kind c.in-Import.batch.now c.in-Import.text.now served.0,
      import_says c.args.message _ c.in-Import.kind c.in-Import.batch.now c.in-Import.text.now served.0 c.in-Import.is refl served.1,
      served.2,
    ))
    c.import_batch.ensures.acts

pub returns-in-Tick-clause-acts : goal.returns-in-Tick-clause-acts
returns-in-Tick-clause-acts g c =
    whole_too (parts_of g.S.Units g.S.Store.holds g.S.Store.clean g.S.Store.lasting g.S.Store.may_leave g.S.Store.reopens) (is_ok c.tick.result) _ _ c.args.store.now c.tick.new.store
    (λ h served. (Tick, says_so c.args.message _ _ c.in-Tick.is refl, served))
    c.tick.ensures.acts

pub returns-in-Statement-clause-acts : goal.returns-in-Statement-clause-acts
returns-in-Statement-clause-acts g c =
    whole_too (parts_of g.S.Units g.S.Store.holds g.S.Store.clean g.S.Store.lasting g.S.Store.may_leave g.S.Store.reopens) (is_ok c.statement.result) _ _ c.args.store.now c.statement.new.store
    (λ h served. absurd served)
    c.statement.ensures.acts

pub returns-in-WrongMethod-clause-exact : goal.returns-in-WrongMethod-clause-exact
returns-in-WrongMethod-clause-exact g c = λ honest kept.
    let reads = c.confirmed.ensures.reads in
    let old = c.args.store.now in
    let new = c.confirmed.new.store in
    only c.confirmed.result (Refusal fault.WrongMethod)
    (λ a. (said : Said) × SaysInThisEra (message_seen c.args.message) said × ServesIn (heard_now c.args.now said) a (g.S.Store.holds old) (g.S.Store.holds new)) c.confirmed.ensures.answer
    (Refused fault.WrongMethod, says_so c.args.message _ _ c.in-WrongMethod.is refl, refused_serves fault.WrongMethod c.args.now (g.S.Store.holds old) (g.S.Store.holds new) (g.met.S.Store.stays_held _ _ reads honest kept))

pub returns-in-WrongMethod-clause-acts : goal.returns-in-WrongMethod-clause-acts
returns-in-WrongMethod-clause-acts g c =
    let reads = c.confirmed.ensures.reads in
    reads_act (parts_of g.S.Units g.S.Store.holds g.S.Store.clean g.S.Store.lasting g.S.Store.may_leave g.S.Store.reopens) c.args.store.now c.confirmed.new.store
    (g.met.S.Store.stays_clean _ _ reads) (g.met.S.Units.stays_honest _ _ reads) (g.met.S.Units.stays_kept _ _ reads)
    (λ lasting honest. g.met.S.Store.stays_open _ _ lasting reads honest) (g.met.S.Store.stays_held _ _ reads) (g.met.S.Store.stays_left _ _ reads) (g.met.S.Store.stays_reopened _ _ reads)
    (is_ok c.confirmed.result) _ c.confirmed.ensures.open

pub returns-in-Refused-clause-exact : goal.returns-in-Refused-clause-exact
returns-in-Refused-clause-exact g c = λ honest kept.
    let reads = c.confirmed-in-Refused.ensures.reads in
    let old = c.args.store.now in
    let new = c.confirmed-in-Refused.new.store in
    only c.confirmed-in-Refused.result (Refusal c.in-Refused.fault)
    (λ a. (said : Said) × SaysInThisEra (message_seen c.args.message) said × ServesIn (heard_now c.args.now said) a (g.S.Store.holds old) (g.S.Store.holds new)) c.confirmed-in-Refused.ensures.answer
    (Refused c.in-Refused.fault, says_so c.args.message _ _ c.in-Refused.is refl, refused_serves c.in-Refused.fault c.args.now (g.S.Store.holds old) (g.S.Store.holds new) (g.met.S.Store.stays_held _ _ reads honest kept))

pub returns-in-Refused-clause-acts : goal.returns-in-Refused-clause-acts
returns-in-Refused-clause-acts g c =
    let reads = c.confirmed-in-Refused.ensures.reads in
    reads_act (parts_of g.S.Units g.S.Store.holds g.S.Store.clean g.S.Store.lasting g.S.Store.may_leave g.S.Store.reopens) c.args.store.now c.confirmed-in-Refused.new.store
    (g.met.S.Store.stays_clean _ _ reads) (g.met.S.Units.stays_honest _ _ reads) (g.met.S.Units.stays_kept _ _ reads)
    (λ lasting honest. g.met.S.Store.stays_open _ _ lasting reads honest) (g.met.S.Store.stays_held _ _ reads) (g.met.S.Store.stays_left _ _ reads) (g.met.S.Store.stays_reopened _ _ reads)
    (is_ok c.confirmed-in-Refused.result) _ c.confirmed-in-Refused.ensures.open
