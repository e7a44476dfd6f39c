use Rattle.std.proofs.Common.{rules, sym, subst}
use Rattle.std.specs.Prelude.{Result, is_ok}
use Rattle.rpc_records.specs.Reading.{meaning}
use Rattle.rpc_records.specs.declared.fault.Fault.{Fault}
use Rattle.rpc_records.specs.declared.request.Request.{Request}
use Rattle.stores.specs.Acting.{parts_of}
use Rattle.stores.proofs.ReadsAct.{reads_act}
use Rattle.stores.proofs.Results.{only}
use Rattle.pasts.specs.Messages.{heard_now}
use Rattle.pasts.specs.declared.answer.AnswerContent.TheVariants.{Refusal}
use Rattle.message_engine.specs.Stores.{ServesIn}
use Rattle.sched_server.specs.Meanings.{said_by}
use Rattle.sched_server.proofs.Told.{refused_serves}
use Rattle.sched_server.proofs.answers.call_in_body.Goals as goal

pub returns-in-Err : goal.returns-in-Err
returns-in-Err g c =
    let reads = c.confirmed.ensures.reads in
    let old = c.args.store.now in
    let new = c.confirmed.new.store in
    let P : Result Request Fault → Type 0 = λ r. ServesIn (heard_now c.args.now (said_by r)) (Refusal c.in-Err.fault) (g.S.Store.holds old) (g.S.Store.holds new) in record {
      acts = reads_act (parts_of g.S.Units g.S.Store.holds g.S.Store.clean g.S.Store.lasting g.S.Store.may_leave g.S.Store.reopens) old new
          (g.met.S.Store.stays_clean _ _ reads) (g.met.S.Units.stays_honest _ _ reads) (g.met.S.Units.stays_kept _ _ reads)
          (λ lasting honest. g.met.S.Store.stays_open _ _ lasting reads honest) (g.met.S.Store.stays_held _ _ reads) (g.met.S.Store.stays_left _ _ reads) (g.met.S.Store.stays_reopened _ _ reads)
          (is_ok c.confirmed.result) _ c.confirmed.ensures.open;
      exact = λ honest kept.
          only c.confirmed.result (Refusal c.in-Err.fault) (λ a. ServesIn (heard_now c.args.now (said_by (meaning c.args.body.now))) a (g.S.Store.holds old) (g.S.Store.holds new)) c.confirmed.ensures.answer
          (subst P (sym (c.in-Err.ensures.exact (search rules))) (refused_serves c.in-Err.fault c.args.now (g.S.Store.holds old) (g.S.Store.holds new) (g.met.S.Store.stays_held _ _ reads honest kept)));
    }
