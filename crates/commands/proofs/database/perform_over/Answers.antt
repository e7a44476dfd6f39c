use Rattle.std.proofs.Common.{[], refl, inl}
use Rattle.stores.specs.Acting.{parts_of}
use Rattle.sched_server.proofs.Stopped.{reads_stand}
use Rattle.sched_server.specs.Views.{operator_key_of}
use Rattle.commands.proofs.Messages.{none_of}
use Rattle.commands.proofs.Stores.{none_handed, service_handed}
use Rattle.commands.proofs.database.perform_over.Goals as goal

pub returns-in-Ok : goal.returns-in-Ok
returns-in-Ok g c =
    let done = c.perform_by-ended.ensures in (
      operator_key_of c.in-Ok.service,
      done.0,
      done.1,
      service_handed (parts_of g.S.Units g.S.Store.holds g.S.Store.clean g.S.Store.lasting g.S.Store.may_leave g.S.Store.reopens) g.met.S.Store.stays_clean g.met.S.Units.stays_honest g.met.S.Units.stays_kept g.met.S.Store.stays_reopened g.met.S.Store.stays_held g.met.S.Store.stays_left g.met.S.Store.settled
          (reads_stand (parts_of g.S.Units g.S.Store.holds g.S.Store.clean g.S.Store.lasting g.S.Store.may_leave g.S.Store.reopens) g.met.S.Units.stays_honest g.met.S.Units.stays_kept g.met.S.Store.stays_held g.met.S.Store.stays_left)
          done.0 c.args.store c.into_tables.result c.in-Ok.service c.perform_by-ended.new.service c.into_tables.ensures c.in-Ok.ensures.store c.in-Ok.ensures.stands done.2,
    )

pub returns-in-Err : goal.returns-in-Err
returns-in-Err g c = (
  [],
  [],
  none_of g.F.Files _ (λ port count why. inl (tt, refl)) [] c.args.task.now _,
  none_handed (parts_of g.S.Units g.S.Store.holds g.S.Store.clean g.S.Store.lasting g.S.Store.may_leave g.S.Store.reopens) g.met.S.Store.stays_clean g.met.S.Units.stays_honest g.met.S.Units.stays_kept g.met.S.Store.stays_reopened g.met.S.Store.stays_held g.met.S.Store.stays_left g.met.S.Store.settled
      (reads_stand (parts_of g.S.Units g.S.Store.holds g.S.Store.clean g.S.Store.lasting g.S.Store.may_leave g.S.Store.reopens) g.met.S.Units.stays_honest g.met.S.Units.stays_kept g.met.S.Store.stays_held g.met.S.Store.stays_left)
      [] c.args.store c.in-Err.store c.in-Err.ensures.back,
)
