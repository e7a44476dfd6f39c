use Rattle.std.proofs.Common.{[], ◌∷◌, Ok, refl, ap, subst, ◌∙◌, arith}
use Rattle.stores.specs.Acting.{parts_of}
use Rattle.sched_server.specs.Views.{store_of}
use Rattle.sched_server.proofs.Served.{none_served, served_connection, served_read}
use Rattle.sched_server.proofs.Stopped.{reads_stand}
use Rattle.commands.proofs.serving.serve_connections.Goals as goal

pub loop-init : goal.loop-init
loop-init g c = ([], refl, refl, none_served (parts_of g.S.Units g.S.Store.holds g.S.Store.clean g.S.Store.lasting g.S.Store.may_leave g.S.Store.reopens) c.args.service.now)

pub loop-preserved : goal.loop-preserved
loop-preserved g c =
    let kept = c.loop.invariant in
    let next = c.serve_next-is_unavailable.ensures in (
      next.0 ∷ kept.0,
      omega (arith, kept.1),
      (c.loop.connections, kept.2, next.1),
      served_read (parts_of g.S.Units g.S.Store.holds g.S.Store.clean g.S.Store.lasting g.S.Store.may_leave g.S.Store.reopens) g.met.S.Store.stays_clean g.met.S.Units.stays_honest g.met.S.Units.stays_kept g.met.S.Store.stays_held g.met.S.Store.stays_left g.met.S.Store.stays_reopened
          (reads_stand (parts_of g.S.Units g.S.Store.holds g.S.Store.clean g.S.Store.lasting g.S.Store.may_leave g.S.Store.reopens) g.met.S.Units.stays_honest g.met.S.Units.stays_kept g.met.S.Store.stays_held g.met.S.Store.stays_left)
          _ _ c.serve_next-is_unavailable.new.service c.is_open.new.self
          (subst (λ store. g.S.Units.reads store (store_of c.is_open.new.self)) c.take_cause-cause.ensures.store c.is_open.ensures.reads) (c.is_open.ensures.key ∙ c.take_cause-cause.ensures.key)
          (served_connection (parts_of g.S.Units g.S.Store.holds g.S.Store.clean g.S.Store.lasting g.S.Store.may_leave g.S.Store.reopens) kept.0 next.0 _ _ c.serve_next-is_unavailable.new.service kept.3 next.2),
    )

pub returns-in-Ok-false : goal.returns-in-Ok-false
returns-in-Ok-false g c =
    let kept = c.loop.invariant in
    let next = c.serve_next-is_unavailable.ensures in record {
      served = (
        next.0 ∷ kept.0,
        (omega (arith, kept.1), tt, (c.loop.connections, kept.2, next.1)),
        served_read (parts_of g.S.Units g.S.Store.holds g.S.Store.clean g.S.Store.lasting g.S.Store.may_leave g.S.Store.reopens) g.met.S.Store.stays_clean g.met.S.Units.stays_honest g.met.S.Units.stays_kept g.met.S.Store.stays_held g.met.S.Store.stays_left g.met.S.Store.stays_reopened
            (reads_stand (parts_of g.S.Units g.S.Store.holds g.S.Store.clean g.S.Store.lasting g.S.Store.may_leave g.S.Store.reopens) g.met.S.Units.stays_honest g.met.S.Units.stays_kept g.met.S.Store.stays_held g.met.S.Store.stays_left)
            _ _ c.serve_next-is_unavailable.new.service c.is_open.new.self
            (subst (λ store. g.S.Units.reads store (store_of c.is_open.new.self)) c.take_cause-cause.ensures.store c.is_open.ensures.reads) (c.is_open.ensures.key ∙ c.take_cause-cause.ensures.key)
            (served_connection (parts_of g.S.Units g.S.Store.holds g.S.Store.clean g.S.Store.lasting g.S.Store.may_leave g.S.Store.reopens) kept.0 next.0 _ _ c.serve_next-is_unavailable.new.service kept.3 next.2),
      );
      failure = refl;
      shut = λ clean. c.is_open.ensures.shut clean (c.in-Ok-false.is ∙ ap Ok c.in-Ok-false.field-0-test);
    }
