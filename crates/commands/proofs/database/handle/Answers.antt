use Rattle.std.proofs.Common.{sym, refl, subst}
use Rattle.sqlite.specs.Held.{state}
use Rattle.table_rows.specs.Refusing.{rest_of}
use Rattle.commands.proofs.Databases.{keeps_database, serves_tables}
use Rattle.commands.specs.Messages.{AreOf}
use Rattle.commands.specs.Wire.{AreServed}
use Rattle.commands.proofs.database.handle.Goals as goal

pub returns-in-Ok : goal.returns-in-Ok
returns-in-Ok g c =
    let done = c.perform_over-ended.ensures in
    rw c.leaving.ensures.left (
      done.0,
      done.1,
      subst (λ ended. AreOf g.F.Files (AreServed g.C.Connections g.C.Reader.Source g.C.Writer.Sink c.args.connections.now c.perform_over-ended.new.connections) done.0 c.args.task.now ended done.1)
          (sym c.leaving.ensures.ended) done.2,
      serves_tables g.S.Store _ c.stopped_tables_stand.ensures (λ t honest. honest) (λ t kept. kept) c.opened_tables_stand.ensures (λ t honest. honest.0)
          (λ t clean. clean) (λ t clean. clean) (λ t reopens. reopens) (λ t reopens. reopens) (λ t h may. may) (λ t. refl)
          done.0 done.1 (state g.S.Store c.args.conn) c.in-Ok.tables c.perform_over-ended.result.1 c.into_connection.result c.into_store-store.result
          (record { honest = c.in-Ok.ensures.open; kept = c.in-Ok.ensures.held; same = c.in-Ok.ensures.same })
          c.in-Ok.ensures.clean c.in-Ok.ensures.reopens done.3
          (record {
            clean = c.into_connection.ensures.clean;
            left = c.into_connection.ensures.left;
            quiet = c.into_store-store.ensures.quiet;
            back = record { numbered = c.into_store-store.ensures.numbered; databases = c.into_store-store.ensures.sound };
          }),
    )

pub returns-in-Err : goal.returns-in-Err
returns-in-Err g c =
    rw c.refused.ensures.left (rw c.refused.ensures.ended (tt, keeps_database g.S.Store g.met.S.Store.settled c.args.conn (rest_of c.in-Err.refused) c.into_store.result c.in-Err.ensures.rest c.into_store.ensures))
