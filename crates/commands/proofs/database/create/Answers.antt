use Rattle.std.proofs.Common.{}
use Rattle.sqlite.specs.Held.{state}
use Rattle.commands.proofs.Databases.{keeps_or_makes, makes_tables}
use Rattle.commands.proofs.database.create.Goals as goal

pub returns-in-Ok : goal.returns-in-Ok
returns-in-Ok g c =
    rw c.leaving.ensures.left
    (makes_tables g.S.Store _ c.stopped_tables_stand.ensures (λ t honest. honest) (λ t kept. kept) c.new_stores_stand.ensures (λ t settings is_new. is_new)
    c.args.settings.now (state g.S.Store c.args.conn) c.in-Ok.tables c.into_connection.result c.into_store-store.result c.in-Ok.ensures.empty c.in-Ok.ensures.clean
    c.in-Ok.ensures.open c.in-Ok.ensures.held c.in-Ok.ensures.new c.in-Ok.ensures.reopens
    (record {
      clean = c.into_connection.ensures.clean;
      left = c.into_connection.ensures.left;
      quiet = c.into_store-store.ensures.quiet;
      back = record { numbered = c.into_store-store.ensures.numbered; databases = c.into_store-store.ensures.sound };
    }))

pub returns-in-Err : goal.returns-in-Err
returns-in-Err g c =
    rw c.refused.ensures.left (rw c.refused.ensures.ended (tt, keeps_or_makes g.S.Store g.met.S.Store.settled c.new_databases_stand.ensures c.args.settings.now c.args.conn _ c.in-Err.ensures.rest))
