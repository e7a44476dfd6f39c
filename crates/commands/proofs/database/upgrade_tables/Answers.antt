use Rattle.commands.proofs.Databases.{upgrades_tables}
use Rattle.commands.proofs.database.upgrade_tables.Goals as goal

pub returns : goal.returns
returns g c =
    rw c.leaving.ensures.left
    (rw c.leaving.ensures.ended
    (upgrades_tables g.S.Store c.stopped_upgrades_stand.ensures c.former_worlds_are_unclassed.ensures c.upgraded_can_be_opened.ensures g.met.S.Store.settled
    c.upgraded-ended.result c.args.conn c.upgraded-ended.new.conn c.into_store.result c.upgraded-ended.ensures.open c.upgraded-ended.ensures.upgrades c.upgraded-ended.ensures.crash
    c.into_store.ensures.quiet (record { numbered = c.into_store.ensures.numbered; databases = c.into_store.ensures.sound })))
