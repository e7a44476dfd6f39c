use Rattle.std.proofs.Common.{◌<◌, ◌≤◌, rules}
use Rattle.sqlite.specs.Held.{state}
use Rattle.table_meaning.specs.Schema.{newest}
use Rattle.table_upgrades.proofs.Upgraded.{gone_nowhere, gone_survives, gone_further, gone_no_further, gone_all}
use Rattle.table_upgrades.proofs.steps.upgrade_from.Goals as goal

pub loop-next-init : goal.loop-next-init
loop-next-init g c = gone_nowhere c.args.schema c.requires (state g.S.Store c.args.conn.now)

pub loop-next-preserved : goal.loop-next-preserved
loop-next-preserved g c =
    let old = state g.S.Store c.args.conn.now in
    let mid = state g.S.Store c.loop-next.conn in
    let new = state g.S.Store c.upgrade_step.new.conn in
    let less : c.loop-next.next < newest = search rules in
    gone_further c.args.schema c.loop-next.next old mid new c.loop-next.invariant less c.upgrade_step.ensures.crash c.upgrade_step.ensures.outside c.in_ok-upgrade_step.ensures.makes c.in_ok-upgrade_step.ensures.committed

pub returns-in_err-upgrade_step-clause-neither : goal.returns-in_err-upgrade_step-clause-neither
returns-in_err-upgrade_step-clause-neither g c clean opened =
    let less : c.loop-next.next < newest = search rules in
    let stops = gone_no_further c.args.schema c.loop-next.next (state g.S.Store c.args.conn.now) (state g.S.Store c.loop-next.conn) (state g.S.Store c.upgrade_step.new.conn) c.loop-next.invariant less c.upgrade_step.ensures.crash clean (c.in_err-upgrade_step.ensures.neither clean opened) in
    search rules

pub returns-in_err-upgrade_step-clause-crash : goal.returns-in_err-upgrade_step-clause-crash
returns-in_err-upgrade_step-clause-crash g c =
    let less : c.loop-next.next < newest = search rules in
    gone_survives c.args.schema c.loop-next.next (state g.S.Store c.args.conn.now) (state g.S.Store c.loop-next.conn) (state g.S.Store c.upgrade_step.new.conn) c.loop-next.invariant less c.upgrade_step.ensures.crash

pub returns-clause-goes : goal.returns-clause-goes
returns-clause-goes g c clean =
    let past : newest ≤ c.loop-next.next = search rules in
    (gone_all c.args.schema c.loop-next.next c.requires (state g.S.Store c.args.conn.now) (state g.S.Store c.loop-next.conn) c.loop-next.invariant past clean).0

pub returns-clause-committed : goal.returns-clause-committed
returns-clause-committed g c clean =
    let past : newest ≤ c.loop-next.next = search rules in
    (gone_all c.args.schema c.loop-next.next c.requires (state g.S.Store c.args.conn.now) (state g.S.Store c.loop-next.conn) c.loop-next.invariant past clean).1
