use Rattle.std.proofs.Common.{arith}
use Rattle.sqlite.specs.Held.{state}
use Rattle.sqlite.specs.State.{HasCleanDisk}
use Rattle.table_meaning.proofs.StepLemmas.{reads_on}
use Rattle.table_desk.proofs.LastNumbers.{accounts_counted, apps_counted, versions_counted, units_counted, hosts_counted}
use Rattle.table_desk.proofs.ReadLater.{tell_later}
use Rattle.table_desk.proofs.lengths.counts.Goals as goal

pub returns-clause-answer : goal.returns-clause-answer
returns-clause-answer g c = λ clean is_open rests w tell.
    let first = state g.S.Store c.args.conn.now in
    let s1 = state g.S.Store c.last_number.new.conn in
    let s2 = state g.S.Store c.last_number-2.new.conn in
    let s3 = state g.S.Store c.last_number-3.new.conn in
    let s4 = state g.S.Store c.last_number-4.new.conn in
    let s5 = state g.S.Store c.last_number-5.new.conn in
    let r1 = c.last_number.ensures.reads in
    let r2 = c.last_number-2.ensures.reads in
    let r3 = c.last_number-3.ensures.reads in
    let r4 = c.last_number-4.ensures.reads in
    let r5 = c.last_number-5.ensures.reads in
    let c4 : HasCleanDisk s4 = omega (arith, r5.survives.clean, clean) in
    let c3 : HasCleanDisk s3 = omega (arith, r4.survives.clean, c4) in
    let c2 : HasCleanDisk s2 = omega (arith, r3.survives.clean, c3) in
    let c1 : HasCleanDisk s1 = omega (arith, r2.survives.clean, c2) in
    let o4 = r5.was_open clean is_open in
    let o3 = r4.was_open c4 o4 in
    let o2 = r3.was_open c3 o3 in
    let o1 = r2.was_open c2 o2 in
    let to2 = reads_on first s1 s2 r1 r2 in
    let to3 = reads_on first s2 s3 to2 r3 in
    let to4 = reads_on first s3 s4 to3 r4 in
    let t1 = tell_later first s1 r1 c1 o1 rests w tell in
    let t2 = tell_later first s2 to2 c2 o2 rests w tell in
    let t3 = tell_later first s3 to3 c3 o3 rests w tell in
    let t4 = tell_later first s4 to4 c4 o4 rests w tell in
    let accounts = accounts_counted _ w tell c.in_ok-accounts.accounts (c.in_ok-accounts.ensures.last c1 tell.holds.known) in
    let apps = apps_counted _ w t1 c.in_ok-apps.apps (c.in_ok-apps.ensures.last c2 t1.holds.known) in
    let versions = versions_counted _ w t2 c.in_ok-versions.versions (c.in_ok-versions.ensures.last c3 t2.holds.known) in
    let units = units_counted _ w t3 c.in_ok-workunits.workunits (c.in_ok-workunits.ensures.last c4 t3.holds.known) in
    let hosts = hosts_counted _ w t4 c.in_ok-hosts.hosts (c.in_ok-hosts.ensures.last clean t4.holds.known) in
    λ i. record { accounts = accounts i; apps = apps i; versions = versions i; workunits = units i; hosts = hosts i }
