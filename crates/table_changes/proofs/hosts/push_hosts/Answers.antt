use Rattle.std.proofs.Common.{rules, ◌+◌, ◌<◌, [], length, take, get_or, subst, ◌∙◌}
use Rattle.std.proofs.lemmas.List.{take_all}
use Rattle.sched_book.specs.Delta.{edited}
use Rattle.table_changes.specs.Added.{is_host_among, AreAdded}
use Rattle.table_changes.proofs.Adding.{none_added, one_added}
use Rattle.table_changes.proofs.InTurn.{no_host, hosts_next}
use Rattle.table_changes.proofs.CallStateRows.{host_told}
use Rattle.table_changes.proofs.hosts.push_hosts.Goals as goal

pub loop-host-init : goal.loop-host-init
loop-host-init g c = record {
  reads = g.met.D.Units.reads_none _;
  told = λ honest kept call_state touched. none_added (is_host_among []) _ _ c.args.rows.now (λ k is. no_host k is _);
}

pub loop-host-preserved : goal.loop-host-preserved
loop-host-preserved g c =
    let d = g.met.D.Units in
    let inv = c.loop-host.invariant in
    let hosts = c.as_slice-host-items.result.now in
    let i = c.loop-host.host-index in
    let host = get_or hosts i 0 in
    let within : i < length hosts = search rules in
    record {
      reads = d.reads_on _ _ _ inv.reads c.changed_host.ensures.reads;
      told = λ honest kept call_state touched.
          let before = d.stays_honest _ _ c.changed_host.ensures.reads honest in
          let well = d.stays_kept _ _ inv.reads before kept in
          let same = d.stays_same _ _ inv.reads before kept in
          one_added (is_host_among (take i hosts)) (is_host_among (take (i + 1) hosts)) _ _ _ c.args.rows.now c.loop-host.rows c.push_some.new.self c.in_ok-changed_host.field-0
          (hosts_next hosts i host within (search rules))
          (host_told _ _ c.args.call_state.now c.args.touched.now host c.tally-share.result c.tally-other.result c.in_ok-changed_host.field-0 same call_state touched
          c.tally-share.ensures c.tally-other.ensures (c.in_ok-changed_host.ensures.row honest well))
          c.in_ok-push_some.ensures (inv.told before kept call_state touched);
    }

pub returns-clause-rows : goal.returns-clause-rows
returns-clause-rows g c = λ honest kept call_state touched.
    let hosts = c.as_slice-host-items.result.now in
    subst (λ ns. AreAdded (is_host_among ns) (g.D.Units.world c.args.desk.now) (edited (g.D.Units.world c.args.desk.now) c.args.call_state.now.edits) c.args.rows.now c.loop-host.rows)
    (take_all c.loop-host.host-index hosts c.loop-host-test.false ∙ c.as_slice-host-items.ensures) (c.loop-host.invariant.told honest kept call_state touched)
