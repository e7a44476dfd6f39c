use Rattle.std.proofs.Common.{◌≡◌, subst}
use Rattle.std.proofs.lemmas.Result.{IfOk-weaker}
use Rattle.sched_book.specs.Delta.{edited}
use Rattle.sched_book.specs.Places.{host_at}
use Rattle.sched_book.specs.declared.world.World.{World}
use Rattle.call_working_set.specs.WorkingSets.{IsCallStateOf}
use Rattle.table_changes.proofs.CallStateRows.{host_changed}
use Rattle.table_changes.proofs.hosts.changed_host.Goals as goal

pub returns-clause-row : goal.returns-clause-row
returns-clause-row g c = λ honest kept call_state goes.
    let d = g.met.D.Units in
    let w = g.D.Units.world c.args.desk.now in
    let p = c.args.call_state.now in
    let host = c.args.host in
    let before = d.stays_honest _ _ c.host_now.ensures.reads honest in
    let well = d.stays_kept _ _ c.total_after.ensures.reads before kept in
    let same = d.stays_same _ _ c.total_after.ensures.reads before kept in
    let stands : c.in_ok-row.row ≡ host_at (edited w p.edits) host =
    subst (λ (x : World). IsCallStateOf x p → c.in_ok-row.row ≡ host_at (edited x p.edits) host) same (c.in_ok-row.ensures.host honest well) call_state in
    let counted = c.in_ok-total.ensures.total before kept (edited w p.edits) goes in
    IfOk-weaker c.row_of.result _ _ (λ row is. host_changed w (edited w p.edits) host c.in_ok-total.total c.in_ok-row.row row stands counted is) c.row_of.ensures
