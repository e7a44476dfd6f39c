use Rattle.std.proofs.Common.{◌≡◌, true, false, sym, subst, rules}
use Rattle.table_meaning.specs.declared.rows.StoredRow.TheVariants as stored
use Rattle.table_cache.specs.Carrying.{with_job}
use Rattle.table_cache.specs.Covering.{AreSkipsFor}
use Rattle.table_desk.specs.WaitingWindow.{with_wait_at}
use Rattle.table_cache.proofs.SkipMoves.{jobs_followed, none_waits}
use Rattle.table_cache.proofs.skips.Skips.follow_instance.Goals as goal

pub returns-then-not-keeps_host : goal.returns-then-not-keeps_host
returns-then-not-keeps_host c = λ waiting jobs hosts known are. c.forget_all.ensures _ _ _

pub returns-then-row : goal.returns-then-row
returns-then-row c = λ waiting jobs hosts known are.
    let row = c.args.row.now in
    let queued : row.queued ≡ true = search rules in
    let then = with_wait_at waiting row.unit_id row.num true in
    subst (λ b. AreSkipsFor (with_wait_at waiting row.unit_id row.num b) (with_job jobs (stored.Instance row)) hosts c.add.new.self) (sym queued)
    (jobs_followed then jobs hosts c.add.new.self (c.add.ensures waiting jobs hosts are) row (c.keeps_host.ensures (search rules) jobs known))

pub returns-else-row : goal.returns-else-row
returns-else-row c = λ waiting jobs hosts known are.
    let row = c.args.row.now in
    let queued : row.queued ≡ false = search rules in
    let then = with_wait_at waiting row.unit_id row.num false in
    subst (λ b. AreSkipsFor (with_wait_at waiting row.unit_id row.num b) (with_job jobs (stored.Instance row)) hosts c.args.self.now) (sym queued)
    (jobs_followed then jobs hosts c.args.self.now (none_waits waiting jobs hosts c.args.self.now are row.unit_id row.num) row (c.keeps_host.ensures (search rules) jobs known))
