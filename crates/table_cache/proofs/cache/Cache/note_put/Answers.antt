use Rattle.table_desk.specs.Columns.{counted_host_at}
use Rattle.table_desk.specs.WaitingWindow.{waiting_of}
use Rattle.table_cache.specs.Carrying.{with_hosts, with_jobs}
use Rattle.table_cache.specs.Covering.{jobs_of, with_waits}
use Rattle.table_cache.specs.Keys.{title_at, with_titles}
use Rattle.table_cache.specs.Leading.{IsPut, IsUnput}
use Rattle.table_cache.proofs.Carried.{host_known, known_of_world, keys_of_world, job_known, jobs_of_world, wait_known, title_known, names_of_world, remembered_then}
use Rattle.table_cache.proofs.HeldMoves.{held_of_world}
use Rattle.table_cache.proofs.cache.Cache.note_put.Goals as goal

pub returns : goal.returns
returns c = λ w w' calls calls' lead known.
    let rows = c.args.changes.now in
    let old = c.args.self.now in
    let hosts = known_of_world w calls old known in
    let jobs = jobs_of_world w calls old known in
    remembered_then w w' lead.was_readable lead.is_readable (IsUnput rows) lead.stays (IsPut rows) lead.put
    (with_hosts (counted_host_at w) rows) (host_known rows (counted_host_at w))
    (with_jobs (jobs_of w) rows) (job_known rows (jobs_of w))
    (with_waits (waiting_of w) rows) (wait_known rows (waiting_of w))
    (with_titles (title_at w) rows) (title_known rows (title_at w))
    calls calls' old c.follow.new.self
    (c.follow.ensures.hosts (counted_host_at w) hosts)
    (c.follow.ensures.jobs (jobs_of w) jobs)
    (c.follow.ensures.skips (waiting_of w) (jobs_of w) (counted_host_at w) hosts jobs known.skips)
    (c.follow.ensures.window (waiting_of w) known.window)
    (c.follow.ensures.held (jobs_of w) jobs (held_of_world w old.held known.held))
    (c.follow.ensures.keys (counted_host_at w) hosts (keys_of_world w calls old known))
    (c.follow.ensures.names (title_at w) (names_of_world w calls old known))
    c.follow.ensures.carried c.follow.ensures.slot known
