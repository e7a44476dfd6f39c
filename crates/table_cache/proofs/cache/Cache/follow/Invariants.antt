use Rattle.std.specs.Prelude.{ℕ, Bool, take, IfSome, List, Option}
use Rattle.sched_book.specs.declared.instance.Instance.{Instance}
use Rattle.table_desk.specs.WaitingWindow.{IsWindowFor}
use Rattle.table_desk.specs.declared.hosts.CountedHost.{CountedHost}
use Rattle.table_cache.specs.Carrying.{with_hosts, with_jobs, AreCarried, AreOfHosts, AreOfJobs}
use Rattle.table_cache.specs.Leading.{IsUnput}
use Rattle.table_cache.specs.Covering.{with_waits, AreSkipsFor}
use Rattle.table_cache.specs.Holding.{holders_of, AreHeldOf}
use Rattle.table_cache.specs.Keys.{with_titles, AreKeysOf, AreNamesOf}
use Rattle.table_cache.proofs.cache.Cache.follow.Given as goal

-- of the rows so far note is taken
abbrev pub invariant-loop-change : goal.invariant-loop-change
invariant-loop-change l =
    AreCarried (IsUnput (take l.change-index l.changes)) l.fn.self l.self
    × ((f : ℕ → Option CountedHost) → AreOfHosts f l.fn.self.hosts → AreOfHosts (with_hosts f (take l.change-index l.changes)) l.self.hosts)
    × ((f : ℕ → ℕ → Option Instance) → AreOfJobs f l.fn.self.jobs → AreOfJobs (with_jobs f (take l.change-index l.changes)) l.self.jobs)
    × ((waiting : ℕ → ℕ → Option Bool) (jobs : ℕ → ℕ → Option Instance) (hosts : ℕ → Option CountedHost)
    → AreOfHosts hosts l.fn.self.hosts → AreOfJobs jobs l.fn.self.jobs → AreSkipsFor waiting jobs hosts l.fn.self.skips
    → AreSkipsFor (with_waits waiting (take l.change-index l.changes)) (with_jobs jobs (take l.change-index l.changes)) (with_hosts hosts (take l.change-index l.changes)) l.self.skips)
    × ((waiting : ℕ → ℕ → Option Bool) → IfSome l.fn.self.window (IsWindowFor waiting) → IfSome l.self.window (IsWindowFor (with_waits waiting (take l.change-index l.changes))))
    × ((jobs : ℕ → ℕ → Option Instance) → AreOfJobs jobs l.fn.self.jobs
    → AreHeldOf (holders_of jobs) l.fn.self.held → AreHeldOf (holders_of (with_jobs jobs (take l.change-index l.changes))) l.self.held)
    × ((hosts : ℕ → Option CountedHost) → AreOfHosts hosts l.fn.self.hosts → AreKeysOf hosts l.fn.self.keys → AreKeysOf (with_hosts hosts (take l.change-index l.changes)) l.self.keys)
    × ((titles : ℕ → Option (List ℕ)) → AreNamesOf titles l.fn.self.units → AreNamesOf (with_titles titles (take l.change-index l.changes)) l.self.units)
