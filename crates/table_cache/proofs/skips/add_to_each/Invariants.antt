use Rattle.std.proofs.Common.{ℕ, true, length, Option}
use Rattle.std.specs.Prelude.{All, Bool}
use Rattle.std.specs.List.{AllWithin}
use Rattle.sched_book.specs.declared.instance.Instance.{Instance}
use Rattle.table_desk.specs.declared.hosts.CountedHost.{CountedHost}
use Rattle.table_cache.specs.Covering.{IsUserSkip}
use Rattle.table_desk.specs.WaitingWindow.{with_wait_at}
use Rattle.table_cache.proofs.skips.add_to_each.Given as goal

-- the skips so far are those after it, and the others those before it
abbrev pub invariant-loop-user : goal.invariant-loop-user
invariant-loop-user l = (waiting : ℕ → ℕ → Option Bool) (jobs : ℕ → ℕ → Option Instance) (hosts : ℕ → Option CountedHost) → All (IsUserSkip waiting jobs hosts) l.fn.users
    → AllWithin (IsUserSkip (with_wait_at waiting l.place.unit l.place.number true) jobs hosts) l.users 0 l.user-index × AllWithin (IsUserSkip waiting jobs hosts) l.users l.user-index (length l.users)
