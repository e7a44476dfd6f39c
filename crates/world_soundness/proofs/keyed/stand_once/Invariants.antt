use Rattle.std.proofs.Common.{◌≡◌, take, AllPairs}
use Rattle.std.specs.List.{list_any}
use Rattle.sched_book.specs.Keys.{Key, same_key, has_key}
use Rattle.world_soundness.proofs.keyed.stand_once.Given as goal

-- the keys that were seen are those of the rows so far, and each occurs once among them
abbrev pub invariant-loop-row : goal.invariant-loop-row
invariant-loop-row g l = record {
  seen : (key : Key) → has_key l.seen key ≡ list_any (λ x. same_key key (g.R.Keyed.key_of x)) (take l.row-index l.rows);
  once : AllPairs g.R.Unique.apart (take l.row-index l.rows);
}
