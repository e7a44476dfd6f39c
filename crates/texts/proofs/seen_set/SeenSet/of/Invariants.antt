use Rattle.std.proofs.Common.{◌≡◌, take}
use Rattle.std.specs.List.{list_any}
use Rattle.texts.specs.SeenSet.{has_seen}
use Rattle.texts.proofs.seen_set.SeenSet.of.Given as goal

-- the keys so far were seen
abbrev pub invariant-loop-key : goal.invariant-loop-key
invariant-loop-key g l = (key : _) → has_seen g.K.PartialEq.eq l.seen key ≡ list_any (g.K.PartialEq.eq key) (take l.key-index l.keys)
