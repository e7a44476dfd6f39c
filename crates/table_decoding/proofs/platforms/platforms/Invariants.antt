use Rattle.std.proofs.Common.{◌≡◌, map}
use Rattle.table_decoding.proofs.platforms.platforms.Given as goal

abbrev pub invariant-loop-word : goal.invariant-loop-word
invariant-loop-word l = l.platforms ≡ map (λ x. x.now) l.yielded
