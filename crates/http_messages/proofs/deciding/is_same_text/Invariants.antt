-- All bytes are the same exactly if those so far are, and the others are.
use Rattle.std.proofs.Common.{◌≡◌, drop}
use Rattle.std.specs.Prelude.{◌&&◌}
use Rattle.std.specs.Str.{bytes_eq}
use Rattle.http_messages.proofs.deciding.is_same_text.Given as goal

abbrev pub invariant-loop-index : goal.invariant-loop-index
invariant-loop-index l =
    (l.are_same && bytes_eq (drop l.index l.text) (drop l.index l.key)) ≡ bytes_eq l.text l.key
