-- Piece by piece.
use Rattle.std.proofs.Common.{append_assoc}
use Rattle.http_responses.specs.Responses.{status_line}
use Rattle.http_responses.proofs.head.put_status_line.Goals as goal

pub returns-clause-bytes : goal.returns-clause-bytes
unfolding status_line
returns-clause-bytes c =
    simp (c.push_str-5.ensures.bytes, c.push_str-4.ensures.bytes, c.push_str-3.ensures.bytes, c.push_str-2.ensures.bytes, c.push_str.ensures.bytes, c.as_str.ensures, c.phrase.ensures.value, append_assoc)
