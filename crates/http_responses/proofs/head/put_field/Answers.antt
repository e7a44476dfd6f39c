-- Piece by piece.
use Rattle.std.proofs.Common.{append_assoc}
use Rattle.http_responses.specs.Responses.{field_line}
use Rattle.http_responses.proofs.head.put_field.Goals as goal

pub returns-clause-bytes : goal.returns-clause-bytes
unfolding field_line
returns-clause-bytes c =
    simp (c.push_str-4.ensures.bytes, c.push_str-3.ensures.bytes, c.push_str-2.ensures.bytes, c.push_str.ensures.bytes, append_assoc)
