-- Line by line.
use Rattle.std.proofs.Common.{append_assoc}
use Rattle.http_responses.specs.Responses.{head_text}
use Rattle.http_responses.proofs.head.head_of_size.Goals as goal

pub returns : goal.returns
unfolding head_text
returns c =
    simp (c.push_str.ensures.bytes, c.put_field-3.ensures.bytes, c.put_field-2.ensures.bytes, c.put_field.ensures.bytes, c.put_allow.ensures.bytes, c.put_status_line.ensures.bytes, c.new-head.ensures, c.name.ensures.value, c.format.ensures.text, append_assoc)
