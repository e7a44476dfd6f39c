use Rattle.std.proofs.Common.{arith, sym, length-take-le}
use Rattle.std.proofs.lemmas.List.{take_all}
use Rattle.http_messages.proofs.heads.head_room.Goals as goal

pub slice_bounds-result-end : goal.slice_bounds-result-end
slice_bounds-result-end c = sym (length-take-le 8192 c.args.bytes.now (omega (arith, c.if-bytes-le-MOST_HEAD_BYTES.false)))

pub returns-then-bytes-le-MOST_HEAD_BYTES : goal.returns-then-bytes-le-MOST_HEAD_BYTES
returns-then-bytes-le-MOST_HEAD_BYTES c = sym (take_all 8192 c.args.bytes.now c.if-bytes-le-MOST_HEAD_BYTES.true)
