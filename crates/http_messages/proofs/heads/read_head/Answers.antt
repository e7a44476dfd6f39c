use Rattle.std.proofs.Common.{arith}
use Rattle.http_messages.proofs.HeadLemmas.{whole, awaits, never_in_room, never_with_fields}
use Rattle.http_messages.proofs.heads.read_head.Goals as goal

pub returns-in-Ok-Complete : goal.returns-in-Ok-Complete
returns-in-Ok-Complete c =
    let front = c.head_room.ensures in
    let within = rw (c.in-Ok-Complete.field-0-is, front) at c.in-Ok-Complete.ensures.within in
    let found = rw (c.in-Ok-Complete.field-0-is, front) at c.in-Ok-Complete.ensures.complete in
    (within, whole c.args.bytes.now c.parse_request.new.headers c.in-Ok-Complete.spans (omega (arith, c.parse_request.auto.headers, c.requires)) within found)

pub returns-in-Ok-Partial : goal.returns-in-Ok-Partial
returns-in-Ok-Partial c =
    let none = rw (c.in-Ok-Partial.field-0-is, c.head_room.ensures) at c.in-Ok-Partial.ensures.partial in
    let may = rw (c.in-Ok-Partial.field-0-is, c.head_room.ensures) at c.in-Ok-Partial.ensures.unfinished in
    awaits c.args.bytes.now c.if-bytes-lt-MOST_HEAD_BYTES.true none may

pub returns-in-Ok-Partial-2 : goal.returns-in-Ok-Partial-2
returns-in-Ok-Partial-2 c =
    let none = rw (c.in-Ok-Partial.field-0-is, c.head_room.ensures) at c.in-Ok-Partial.ensures.partial in
    never_in_room c.args.bytes.now (omega (arith, c.if-bytes-lt-MOST_HEAD_BYTES.false)) none

pub returns-in-Err : goal.returns-in-Err
returns-in-Err c =
    let over = rw (c.in-Err.is, c.head_room.ensures, c.requires) at c.parse_request.ensures.no_room in
    never_with_fields c.args.bytes.now over
