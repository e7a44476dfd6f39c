-- A head was read: after it there is a whole body, or some of its bytes are missing.
use Rattle.std.proofs.Common.{drop}
use Rattle.std.proofs.lemmas.List.{take_rest}
use Rattle.http_messages.specs.Hearing.{decision_seen}
use Rattle.http_messages.specs.Meaning.{message_seen}
use Rattle.http_messages.proofs.MeaningLemmas.{settled_head, none_missing, misses_body, misses_no_more}
use Rattle.http_messages.proofs.hearing.hear.Goals as goal

pub returns-in-Whole-clause-settled : goal.returns-in-Whole-clause-settled
returns-in-Whole-clause-settled c = λ none.
    let at = c.in-Whole.ensures.1 in
    let same = (rw c.head_room.ensures at c.decide-decision.ensures) at.0 at.2 in
    let behind = drop c.in-Whole.spans.len c.args.bytes.now in
    let rest = take_rest c.args.bytes.now c.in-Whole.spans.len in
    let told = rw rest at c.message.ensures in
    let missed = rw rest at c.missing.ensures in
    settled_head c.args.key.now c.args.bytes.now at.0 behind (decision_seen c.decide-decision.result)
    (message_seen c.message.result) at.1 same told (none_missing (decision_seen c.decide-decision.result) behind c.missing.result missed none)

pub returns-in-Whole-clause-awaits : goal.returns-in-Whole-clause-awaits
returns-in-Whole-clause-awaits c =
    let at = c.in-Whole.ensures.1 in
    let same = (rw c.head_room.ensures at c.decide-decision.ensures) at.0 at.2 in
    let missed = rw (take_rest c.args.bytes.now c.in-Whole.spans.len) at c.missing.ensures in
    misses_body c.args.key.now c.args.bytes.now at.0 (drop c.in-Whole.spans.len c.args.bytes.now) (decision_seen c.decide-decision.result)
    c.missing.result at.1 same missed

pub returns-in-Whole-clause-no_more : goal.returns-in-Whole-clause-no_more
returns-in-Whole-clause-no_more c =
    let at = c.in-Whole.ensures.1 in
    let same = (rw c.head_room.ensures at c.decide-decision.ensures) at.0 at.2 in
    let missed = rw (take_rest c.args.bytes.now c.in-Whole.spans.len) at c.missing.ensures in
    misses_no_more c.args.key.now c.args.bytes.now at.0 (drop c.in-Whole.spans.len c.args.bytes.now) (decision_seen c.decide-decision.result)
    c.missing.result at.1 same missed
