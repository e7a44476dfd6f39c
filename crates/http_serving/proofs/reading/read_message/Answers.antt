-- Turn by turn.
use Rattle.std.proofs.Common.{◌++◌, length-append, inl, arith}
use Rattle.http_serving.proofs.CallsInTurn.{StepsInTurn-none, StepsInTurn-more}
use Rattle.http_serving.proofs.Comings.{Comes-none, Comes-more, Misses-now, Misses-less}
use Rattle.http_serving.proofs.reading.read_message.Goals as goal

pub loop-init : goal.loop-init
loop-init g c = record {
  came = rw c.new-bytes.ensures.items (Comes-none (g.H.Handler.wanting c.args.service.now) (g.R.Source.left c.args.reader.now));
  missed = rw c.deref.ensures.value at c.missing-missing.ensures.some;
  settled = rw c.deref.ensures.value at c.missing-missing.ensures.none;
  called = StepsInTurn-none g.R.Source.steps c.args.reader.now;
}

pub still_missing-missing-requires : goal.still_missing-missing-requires
still_missing-missing-requires g c =
    let says = c.in-Gave.ensures.says in
    let missed = Misses-less (g.H.Handler.wanting c.args.service.now) c.loop.bytes.items says.0 c.loop.missing c.loop.invariant.missed in
    rw (c.deref-in-Gave.ensures.value, says.2, c.saturating_sub.ensures, ← says.3) missed

pub loop-preserved : goal.loop-preserved
loop-preserved g c =
    let left = g.R.Source.left in
    let wanting = g.H.Handler.wanting c.args.service.now in
    let says = c.in-Gave.ensures.says in
    let wanted = Misses-now wanting c.loop.bytes.items c.loop.missing c.loop.invariant.missed (omega (arith, c.if-missing-eq0.false)) in
    record {
      came = rw says.2 (Comes-more wanting (left c.args.reader.now) (left c.loop.reader) (left c.read_turn.new.reader) c.loop.bytes.items says.0 c.loop.invariant.came says.1 wanted);
      missed = rw c.deref-in-Gave.ensures.value at c.still_missing-missing.ensures.some;
      settled = rw c.deref-in-Gave.ensures.value at c.still_missing-missing.ensures.none;
      called = StepsInTurn-more g.R.Source.steps c.loop.counter c.args.reader.now c.loop.reader c.read_turn.new.reader c.loop.invariant.called c.read_turn.ensures.step;
    }

pub returns-then-missing-eq0-clause-ok : goal.returns-then-missing-eq0-clause-ok
returns-then-missing-eq0-clause-ok g c = (c.loop.invariant.came, inl (c.loop.invariant.settled c.if-missing-eq0.true))

pub returns-in-NoRoom-clause-ok : goal.returns-in-NoRoom-clause-ok
returns-in-NoRoom-clause-ok g c =
    let left = g.R.Source.left in
    let wanting = g.H.Handler.wanting c.args.service.now in
    let says = c.in-NoRoom.ensures.says in
    let wanted = Misses-now wanting c.loop.bytes.items c.loop.missing c.loop.invariant.missed (omega (arith, c.if-missing-eq0.false)) in
    let some = says.2 in
    let count = length-append c.loop.bytes.items says.0 in
    (c.loop.bytes.items ++ says.0, Comes-more wanting (left c.args.reader.now) (left c.loop.reader) (left c.read_turn.new.reader) c.loop.bytes.items says.0 c.loop.invariant.came says.1 wanted, omega (arith, some, count))
