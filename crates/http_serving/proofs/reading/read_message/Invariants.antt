use Rattle.std.proofs.Common.{◌≡◌}
use Rattle.http_serving.specs.Missing.{Misses}
use Rattle.http_serving.specs.Serving.{Comes}
use Rattle.http_serving.specs.Streams.{StepsInTurn}
use Rattle.http_serving.proofs.reading.read_message.Given as goal

-- what came so far was wanted, this many bytes are missing, and each turn was one read
abbrev pub invariant-loop : goal.invariant-loop
invariant-loop g l = record {
  came : Comes (g.H.Handler.wanting l.service) (g.R.Source.left l.fn.reader) (g.R.Source.left l.reader) l.bytes.items;
  missed : Misses (g.H.Handler.wanting l.service) l.bytes.items l.missing;
  settled : l.missing ≡ 0 → g.H.Handler.settled l.service l.bytes.items;
  called : StepsInTurn g.R.Source.steps l.counter l.fn.reader l.reader;
}
