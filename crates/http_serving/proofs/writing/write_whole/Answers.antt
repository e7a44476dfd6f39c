-- What is left of a slice is what follows its front.
use Rattle.std.proofs.Common.{◌≡◌, arith, rules, length-drop}
use Rattle.std.proofs.lemmas.List.{take_rest}
use Rattle.http_serving.proofs.Writings.{Appends-more, IsWritten-front, IsWritten-kept}
use Rattle.http_serving.proofs.writing.write_whole.Goals as goal

pub loop-written-preserved : goal.loop-written-preserved
loop-written-preserved g c =
    let held = g.W.Sink.held in
    let bytes = c.args.bytes.now in
    let n = c.loop-written.written in
    let fits = rw (take_rest bytes n) at c.in-Ok.ensures.bound in
    let told = rw (take_rest bytes n) at c.in-Ok.ensures.bytes in
    record {
      within = omega (arith, fits, length-drop n bytes);
      went_out = Appends-more (held c.args.writer.now) (held c.loop-written.writer) (held c.write_some.new.self) bytes n c.in-Ok.count c.loop-written.invariant.went_out told;
    }

pub returns-in-Ok-eq0-clause-went_out : goal.returns-in-Ok-eq0-clause-went_out
returns-in-Ok-eq0-clause-went_out g c =
    let held = g.W.Sink.held in
    let none : c.in-Ok-eq0.field-0 ≡ 0 = search rules in
    let told = rw none at c.in-Ok-eq0.ensures.bytes in
    IsWritten-front (held c.args.writer.now) (held c.loop-written.writer) (held c.write_some.new.self) c.args.bytes.now c.loop-written.written c.loop-written.invariant.went_out told

pub returns-in-Err-Interrupted-clause-went_out : goal.returns-in-Err-Interrupted-clause-went_out
returns-in-Err-Interrupted-clause-went_out g c =
    let held = g.W.Sink.held in
    IsWritten-kept (held c.args.writer.now) (held c.loop-written.writer) (held c.write_some.new.self) c.args.bytes.now c.loop-written.written c.loop-written.invariant.went_out c.in-Err-Interrupted.ensures.bytes
