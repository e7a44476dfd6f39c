-- The head, then the body.
use Rattle.std.proofs.Common.{refl, rules}
use Rattle.std.proofs.lemmas.Result.{on_err_weaker}
use Rattle.http_serving.proofs.Writings.{IsWritten-behind, IsWritten-within}
use Rattle.http_serving.proofs.writing.write_in_turn.Goals as goal

pub returns-in_err-write_whole-clause-went_out : goal.returns-in_err-write_whole-clause-went_out
returns-in_err-write_whole-clause-went_out g c =
    let held = g.W.Sink.held in
    on_err_weaker c.from_residual.result
    (IsWritten-within (held c.args.writer.now) (held c.write_whole.new.writer) c.args.head.now c.args.body.now _ refl)
    (search rules)

pub returns-clause-went_out : goal.returns-clause-went_out
returns-clause-went_out g c =
    let held = g.W.Sink.held in
    on_err_weaker c.write_whole-2.result
    (IsWritten-behind (held c.args.writer.now) (held c.write_whole.new.writer) (held c.write_whole-2.new.writer) c.args.head.now c.args.body.now _ refl (c.in_ok-write_whole.ensures).ok)
    c.write_whole-2.ensures.went_out
