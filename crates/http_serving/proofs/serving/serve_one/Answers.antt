-- If there was no room, nothing was handled.
use Rattle.std.proofs.Common.{refl, inr}
use Rattle.http_responses.specs.Answers.{answer_bytes}
use Rattle.http_responses.specs.declared.answer.Answer.TheVariants.{Unavailable}
use Rattle.http_serving.proofs.serving.serve_one.Goals as goal

pub returns-in-Ok-NoRoom-clause-write_fault : goal.returns-in-Ok-NoRoom-clause-write_fault
returns-in-Ok-NoRoom-clause-write_fault g c = λ is_fault.
    let heard = rw c.in-Ok-NoRoom.field-0-is at c.in-Ok-NoRoom.ensures.ok in
    let failed = rw is_fault at c.write_answer.ensures.failed in
    let went = rw is_fault at c.write_answer.ensures.went_out in
    (failed, (heard.0, answer_bytes Unavailable, heard.1, inr (refl {a = answer_bytes Unavailable}, refl {a = c.args.service.now}, heard.2), went))
