-- A first-heard call of a host is a step of the machine, so the laws of a step hold of it.
use Rattle.std.proofs.Common.{◌≡◌, ℕ, Option, sym, ◌∙◌, ap, subst}
use Rattle.rpc_records.specs.declared.reply.Reply.{Reply}
use Rattle.rpc_records.specs.declared.request.Request.{Request}
use Rattle.sched_book.specs.Sound.{Sound}
use Rattle.sched_book.specs.Step.{Step, after_settlement, granted, host_at_entry, host_number}
use Rattle.sched_book.specs.declared.machine.Answered.{Answered}
use Rattle.sched_book.specs.declared.machine.Answered.TheVariants as answered
use Rattle.sched_book.specs.declared.machine.Call.{Call}
use Rattle.sched_book.specs.declared.machine.Call.TheVariants as call
use Rattle.sched_book.specs.declared.machine.Caller.{Caller}
use Rattle.sched_book.specs.declared.world.World.{World}
use Rattle.sched_machine.specs.Classes.{HasTakenClasses}
use Rattle.sched_machine.proofs.Classes.ByPlace.{classes_are_by_place}
use Rattle.sched_machine.proofs.Held.Results.{replies_name_each_job}
use Rattle.pasts.specs.Answers.{body_of}
use Rattle.pasts.specs.Messages.{Said, Rpc, heard_now}
use Rattle.pasts.specs.Runs.{SaysCall}
use Rattle.pasts.specs.Stands.{Commits, ServesAs}
use Rattle.pasts.specs.declared.answer.AnswerContent.{AnswerContent}
use Rattle.pasts.specs.declared.answer.AnswerContent.TheVariants.{Good}
use Rattle.message_engine.specs.Stores.{tables_by}
use Rattle.sched_server.specs.FirstCalls.{IsAStep, FirstCallsAreSteps}

of_reply : (old new : World) (r : Request) (now : ℕ) (answer : AnswerContent) (caller : Caller) (q : Request) (reply : Reply) → Sound old → q ≡ r
    → Step old (call.Rpc caller q) now new (answered.Rpc reply) → answer ≡ Good (body_of (answered.Rpc reply) (Rpc r)) → IsAStep old new r now answer
of_reply old new r now answer caller q reply sound same step answer_is =
    let P : Request → Type 0 = λ q. Step old (call.Rpc caller q) now new (answered.Rpc reply) in
    let mine = subst P same step in
    let h = host_at_entry old caller r in
    let w = granted (after_settlement old caller r now) (host_number old caller) now mine.jobs in record {
      caller = caller;
      reply = reply;
      step = mine;
      answer_is = answer_is;
      names = replies_name_each_job old new caller r now reply mine sound;
      classes = subst (HasTakenClasses old h w mine.jobs) (sym mine.left) (classes_are_by_place old h w mine.jobs);
    }

at_step : (old new : World) (r : Request) (now : ℕ) (answer : AnswerContent) (c : Call) (a : Answered) → Sound old → SaysCall (Rpc r) c → Step old c now new a
    → answer ≡ Good (body_of a (Rpc r)) → IsAStep old new r now answer
at_step old new r now answer (call.Rpc caller q) (answered.Rpc reply) sound same step answer_is = of_reply old new r now answer caller q reply sound same step answer_is
at_step old new r now answer (call.Rpc caller q) (answered.Imported n) sound same step answer_is = absurd step
at_step old new r now answer (call.Rpc caller q) (answered.Lapsed n) sound same step answer_is = absurd step
at_step old new r now answer (call.Import rows) a sound same step answer_is = absurd same
at_step old new r now answer call.Tick a sound same step answer_is = absurd same

pub first_calls_are_steps : FirstCallsAreSteps
first_calls_are_steps key bytes now r old new points before st h request says first =
    let P : Option AnswerContent → Type 0 = λ told. ServesAs told (tables_by old) (heard_now now h.said) h.told (tables_by new) in
    let c : Commits (tables_by old) (heard_now now h.said) h.told (tables_by new) = subst P first (h.serves st.sound).serves in
    let Q : Said → Type 0 = λ said. SaysCall said c.call in
    at_step old.world new.world request now h.told c.call c.answered st.sound.world (subst Q says c.is_call) c.step (c.answer_is ∙ ap (λ said. Good (body_of c.answered said)) says)
