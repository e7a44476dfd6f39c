-- Promise. What a first-heard call of a host does to what is stored, and what its reply says. (The elements of a reply are those of BOINC's
-- scheduler_reply; the rules are this profile's.)
use Rattle.std.specs.Prelude.{◌≡◌, ℕ, List, None}
use Rattle.http_responses.specs.declared.response.Response.{Response}
use Rattle.rpc_records.specs.declared.reply.Reply.{Reply}
use Rattle.rpc_records.specs.declared.request.Request.{Request}
use Rattle.rpc_records.specs.Replies.{reply_text_of}
use Rattle.sched_book.specs.Step.{RpcStep, after_settlement, granted, host_at_entry, host_number}
use Rattle.sched_book.specs.declared.machine.Caller.{Caller}
use Rattle.sched_book.specs.declared.world.World.{World}
use Rattle.sched_machine.specs.Classes.{HasTakenClasses}
use Rattle.sched_machine.specs.Results.{NamesEachJob}
use Rattle.pasts.specs.Messages.{Rpc}
use Rattle.pasts.specs.Stands.{told_by}
use Rattle.pasts.specs.declared.answer.AnswerContent.{AnswerContent}
use Rattle.pasts.specs.declared.answer.AnswerContent.TheVariants.{Good}
use Rattle.stores.specs.Held.{Held}
use Rattle.message_engine.specs.Stores.{tables_by}
use Rattle.sched_server.specs.Arrivals.{Came, StandsFor}
use Rattle.sched_server.specs.Handled.{Handles}

-- The call made a step of the machine, and was answered by its reply.
pub record IsAStep (old new : World) (r : Request) (now : ℕ) (answer : AnswerContent) : Type 0 where
  pub caller : Caller
  pub reply : Reply
  pub step : RpcStep old caller r now new reply
  pub answer_is : answer ≡ Good (reply_text_of reply)
  -- the reply has one job for each instance that was sent again or granted, and the host then holds these
  pub names : NamesEachJob old new caller r step.jobs reply
  -- a grant alone changes the class of a workunit, as its rule says
  pub classes : HasTakenClasses old (host_at_entry old caller r)
      (granted (after_settlement old caller r now) (host_number old caller) now step.jobs) step.jobs new

abbrev pub FirstCallsAreSteps : Type 0
FirstCallsAreSteps =
    (key bytes : List ℕ) (now : ℕ) (r : Response) (old new : Held) (upgrade_points : List ℕ) (before : List Came)
    → StandsFor key old upgrade_points before → (h : Handles key bytes now r old new)
    → (request : Request) → h.said ≡ Rpc request → told_by (tables_by old) h.said ≡ None → IsAStep old.world new.world request now h.told
