-- There is at most one step for each call, and at most one run for a list of calls.
use Rattle.std.proofs.Common.{◌≡◌, ℕ, true, false, List, [], ◌∷◌, ◌++◌, map, sym, refl, ap, ◌∙◌, subst, length}
use Rattle.std.specs.Prelude.{filter_map}
use Rattle.rpc_records.specs.declared.reply.Reply.{Reply}
use Rattle.rpc_records.specs.declared.request.Report.{Report}
use Rattle.rpc_records.specs.declared.request.Request.{Request}
use Rattle.sched_book.specs.Grant.{end_word, IsGrant}
use Rattle.sched_book.specs.Imports.{with_rows, row_count}
use Rattle.sched_book.specs.Lost.{aborts}
use Rattle.sched_book.specs.Places.{host_credit, user_credit, overdue}
use Rattle.sched_book.specs.Reports.{first_reports}
use Rattle.sched_book.specs.Settle.{settled}
use Rattle.sched_book.specs.Step.{Trace, after_settlement, asking_of, after_grant, host_number, host_at_entry, job_at, resent_of, user_name, Step, lapsed}
use Rattle.sched_book.specs.declared.instance.Place.{Place}
use Rattle.sched_book.specs.declared.machine.Answered.{Answered}
use Rattle.sched_book.specs.declared.machine.Answered.TheVariants as answered
use Rattle.sched_book.specs.declared.machine.Call.{Call}
use Rattle.sched_book.specs.declared.machine.Call.TheVariants as call
use Rattle.sched_book.specs.declared.machine.Caller.{Caller}
use Rattle.sched_book.specs.declared.world.World.{World}
use Rattle.job_choice.proofs.Only.{one_grant}
use Rattle.sched_machine.specs.Runs.{StepIsDetermined, RunIsDetermined}
use Rattle.sched_machine.proofs.Moves.Cases.{by_call}

-- what a scheduler call answers
module _ (w : World) (c : Caller) (r : Request) (now : ℕ) where
  abbrev reply_with : World → List Place → Reply
  reply_with after jobs = record {
    end_word = end_word (after_settlement w c r now) (asking_of w c r now) jobs;
    host_total_credit = host_credit after (host_number w c);
    hostid = host_number w c;
    request_delay = w.settings.request_delay;
    result_abort = aborts (after_settlement w c r now) (host_number w c) r.other_results;
    result_ack = map (λ (x : Report). x.name) (first_reports r.results);
    results = filter_map (job_at after (host_at_entry w c r) true) (resent_of w c r)
        ++ filter_map (job_at after (host_at_entry w c r) false) jobs;
    rpc_seqno = r.rpc_seqno;
    user_name = user_name w c.account;
    user_total_credit = user_credit after c.account;
  }

-- what a step of a call leaves and answers, for some grant of jobs
abbrev Leaves : World → Call → ℕ → World → Answered → Type 0
Leaves w (call.Rpc c r) now v a =
    (jobs : List Place) × IsGrant (after_settlement w c r now) (asking_of w c r now) jobs × (v ≡ after_grant w c r now jobs)
    × (a ≡ answered.Rpc (reply_with w c r now (after_grant w c r now jobs) jobs))
Leaves w (call.Import new) now v a = (v ≡ with_rows w new) × (a ≡ answered.Imported (row_count new))
Leaves w call.Tick now v a = (v ≡ settled w (lapsed w now)) × (a ≡ answered.Lapsed (length (overdue w now)))

leaves : (w v : World) (c : Call) (now : ℕ) (a : Answered) → Step w c now v a → Leaves w c now v a
leaves w v c now =
    by_call w v now (λ c a. Leaves w c now v a)
    (λ c r reply step. (step.jobs, step.grant, step.left, ap answered.Rpc (step.answer ∙ ap (λ after. reply_with w c r now after step.jobs) step.left)))
    (λ new count step. (step.left, ap answered.Imported step.answer)) (λ count step. (step.left, ap answered.Lapsed step.answer)) c

pub a_step_is_determined : StepIsDetermined
a_step_is_determined w v u c now a b first second = same c (leaves w v c now a first) (leaves w u c now b second)
  where
    same : (c : Call) → Leaves w c now v a → Leaves w c now u b → (v ≡ u) × (a ≡ b)
    same (call.Rpc c r) one other =
        let jobs : one.0 ≡ other.0 = one_grant (after_settlement w c r now) (asking_of w c r now) one.0 other.0 one.1 other.1 in (
          one.2 ∙ ap (after_grant w c r now) jobs ∙ sym other.2,
          one.3 ∙ ap (λ jobs. answered.Rpc (reply_with w c r now (after_grant w c r now jobs) jobs)) jobs ∙ sym other.3,
        )
    same (call.Import new) one other = (one.0 ∙ sym other.0, one.1 ∙ sym other.1)
    same call.Tick one other = (one.0 ∙ sym other.0, one.1 ∙ sym other.1)

-- each further turn begins in the same world
pub a_run_is_determined : RunIsDetermined
a_run_is_determined w [] [] [] first second = refl
a_run_is_determined w [] [] (o ∷ os) first second = absurd second
a_run_is_determined w [] (t ∷ ts) others first second = absurd first
a_run_is_determined w (e ∷ es) [] others first second = absurd first
a_run_is_determined w (e ∷ es) (t ∷ ts) [] first second = absurd second
a_run_is_determined w (e ∷ es) (t ∷ ts) (o ∷ os) first second =
    let one = a_step_is_determined w t.1 o.1 e.0 e.1 t.0 o.0 first.0 second.0 in
    let same : t ≡ o = ap (λ a. (a, t.1)) one.1 ∙ ap (λ v. (o.0, v)) one.0 in
    ap (λ x. x ∷ ts) same
    ∙ ap (λ xs. o ∷ xs) (a_run_is_determined o.1 es ts os (subst (λ v. Trace v es ts) one.0 first.1) second.1)
