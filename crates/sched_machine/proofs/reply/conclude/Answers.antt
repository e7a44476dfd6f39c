use Rattle.std.proofs.Common.{◌++◌, ◌+◌, true, false, sym, ap, ap₂, ◌∙◌, subst, List}
use Rattle.std.specs.Prelude.{filter_map}
use Rattle.rpc_records.specs.declared.reply.Job.{Job}
use Rattle.sched_book.specs.Places.{host_credit, user_credit}
use Rattle.sched_book.specs.Step.{IsCaller, job_at, user_name}
use Rattle.sched_book.specs.declared.instance.Place.{Place}
use Rattle.sched_book.specs.declared.world.World.{World}
use Rattle.job_choice.specs.Chosen.{places_of}
use Rattle.quorum_credit.specs.Scores.{credits_in}
use Rattle.quorum_credit.specs.declared.scores.Score.{Score}
use Rattle.sched_machine.specs.Granting.{AreRunBy, FitWithHost}
use Rattle.sched_machine.specs.Totals.{user_credits_in}
use Rattle.sched_machine.proofs.reply.conclude.Given
use Rattle.sched_machine.proofs.reply.conclude.Goals as goal

-- after the jobs are given, the working set is only read
read : (g : Given.Over) (c : goal.In_ok-add_granted g) → g.S.Units.reads c.give.new.working_set c.add_granted.new.working_set
read g c =
    let u = g.met.S.Units in
    u.reads_on _ _ _ c.host_total.ensures.reads (u.reads_on _ _ _ c.user_total.ensures.reads (u.reads_on _ _ _ c.user_name.ensures.reads
    (u.reads_on _ _ _ c.resent_jobs.ensures.reads c.add_granted.ensures.reads)))

pub returns-clause-works : goal.returns-clause-works
returns-clause-works g c = g.met.S.Draft.works_on _ _ _ c.give.ensures.works (g.met.S.Draft.reads_works _ _ (read g c))

pub returns-in_err-add_granted-clause-works : goal.returns-in_err-add_granted-clause-works
returns-in_err-add_granted-clause-works g c =
    let u = g.met.S.Units in
    g.met.S.Draft.works_on _ _ _ c.give.ensures.works (g.met.S.Draft.reads_works _ _
    (u.reads_on _ _ _ c.host_total.ensures.reads (u.reads_on _ _ _ c.user_total.ensures.reads (u.reads_on _ _ _ c.user_name.ensures.reads
    (u.reads_on _ _ _ c.resent_jobs.ensures.reads c.add_granted.ensures.reads)))))

pub returns-in_err-user_credit-clause-works : goal.returns-in_err-user_credit-clause-works
returns-in_err-user_credit-clause-works g c =
    let u = g.met.S.Units in
    g.met.S.Draft.works_on _ _ _ c.give.ensures.works (g.met.S.Draft.reads_works _ _ (u.reads_on _ _ _ c.host_total.ensures.reads c.user_total.ensures.reads))

pub returns-in_err-user_name-clause-works : goal.returns-in_err-user_name-clause-works
returns-in_err-user_name-clause-works g c =
    let u = g.met.S.Units in
    g.met.S.Draft.works_on _ _ _ c.give.ensures.works (g.met.S.Draft.reads_works _ _ (u.reads_on _ _ _ c.host_total.ensures.reads (u.reads_on _ _ _ c.user_total.ensures.reads c.user_name.ensures.reads)))

pub returns-in_err-results-clause-works : goal.returns-in_err-results-clause-works
returns-in_err-results-clause-works g c =
    let u = g.met.S.Units in
    g.met.S.Draft.works_on _ _ _ c.give.ensures.works (g.met.S.Draft.reads_works _ _ (u.reads_on _ _ _ c.host_total.ensures.reads (u.reads_on _ _ _ c.user_total.ensures.reads (u.reads_on _ _ _ c.user_name.ensures.reads c.resent_jobs.ensures.reads))))

pub returns-clause-left : goal.returns-clause-left
returns-clause-left g c = λ honest kept.
    let u = g.met.S.Units in
    let honest_0 = u.stays_honest _ _ (read g c) honest in
    let kept_0 = g.met.S.Draft.works_kept _ _ c.give.ensures.works honest_0 kept in
    u.stays_same _ _ (read g c) honest kept_0 ∙ c.in_ok-give.ensures.left honest_0 kept

pub returns-clause-fits : goal.returns-clause-fits
returns-clause-fits g c = λ honest kept can fits.
    subst (FitWithHost (g.S.Draft.entry c.args.working_set.now) c.args.ready.now.call.number) (sym (g.met.S.Draft.reads_edits _ _ (read g c)))
    (c.in_ok-give.ensures.fits (g.met.S.Units.stays_honest _ _ (read g c) honest) kept can fits)

pub returns-clause-told : goal.returns-clause-told
returns-clause-told g c = λ honest kept called runs.
    let u = g.met.S.Units in
    let draft = g.met.S.Draft in
    let w = g.S.Draft.entry c.args.working_set.now in
    let v = g.S.Units.world c.add_granted.new.working_set in
    let call = c.args.ready.now.call in
    let jobs = c.args.jobs.now in
    let honest_4 = u.stays_honest _ _ c.add_granted.ensures.reads honest in
    let honest_3 = u.stays_honest _ _ c.resent_jobs.ensures.reads honest_4 in
    let honest_2 = u.stays_honest _ _ c.user_name.ensures.reads honest_3 in
    let honest_1 = u.stays_honest _ _ c.user_total.ensures.reads honest_2 in
    let honest_0 = u.stays_honest _ _ c.host_total.ensures.reads honest_1 in
    let kept_0 = draft.works_kept _ _ c.give.ensures.works honest_0 kept in
    let kept_1 = u.stays_kept _ _ c.host_total.ensures.reads honest_1 kept_0 in
    let kept_2 = u.stays_kept _ _ c.user_total.ensures.reads honest_2 kept_1 in
    let kept_3 = u.stays_kept _ _ c.user_name.ensures.reads honest_3 kept_2 in
    let kept_4 = u.stays_kept _ _ c.resent_jobs.ensures.reads honest_4 kept_3 in
    let same_4 = sym (u.stays_same _ _ c.add_granted.ensures.reads honest kept_4) in
    let same_3 = sym (u.stays_same _ _ c.resent_jobs.ensures.reads honest_4 kept_3) ∙ same_4 in
    let same_1 = sym (u.stays_same _ _ c.user_total.ensures.reads honest_2 kept_1) ∙ sym (u.stays_same _ _ c.user_name.ensures.reads honest_3 kept_2) ∙ same_3 in
    let entry_0 = draft.works_entry _ _ c.give.ensures.works honest_0 kept in
    let entry_1 = draft.works_entry _ _ (draft.reads_works _ _ c.host_total.ensures.reads) honest_1 kept_0 ∙ entry_0 in
    let entry_2 = draft.works_entry _ _ (draft.reads_works _ _ c.user_total.ensures.reads) honest_2 kept_1 ∙ entry_1 in
    let entry_3 = draft.works_entry _ _ (draft.reads_works _ _ c.user_name.ensures.reads) honest_3 kept_2 ∙ entry_2 in
    let entry_4 = draft.works_entry _ _ (draft.reads_works _ _ c.resent_jobs.ensures.reads) honest_4 kept_3 ∙ entry_3 in
    record {
      results =
          c.in_ok-add_granted.ensures.answer honest kept_4 (subst (λ (e : World). AreRunBy e call.host jobs) (sym entry_4) runs)
          ∙ ap₂ (λ (js : List Job) (z : World). js ++ filter_map (job_at z call.host false) (places_of jobs))
          (c.in_ok-results.ensures.answer honest_4 kept_3
          ∙ ap₂ (λ (z : World) (ps : List Place). filter_map (job_at z call.host true) ps) same_3 c.as_slice-3.ensures)
          same_4;
      host_credit =
          c.in_ok-host_credit.ensures.answer honest_1 kept_0
          ∙ ap₂ (λ (e : World) (ms : List Score). host_credit e call.number + credits_in ms call.number) entry_0 c.as_slice.ensures;
      user_credit =
          c.in_ok-user_credit.ensures.answer honest_2 kept_1
          ∙ ap₂ (λ (e z : World). user_credit e call.caller.account + user_credits_in z.hosts call.caller.account c.as_slice-2.result.now) entry_1 same_1
          ∙ ap (λ (ms : List Score). user_credit w call.caller.account + user_credits_in v.hosts call.caller.account ms) c.as_slice-2.ensures;
      user_name =
          c.in_ok-user_name.ensures.answer honest_3 kept_2 (subst (λ (e : World). IsCaller e call.caller c.args.request.now) (sym entry_2) called)
          ∙ ap (λ (e : World). user_name e call.caller.account) entry_2;
    }
