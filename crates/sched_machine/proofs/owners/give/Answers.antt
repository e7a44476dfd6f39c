use Rattle.std.proofs.Common.{rules}
use Rattle.job_choice.specs.Chosen.{places_of}
use Rattle.sched_machine.proofs.Calls.Granted.{classes_known}
use Rattle.sched_machine.proofs.owners.give.Goals as goal

-- the workunits of the jobs exist
pub returns-in_err-take_classes-clause-causes : goal.returns-in_err-take_classes-clause-causes
returns-in_err-take_classes-clause-causes g c honest kept there =
    let draft = g.met.S.Draft in
    let jobs = c.args.jobs.now in
    let before = draft.works_honest _ _ c.take_classes.ensures.works honest in
    let well = draft.works_kept _ _ c.own_all.ensures.works before kept in
    let known = classes_known c.args.host c.args.now (g.S.Units.world c.args.working_set.now) (g.S.Units.world c.own_all.new.working_set) (places_of jobs) jobs
    (c.in_ok-own_all.ensures.left before kept) there in
    let why = draft.works_failing _ _ c.own_all.ensures.works before kept _ (c.in_err-take_classes.ensures.causes honest well known) in
    search (rules, why)
