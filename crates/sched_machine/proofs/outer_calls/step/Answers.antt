use Rattle.std.proofs.Common.{Err, ap, rules}
use Rattle.sched_machine.specs.Refusals.{step_refusal}
use Rattle.sched_machine.specs.declared.outer_calls.Refused.TheVariants as refused
use Rattle.sched_machine.proofs.Refusals.{made_is, hosts_full, never_unknown, never_wrong}
use Rattle.sched_machine.proofs.outer_calls.step.Goals as goal

pub returns-in_err-delta-in-Rpc-clause-full : goal.returns-in_err-delta-in-Rpc-clause-full
returns-in_err-delta-in-Rpc-clause-full g c = λ honest kept is.
    let e = c.in_err-delta-in-Rpc.field-0.0 in
    let lacks = c.in_err-delta-in-Rpc.ensures.full honest kept
    (ap Err (hosts_full e (made_is c.from_residual.result (step_refusal e) refused.HostsFull c.from_residual.ensures.1 is))) in
    search rules

pub returns-in_err-delta-in-Rpc-clause-known : goal.returns-in_err-delta-in-Rpc-clause-known
returns-in_err-delta-in-Rpc-clause-known g c =
    let e = c.in_err-delta-in-Rpc.field-0.0 in (
      λ is. never_unknown e (made_is c.from_residual.result (step_refusal e) refused.BadAccount c.from_residual.ensures.1 is),
      λ is. never_wrong e (made_is c.from_residual.result (step_refusal e) refused.BadHost c.from_residual.ensures.1 is),
    )
