use Rattle.std.proofs.Common.{Err, ap}
use Rattle.sched_machine.specs.Refusals.{admission_refusal}
use Rattle.sched_machine.specs.declared.outer_calls.Refused.TheVariants as refused
use Rattle.sched_machine.proofs.Refusals.{made_is, account_unknown, number_wrong, never_full}
use Rattle.sched_machine.proofs.outer_calls.admit.Goals as goal

pub returns-in_err-caller_of-clause-bad_account : goal.returns-in_err-caller_of-clause-bad_account
returns-in_err-caller_of-clause-bad_account g c = λ honest kept is.
    let e = c.in_err-caller_of.field-0.0 in
    c.in_err-caller_of.ensures.bad_account honest kept
    (ap Err (account_unknown e (made_is c.from_residual.result (admission_refusal e) refused.BadAccount c.from_residual.ensures.1 is)))

pub returns-in_err-caller_of-clause-bad_host : goal.returns-in_err-caller_of-clause-bad_host
returns-in_err-caller_of-clause-bad_host g c = λ honest kept is.
    let e = c.in_err-caller_of.field-0.0 in
    c.in_err-caller_of.ensures.bad_host honest kept
    (ap Err (number_wrong e (made_is c.from_residual.result (admission_refusal e) refused.BadHost c.from_residual.ensures.1 is)))

pub returns-in_err-caller_of-clause-never_full : goal.returns-in_err-caller_of-clause-never_full
returns-in_err-caller_of-clause-never_full g c = λ is.
    let e = c.in_err-caller_of.field-0.0 in
    never_full e (made_is c.from_residual.result (admission_refusal e) refused.HostsFull c.from_residual.ensures.1 is)
