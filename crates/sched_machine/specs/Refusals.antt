-- Words. The refusal of an outer call, by the error of the call that it makes.
use Rattle.sched_machine.specs.declared.admission.AdmissionError.{AdmissionError}
use Rattle.sched_machine.specs.declared.admission.AdmissionError.TheVariants as admission
use Rattle.sched_machine.specs.declared.outer_calls.Refused.{Refused}
use Rattle.sched_machine.specs.declared.outer_calls.Refused.TheVariants as refused
use Rattle.sched_machine.specs.declared.step_error.StepError.{StepError}
use Rattle.sched_machine.specs.declared.step_error.StepError.TheVariants as step

abbrev pub admission_refusal : AdmissionError → Refused
admission_refusal admission.BadAccount = refused.BadAccount
admission_refusal admission.BadHost = refused.BadHost
admission_refusal (admission.Unavailable cause) = refused.Unavailable cause

abbrev pub step_refusal : StepError → Refused
step_refusal step.HostsFull = refused.HostsFull
step_refusal (step.Unavailable cause) = refused.Unavailable cause
