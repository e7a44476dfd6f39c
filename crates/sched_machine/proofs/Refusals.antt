-- Which error the refusal of an outer call was made from.
use Rattle.std.proofs.Common.{◌≡◌, Result, Ok, Err, IsErrAnd, IsErrOf, refl, sym, ◌∙◌}
use Rattle.sched_machine.specs.Refusals.{admission_refusal, step_refusal}
use Rattle.sched_machine.specs.declared.admission.AdmissionError.{AdmissionError}
use Rattle.sched_machine.specs.declared.admission.AdmissionError.TheVariants as admission
use Rattle.sched_machine.specs.declared.outer_calls.Refused.TheVariants as refused
use Rattle.sched_machine.specs.declared.step_error.StepError.{StepError}
use Rattle.sched_machine.specs.declared.step_error.StepError.TheVariants as step

same_error : {A E : Type 0} (x y : E) → ◌≡◌ {A = Result A E} (Err x) (Err y) → x ≡ y
same_error x y is = cc

-- the refusal made from an error is the one that is returned
pub made_is : {A E : Type 0} (r : Result A E) (made given : E) → IsErrAnd r (λ e. e ≡ made) → IsErrOf r given → made ≡ given
made_is (Ok x) made given is_made is = absurd is_made
made_is (Err e) made given is_made is = sym is_made ∙ same_error e given is

pub account_unknown : (e : AdmissionError) → admission_refusal e ≡ refused.BadAccount → e ≡ admission.BadAccount
account_unknown admission.BadAccount is = refl
account_unknown admission.BadHost is = absurd (let differ : refused.BadHost ≡ refused.BadAccount = is in cc)
account_unknown (admission.Unavailable cause) is = absurd (let differ : refused.Unavailable cause ≡ refused.BadAccount = is in cc)

pub number_wrong : (e : AdmissionError) → admission_refusal e ≡ refused.BadHost → e ≡ admission.BadHost
number_wrong admission.BadAccount is = absurd (let differ : refused.BadAccount ≡ refused.BadHost = is in cc)
number_wrong admission.BadHost is = refl
number_wrong (admission.Unavailable cause) is = absurd (let differ : refused.Unavailable cause ≡ refused.BadHost = is in cc)

pub never_full : (e : AdmissionError) → admission_refusal e ≡ refused.HostsFull → ⊥
never_full admission.BadAccount is = let differ : refused.BadAccount ≡ refused.HostsFull = is in cc
never_full admission.BadHost is = let differ : refused.BadHost ≡ refused.HostsFull = is in cc
never_full (admission.Unavailable cause) is = let differ : refused.Unavailable cause ≡ refused.HostsFull = is in cc

pub hosts_full : (e : StepError) → step_refusal e ≡ refused.HostsFull → e ≡ step.HostsFull
hosts_full step.HostsFull is = refl
hosts_full (step.Unavailable cause) is = absurd (let differ : refused.Unavailable cause ≡ refused.HostsFull = is in cc)

pub never_unknown : (e : StepError) → step_refusal e ≡ refused.BadAccount → ⊥
never_unknown step.HostsFull is = let differ : refused.HostsFull ≡ refused.BadAccount = is in cc
never_unknown (step.Unavailable cause) is = let differ : refused.Unavailable cause ≡ refused.BadAccount = is in cc

pub never_wrong : (e : StepError) → step_refusal e ≡ refused.BadHost → ⊥
never_wrong step.HostsFull is = let differ : refused.HostsFull ≡ refused.BadHost = is in cc
never_wrong (step.Unavailable cause) is = let differ : refused.Unavailable cause ≡ refused.BadHost = is in cc
