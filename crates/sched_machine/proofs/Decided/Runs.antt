-- What is decided stays in every run.
use Rattle.sched_machine.specs.Decisions.{UnitsStay, CanonicalsStay, VerdictsStay, StatusesStay, CreditsStay, CreditsAddUp}
use Rattle.sched_machine.specs.Runs.{HoldsInRuns, HoldsAlways}
use Rattle.sched_machine.proofs.Decided.Steps.{step_became}
use Rattle.sched_machine.proofs.Decided.Sums.{sound_credits_add_up}
use Rattle.sched_machine.proofs.Decided.Worlds.{Stays, stays_self, stays_then, world_stays}
use Rattle.sched_machine.proofs.Runs.Between.{holds_in_runs}
use Rattle.sched_machine.proofs.Runs.Users.{always}

runs_stay : HoldsInRuns Stays
runs_stay =
    holds_in_runs Stays stays_self stays_then
    (λ w after c now answer sound step. world_stays w after sound (step_became w after c now answer sound step))

pub units_stay : HoldsInRuns UnitsStay
units_stay w calls turns sound limits trace i j less within = (runs_stay w calls turns sound limits trace i j less within).stands

pub canonicals_stay : HoldsInRuns CanonicalsStay
canonicals_stay w calls turns sound limits trace i j less within = (runs_stay w calls turns sound limits trace i j less within).canonicals

pub verdicts_stay : HoldsInRuns VerdictsStay
verdicts_stay w calls turns sound limits trace i j less within = (runs_stay w calls turns sound limits trace i j less within).verdicts

pub statuses_stay : HoldsInRuns StatusesStay
statuses_stay w calls turns sound limits trace i j less within = (runs_stay w calls turns sound limits trace i j less within).statuses

pub credits_never_fall : HoldsInRuns CreditsStay
credits_never_fall w calls turns sound limits trace i j less within = (runs_stay w calls turns sound limits trace i j less within).credits

-- credits add up in each of its worlds
pub credits_add_up : HoldsAlways CreditsAddUp
credits_add_up = always CreditsAddUp sound_credits_add_up
