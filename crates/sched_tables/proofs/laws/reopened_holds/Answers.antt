use Rattle.sched_tables.specs.StopLaws.{found_is_held}
use Rattle.sched_tables.proofs.laws.reopened_holds.Goals as goal

pub returns : goal.returns
returns g c = λ old t kept sound h found same. found_is_held _ _ _ h kept.0 sound found same
