use Rattle.sched_machine.proofs.Credit.Bounds.{credit_is_bounded}
use Rattle.sched_server.proofs.laws.credit_is_bounded.Goals as goal

pub returns : goal.returns
returns c = λ key held points before st. credit_is_bounded held.world st.sound.world
