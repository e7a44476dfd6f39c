use Rattle.sched_book.proofs.Bounded.{sound_is_bounded}
use Rattle.sched_book.proofs.laws.sound_is_bounded.Goals as goal

pub returns : goal.returns
returns c = sound_is_bounded
