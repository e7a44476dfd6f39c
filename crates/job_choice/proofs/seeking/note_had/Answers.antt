-- What was offered is of the world that the desk represented at the beginning, and the desk was only read since.
use Rattle.std.proofs.Common.{None}
use Rattle.job_choice.proofs.Sought.{had_before}
use Rattle.job_choice.proofs.seeking.note_had.Goals as goal

pub returns-clause-reads : goal.returns-clause-reads
returns-clause-reads g c = λ begun read right.
    let laws = g.met.D.Units in
    c.note_had.ensures.reads begun (laws.reads_on _ _ _ read c.unsent_for.ensures.reads)
    (λ honest kept.
    let honest_offered = c.note_had.ensures.honest honest in
    let honest_begun = laws.stays_honest _ _ c.unsent_for.ensures.reads honest_offered in
    let kept_begun = laws.stays_kept _ _ read honest_begun kept in
    let same = laws.stays_same _ _ read honest_begun kept in
    had_before (g.D.Units.world begun) c.args.account (g.D.Units.world c.args.desk.now) (record { past = c.args.past; first_new = None }) c.unsent_for.new.taker
    c.first_place.result c.in-Some.first_new same c.first_place.ensures (right honest kept)
    (c.in_ok-unsent_for.ensures.all honest_offered kept_begun) c.in-Some.is)
