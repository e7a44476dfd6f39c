-- Everything that was read and offered is of the world that the desk represented at the beginning.
use Rattle.std.proofs.Common.{◌≡◌}
use Rattle.sched_book.specs.Grant.{Asking}
use Rattle.job_choice.proofs.Taking.{chosen_at, past_after}
use Rattle.job_choice.proofs.choice.choose.Goals as goal

-- the desk was unavailable while the front was sought
pub returns-in_err-note_had-clause-reads : goal.returns-in_err-note_had-clause-reads
returns-in_err-note_had-clause-reads g c =
    let laws = g.met.D.Units in
    c.note_had.ensures.reads c.args.desk.now (laws.reads_on _ _ _ c.read_limits.ensures.reads c.offer_all.ensures.reads)
    (λ honest kept.
    let honest_offered = c.note_had.ensures.honest honest in
    let honest_read = laws.stays_honest _ _ c.offer_all.ensures.reads honest_offered in
    let kept_read = laws.stays_kept _ _ c.read_limits.ensures.reads honest_read kept in
    let same = laws.stays_same _ _ c.read_limits.ensures.reads honest_read kept in
    past_after (g.D.Units.world c.args.desk.now) (g.D.Units.world c.read_limits.new.desk) c.begin-choosing.result c.offer_all.new.choosing.known.past
    same c.begin-choosing.ensures (c.in_ok-offer_all.ensures.past honest_offered kept_read))

pub returns-clause-reads : goal.returns-clause-reads
returns-clause-reads g c =
    let laws = g.met.D.Units in
    c.note_had.ensures.reads c.args.desk.now (laws.reads_on _ _ _ c.read_limits.ensures.reads c.offer_all.ensures.reads)
    (λ honest kept.
    let honest_offered = c.note_had.ensures.honest honest in
    let honest_read = laws.stays_honest _ _ c.offer_all.ensures.reads honest_offered in
    let kept_read = laws.stays_kept _ _ c.read_limits.ensures.reads honest_read kept in
    let same = laws.stays_same _ _ c.read_limits.ensures.reads honest_read kept in
    past_after (g.D.Units.world c.args.desk.now) (g.D.Units.world c.read_limits.new.desk) c.begin-choosing.result c.offer_all.new.choosing.known.past
    same c.begin-choosing.ensures (c.in_ok-offer_all.ensures.past honest_offered kept_read))

pub returns-clause-answer : goal.returns-clause-answer
returns-clause-answer g c = λ honest kept.
    let laws = g.met.D.Units in
    let asking : Asking = record { number = c.args.number; host = c.args.host.now; before = c.args.before; held = c.args.held; asked = c.args.asked; now = c.args.now } in
    let honest_offered = c.note_had.ensures.honest honest in
    let honest_read = laws.stays_honest _ _ c.offer_all.ensures.reads honest_offered in
    let kept_read = laws.stays_kept _ _ c.read_limits.ensures.reads honest_read kept in
    let same : g.D.Units.world c.read_limits.new.desk ≡ g.D.Units.world c.args.desk.now =
    laws.stays_same _ _ c.read_limits.ensures.reads honest_read kept in
    chosen_at (g.D.Units.world c.args.desk.now) asking
    (g.D.Units.world c.read_limits.new.desk) c.in_ok-limits.limits c.still_wanted.result c.day.result
    c.begin-choosing.result c.offer_all.new.choosing c.finish.result same c.day.ensures
    (c.in_ok-limits.ensures.answer honest_read kept) c.still_wanted.ensures c.begin-choosing.ensures
    (c.in_ok-offer_all.ensures.answer honest_offered kept_read) c.finish.ensures.jobs c.finish.ensures.end_word
