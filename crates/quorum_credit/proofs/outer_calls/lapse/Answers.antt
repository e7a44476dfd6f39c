use Rattle.std.proofs.Common.{sym, ap, ◌∙◌, subst}
use Rattle.std.proofs.lemmas.Result.{MatchResult-weaker}
use Rattle.sched_book.specs.Sound.{Sound}
use Rattle.sched_book.specs.declared.world.World.{World}
use Rattle.quorum_credit.specs.Late.{AreHeldInTurn}
use Rattle.quorum_credit.proofs.LateOnes.{overdue_in_turn}
use Rattle.quorum_credit.proofs.outer_calls.lapse.Goals as goal

-- what is overdue is held
pub returns-clause-causes : goal.returns-clause-causes
returns-clause-causes g c = λ honest kept sound.
    let laws = g.met.D.Units in
    let world = g.D.Units.world c.args.desk.now in
    let honest_read = laws.stays_honest _ _ c.lapse_places.ensures.reads honest in
    let kept_read = laws.stays_kept _ _ c.due_before.ensures.reads honest_read kept in
    let same = laws.stays_same _ _ c.due_before.ensures.reads honest_read kept in
    let places = c.as_slice.ensures ∙ c.in_ok-places.ensures.answer honest_read kept in
    let turns = subst (λ (w : World). AreHeldInTurn w c.as_slice.result.now) (sym same)
    (subst (AreHeldInTurn world) (sym places) (overdue_in_turn world c.args.now)) in
    MatchResult-weaker c.lapse_places.result (c.lapse_places.ensures.causes honest kept_read (subst Sound (sym same) sound) turns)
    (λ edits told. told) (λ why told. laws.stays_failing _ _ c.due_before.ensures.reads honest_read kept why told)
