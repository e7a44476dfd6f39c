use Rattle.std.proofs.Common.{Some, true, sym, ap, ◌∙◌, rules}
use Rattle.sched_book.specs.Count.{has_failed}
use Rattle.sched_book.specs.Places.{instance_at, status_at}
use Rattle.lost_jobs.proofs.Standing.{aborted-is}
use Rattle.lost_jobs.proofs.outer_calls.is_aborted_in.Goals as goal

-- the three calls read one world
pub returns-clause-answer : goal.returns-clause-answer
returns-clause-answer g c = λ honest kept.
    let u = g.met.U.Units in
    let place = c.in-Some.place in
    let honest_2 = u.stays_honest _ _ c.status_at.ensures.reads honest in
    let honest_1 = u.stays_honest _ _ c.instance.ensures.reads honest_2 in
    let kept_1 = u.stays_kept _ _ c.place_named.ensures.reads honest_1 kept in
    let kept_2 = u.stays_kept _ _ c.instance.ensures.reads honest_2 kept_1 in
    let same_1 = u.stays_same _ _ c.place_named.ensures.reads honest_1 kept in
    let same_2 = u.stays_same _ _ c.instance.ensures.reads honest_2 kept_1 ∙ same_1 in
    c.has_failed.ensures
    ∙ ap has_failed (c.in_ok-status_at.ensures.answer honest kept_2 ∙ ap (λ w. status_at w place.unit) same_2)
    ∙ aborted-is (g.U.Units.world c.args.units.now) c.args.host c.args.name.now place (Some c.in-Some-2.instance) true
    (sym c.in-Some.is ∙ c.in_ok-place.ensures.answer honest_1 kept)
    (sym c.in-Some-2.is ∙ c.in_ok-instance.ensures.answer honest_2 kept_1 ∙ ap (λ w. instance_at w place) same_1)
    (search rules)
