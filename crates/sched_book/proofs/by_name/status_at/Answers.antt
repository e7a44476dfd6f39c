use Rattle.std.proofs.Common.{ap, sym, ◌∙◌}
use Rattle.sched_book.specs.Desk.{agreement_at, instances_at}
use Rattle.sched_book.proofs.ReadInParts.{status_found}
use Rattle.sched_book.proofs.by_name.status_at.Goals as goal

-- the three calls read one world
pub returns-clause-answer : goal.returns-clause-answer
returns-clause-answer g c = λ honest kept.
    let u = g.met.U.Units in
    let honest_2 = u.stays_honest _ _ c.instances_of.ensures.reads honest in
    let honest_1 = u.stays_honest _ _ c.agreement_of.ensures.reads honest_2 in
    let kept_1 = u.stays_kept _ _ c.unit.ensures.reads honest_1 kept in
    let kept_2 = u.stays_kept _ _ c.agreement_of.ensures.reads honest_2 kept_1 in
    let same_1 = u.stays_same _ _ c.unit.ensures.reads honest_1 kept in
    let same_2 = u.stays_same _ _ c.agreement_of.ensures.reads honest_2 kept_1 ∙ same_1 in
    c.status.ensures
    ∙ status_found (g.U.Units.world c.args.units.now) c.args.unit c.in-Some-2.agreement c.in-Some.row c.as_slice.result.now
    (sym c.in-Some.is ∙ c.in_ok-row.ensures.answer honest_1 kept)
    (sym c.in-Some-2.is ∙ c.in_ok-agreement.ensures.answer honest_2 kept_1 ∙ ap (λ w. agreement_at w c.args.unit) same_1)
    (c.as_slice.ensures ∙ c.in_ok-instances.ensures.answer honest kept_2 ∙ ap (λ w. instances_at w c.args.unit) same_2)
