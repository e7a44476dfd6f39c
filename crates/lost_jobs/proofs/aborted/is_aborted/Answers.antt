use Rattle.std.proofs.Common.{sym, ap, ◌∙◌}
use Rattle.sched_book.specs.Lost.{is_aborted}
use Rattle.sched_book.specs.Places.{place_named}
use Rattle.lost_jobs.specs.UnitStates.{is_aborted_on}
use Rattle.lost_jobs.proofs.OnUnitStates.{aborted_on-is}
use Rattle.lost_jobs.proofs.aborted.is_aborted.Goals as goal

-- the unit state is read in the world in which the name was looked up
pub returns-clause-answer : goal.returns-clause-answer
returns-clause-answer g c = λ honest kept.
    let u = g.met.S.Units in
    let draft = g.met.S.Draft in
    let host = c.args.host in
    let name = c.args.name.now in
    let place = c.in-Some.place in
    let after = c.place_named.new.units in
    let honest_1 = u.stays_honest _ _ c.read.ensures.reads honest in
    let kept_1 = u.stays_kept _ _ c.place_named.ensures.reads honest_1 kept in
    let same = u.stays_same _ _ c.place_named.ensures.reads honest_1 kept in
    c.is_aborted_on.ensures
    ∙ ap (λ o. is_aborted_on o host place.number) c.unit_state.ensures
    ∙ aborted_on-is (g.S.Draft.entry after) (g.S.Units.world after) host name place _ (draft.rest_stays _ kept_1) (c.in_ok-read.ensures.answer honest kept_1)
    (sym c.in-Some.is ∙ c.in_ok-place.ensures.answer honest_1 kept ∙ sym (ap (λ w. place_named w name) same))
    ∙ ap (λ w. is_aborted w host name) same
