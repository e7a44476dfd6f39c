use Rattle.std.proofs.Common.{Some, true, sym, ap, ◌∙◌, ◌++◌}
use Rattle.std.specs.Prelude.{filter}
use Rattle.std.proofs.lemmas.List.{append-nil, drop_all}
use Rattle.sched_book.specs.Lost.{lost}
use Rattle.lost_jobs.specs.Holding.{is_missing}
use Rattle.lost_jobs.proofs.Holding.{unlisted_is, lost_is}
use Rattle.lost_jobs.proofs.missing.lost_on.Goals as goal

pub returns-clause-answer : goal.returns-clause-answer
returns-clause-answer g c = λ honest kept held no_more.
    let here = g.S.Units.world c.args.working_set.now in
    let set = c.in_ok-listed-in-Some.listed in
    let names = c.as_slice.result.now in
    let missing = is_missing here c.args.host set in
    let settings = ap (λ v. v.settings) (g.met.S.Draft.rest_stays _ kept) ∙ sym (c.settings.ensures kept) in
    let resends = ap (λ s. s.resend_lost_results) settings ∙ c.if-not-settings.false in
    sym (append-nil c.loop-place.missing)
    ∙ ap (λ left. c.loop-place.missing ++ filter missing left) (sym (drop_all c.loop-place.place-index c.args.held.now c.loop-place-test.false))
    ∙ c.loop-place.invariant.told honest kept
    ∙ ap (filter missing) held
    ∙ unlisted_is (g.S.Draft.entry c.args.working_set.now) here c.args.host set names c.in_ok-listed-in-Some.ensures no_more
    ∙ sym (lost_is here true c.args.host (Some names) resends)
    ∙ ap (lost here c.args.host) (ap Some c.as_slice.ensures ∙ sym c.in-Some.is)
