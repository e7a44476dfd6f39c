use Rattle.std.proofs.Common.{sym, ap, ◌∙◌, rules}
use Rattle.sched_book.specs.Places.{is_before}
use Rattle.table_desk.specs.Skips.{SkipPlaces, covers, first_listed}
use Rattle.table_desk.proofs.Uncovered.{not_early, not_covered, covered_before}
use Rattle.table_desk.proofs.skip.Skip.next.Goals as goal

pub returns-clause-no_earlier : goal.returns-clause-no_earlier
returns-clause-no_earlier c =
    ap (λ p. is_before p c.args.from) c.first_listed.ensures ∙ not_early c.args.from c.as_slice.result.now c.later.result c.later.ensures.no_earlier

pub returns-clause-open : goal.returns-clause-open
returns-clause-open c =
    let f = c.args.self.now in
    let came = c.as_slice.ensures.value ∙ ap (λ (g : SkipPlaces). g.came) c.self.view_is in
    let is = c.first_listed.ensures ∙ ap (first_listed c.args.from c.later.result) came in
    let past = sym (ap (λ (g : SkipPlaces). is_before c.later.result g.place) c.self.view_is) ∙ c.later.ensures.than_the_other in
    ap (covers f) is ∙ not_covered f c.args.from c.later.result past

pub returns-clause-covered : goal.returns-clause-covered
returns-clause-covered c = λ p late before.
    let f = c.args.self.now in
    let came = c.as_slice.ensures.value ∙ ap (λ (g : SkipPlaces). g.came) c.self.view_is in
    let is = c.first_listed.ensures ∙ ap (first_listed c.args.from c.later.result) came in
    covered_before f c.args.from c.later.result (search rules) p late (sym (ap (is_before p) is) ∙ before)
