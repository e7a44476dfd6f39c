use Rattle.std.proofs.Common.{sym, ap, ◌∙◌, subst, arith}
use Rattle.std.proofs.lemmas.Result.{IfOk-weaker}
use Rattle.quorum_credit.specs.Tallies.{AreSums}
use Rattle.quorum_credit.proofs.NewQuotas.{are_quotas}
use Rattle.quorum_credit.proofs.host_quotas.new_quotas.Goals as goal

pub returns-clause-answer : goal.returns-clause-answer
returns-clause-answer g c = λ honest kept.
    let scores = c.args.scores.now in
    let sums = c.as_slice.result.now in
    let w = g.S.Units.world c.args.working_set.now in
    let limit = ap (λ s. s.daily_result_quota) (c.settings.ensures kept ∙ sym (ap (λ v. v.settings) (g.met.S.Draft.rest_stays _ kept))) in
    IfOk-weaker c.quotas_in_turn.result _ _
    (λ quotas is.
    are_quotas scores sums w _ quotas (subst (AreSums scores) (sym c.as_slice.ensures.value) c.in_ok-sums.ensures) limit (omega arith) is)
    (c.quotas_in_turn.ensures.answer honest kept)
