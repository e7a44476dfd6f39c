use Rattle.std.proofs.Common.{◌≡◌, sum_by, unsigned_abs, ap, ◌∙◌}
use Rattle.std.proofs.lemmas.Result.{IfOk-weaker}
use Rattle.table_desk.proofs.CreditsListed.{credits_summed}
use Rattle.table_desk.proofs.columns.credit_of_user.Goals as goal

pub returns-clause-answer : goal.returns-clause-answer
returns-clause-answer g c = λ clean is_open rests w tell.
    let summed = credits_summed _ w tell c.args.account c.in_ok-credits.credits (c.in_ok-credits.ensures.credits clean tell.holds.known) in
    IfOk-weaker c.sum_of.result (λ sum. sum ≡ sum_by unsigned_abs c.as_slice.result.now) _ (λ sum is. is ∙ ap (sum_by unsigned_abs) c.as_slice.ensures ∙ summed) c.sum_of.ensures
