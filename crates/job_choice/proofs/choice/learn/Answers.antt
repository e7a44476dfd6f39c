-- Both answers are of the world that the desk represented before.
use Rattle.std.proofs.Common.{subst}
use Rattle.std.specs.Prelude.{OnOk}
use Rattle.std.proofs.lemmas.Result.{on_ok_weaker}
use Rattle.job_choice.specs.Past.{IsUserPast}
use Rattle.job_choice.proofs.choice.learn.Goals as goal

pub returns-clause-answer : goal.returns-clause-answer
returns-clause-answer g c = λ honest kept.
    let laws = g.met.D.Units in
    let honest_asked = laws.stays_honest _ _ c.look_at.ensures.reads honest in
    let kept_asked = laws.stays_kept _ _ c.learn_app.ensures.reads honest_asked kept in
    let same = laws.stays_same _ _ c.learn_app.ensures.reads honest_asked kept in
    on_ok_weaker c.look_at.result
    (λ looked right. let asked = c.in_ok-learn_app.ensures.answer honest_asked kept right in record { past = looked asked.past; apps = asked.apps })
    (subst (λ w. OnOk c.look_at.result (IsUserPast w c.args.host.now.account c.learn_app.new.known.past → IsUserPast w c.args.host.now.account c.look_at.new.past)) same
    (c.look_at.ensures.answer honest kept_asked))
