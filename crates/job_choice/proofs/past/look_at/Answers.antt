use Rattle.std.proofs.Common.{rules, ◌≡◌, true, sym, ap, ◌∙◌, subst}
use Rattle.std.specs.Prelude.{is_some}
use Rattle.job_choice.specs.Past.{known_had, may_look, IsUserPast}
use Rattle.job_choice.proofs.Looked.{look_is, look_known}
use Rattle.job_choice.proofs.past.look_at.Goals as goal

pub returns-clause-answer : goal.returns-clause-answer
returns-clause-answer g c = λ honest kept past.
    subst (IsUserPast (g.D.Units.world c.args.desk.now) c.args.account) (sym c.in_ok-note.ensures)
    (look_is (g.D.Units.world c.args.desk.now) c.args.account c.args.past.now (record { unit = c.args.unit; had = c.in_ok-had.had })
    (c.in_ok-had.ensures.answer honest kept) past)

pub returns-clause-known : goal.returns-clause-known
returns-clause-known g c =
    let may : may_look c.args.past.now ≡ true = search rules in
    ap (λ p. is_some (known_had p c.args.unit)) c.in_ok-note.ensures
    ∙ look_known c.args.past.now (record { unit = c.args.unit; had = c.in_ok-had.had }) may
