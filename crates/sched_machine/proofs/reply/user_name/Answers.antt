use Rattle.std.proofs.Common.{Option, [], sym, ap, ◌∙◌}
use Rattle.std.specs.Prelude.{option_map, unwrap_or}
use Rattle.sched_book.specs.Desk.{account_by_key}
use Rattle.sched_book.specs.declared.desk.Placed.{Placed}
use Rattle.sched_book.specs.declared.rows.Account.{Account}
use Rattle.sched_machine.proofs.Rows.Admitted.{name_is}
use Rattle.sched_machine.proofs.reply.user_name.Goals as goal

-- the name of the account that was found
pub returns-in-Some-clause-answer : goal.returns-in-Some-clause-answer
returns-in-Some-clause-answer g c = λ honest kept caller.
    let w = g.S.Draft.entry c.args.working_set.now in
    ap (λ (found : Option (Placed Account)). unwrap_or (option_map (λ (account : Placed Account). account.row.name) found) [])
    (sym c.in-Some.is ∙ c.in_ok-account_by_key.ensures.answer honest kept ∙ ap (account_by_key w) c.as_str.ensures)
    ∙ name_is w c.args.caller c.args.request.now caller.account

-- empty if none was found
pub returns-in_ok-copied-in-None-clause-answer : goal.returns-in_ok-copied-in-None-clause-answer
returns-in_ok-copied-in-None-clause-answer g c = λ honest kept caller.
    let w = g.S.Draft.entry c.args.working_set.now in
    c.in_ok-copied-in-None.ensures
    ∙ ap (λ (found : Option (Placed Account)). unwrap_or (option_map (λ (account : Placed Account). account.row.name) found) [])
    (sym c.in-None.is ∙ c.in_ok-account_by_key.ensures.answer honest kept ∙ ap (account_by_key w) c.as_str.ensures)
    ∙ name_is w c.args.caller c.args.request.now caller.account
