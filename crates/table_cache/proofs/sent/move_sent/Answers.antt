use Rattle.std.proofs.Common.{◌≡◌, ap, sym, ◌∙◌, Some, rules}
use Rattle.table_cache.proofs.SentMoves.{sent_stays, sent_more}
use Rattle.table_cache.proofs.sent.move_sent.Goals as goal

pub returns-in-Some-new : goal.returns-in-Some-new
returns-in-Some-new c = λ jobs unit number units numbers x was is are.
    sent_more jobs unit number x units numbers c.args.sent.now c.add_sending.new.sent c.in-Some-new.sending (was ∙ c.in-None.is) (is ∙ c.in-Some-new.is) are c.add_sending.ensures

pub returns-in_default : goal.returns-in_default
returns-in_default c = λ jobs unit number units numbers x was is are. sent_stays jobs unit number x units numbers c.args.sent.now (was ∙ c.in-None.is ∙ sym (is ∙ c.in_default.is)) are

pub returns-in-Some-new-2 : goal.returns-in-Some-new-2
returns-in-Some-new-2 c = λ jobs unit number units numbers x was is are.
    let host : c.in-Some.before.host ≡ c.in-Some-new-2.after.host = search rules in
    let day : c.in-Some.before.day ≡ c.in-Some-new-2.after.day = search rules in
    let same : c.in-Some.before ≡ c.in-Some-new-2.after = λ i. record { host = host i; day = day i } in
    sent_stays jobs unit number x units numbers c.args.sent.now (was ∙ c.in-Some.is ∙ ap Some same ∙ sym (is ∙ c.in-Some-new-2.is)) are
