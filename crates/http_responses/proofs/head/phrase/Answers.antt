-- The phrase that the table of status codes has.
use Rattle.std.proofs.Common.{◌≤◌, length, subst, sym}
use Rattle.http_responses.specs.Responses.{phrase_of}
use Rattle.http_responses.proofs.Phrases.{length-phrase_of}
use Rattle.http_responses.proofs.head.phrase.Goals as goal

pub returns-in-Some-clause-value : goal.returns-in-Some-clause-value
unfolding phrase_of
returns-in-Some-clause-value c = rw (← c.canonical_reason.ensures.value, c.in-Some.is)

pub returns-in-Some-clause-short : goal.returns-in-Some-clause-short
returns-in-Some-clause-short c = subst (λ n. length n ≤ 40) (sym (returns-in-Some-clause-value c)) (length-phrase_of c.args.status)

pub returns-in-None-clause-value : goal.returns-in-None-clause-value
unfolding phrase_of
returns-in-None-clause-value c = rw (← c.canonical_reason.ensures.value, c.in-None.is)
