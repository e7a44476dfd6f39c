use Rattle.std.proofs.Common.{ap, ◌∙◌, rules}
use Rattle.std.specs.Prelude.{slice_get}
use Rattle.table_cache.proofs.SentMoves.{is_renewed, is_next}
use Rattle.table_cache.proofs.sent.renew.Goals as goal

pub returns-then-number-len : goal.returns-then-number-len
returns-then-number-len c = λ _ at. ap (λ xs. slice_get xs at) c.replace.ensures ∙ is_renewed c.args.number c.args.renewed c.args.instances.now (search rules) at

pub returns : goal.returns
returns c = λ could at. ap (λ xs. slice_get xs at) (search rules) ∙ is_next c.args.number c.args.renewed c.args.instances.now (search rules) at
