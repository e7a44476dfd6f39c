use Rattle.std.proofs.Common.{◌∙◌}
use Rattle.http_messages.proofs.NumberLemmas.{short_number}
use Rattle.http_messages.proofs.numbers.length_in.Goals as goal

pub returns : goal.returns
returns c = c.number_in.ensures ∙ short_number c.args.text.now c.if-text-gt-MOST_LENGTH_DIGITS.false
