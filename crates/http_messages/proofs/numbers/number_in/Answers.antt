use Rattle.std.proofs.Common.{◌≡◌, sym, true}
use Rattle.http_messages.specs.Numbers.{are_digits}
use Rattle.texts.proofs.Digits.{same_text, some_text}
use Rattle.http_messages.proofs.NumberLemmas.{all_digits, digits_read}
use Rattle.http_messages.proofs.numbers.number_in.Goals as goal

pub returns-in_default : goal.returns-in_default
returns-in_default c = absurd (some_text c.args.text.now c.in_default.ensures (all_digits c.args.text.now (sym c.if-not-are_digits.ensures)))

pub returns-in-Err : goal.returns-in-Err
returns-in-Err c =
    let digits : are_digits c.args.text.now ≡ true = sym c.if-not-are_digits.ensures in
    let same = same_text c.args.text.now c.in-Some.digits.now c.in-Some.ensures (all_digits c.args.text.now digits) in
    let value = rw same at c.parse.ensures.value.0 in
    rw c.in-Err.is at (digits_read c.args.text.now c.parse.result value digits)
