-- A word is UTF-8, so it is read as text.
use Rattle.std.proofs.Common.{◌≡◌, true, rules}
use Rattle.texts.proofs.Words.{IsUtf8-word}
use Rattle.texts.specs.Words.{is_word}
use Rattle.texts.proofs.word.word_of.Goals as goal

pub returns-in-Err : goal.returns-in-Err
returns-in-Err c =
    let word : is_word c.args.text.now ≡ true = search (rules, c.is_word.ensures, c.if-not-is_word.false) in
    absurd (c.in-Err.ensures.cases.0 (IsUtf8-word c.args.text.now word))
