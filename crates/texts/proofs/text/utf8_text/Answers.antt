-- Bytes are read as text exactly if they are UTF-8.
use Rattle.std.proofs.Common.{arith}
use Rattle.std.proofs.lemmas.Str.{is_utf8-from_IsUtf8, IsUtf8-from_is_utf8}
use Rattle.texts.proofs.text.utf8_text.Goals as goal

pub returns-in-Ok : goal.returns-in-Ok
returns-in-Ok c =
    let is_text = is_utf8-from_IsUtf8 c.args.bytes.now c.in-Ok.ensures.cases.1 in
    let same = c.in-Ok.ensures.cases.0 in
    grind (arith, is_text, same)

pub returns-in-Err : goal.returns-in-Err
returns-in-Err c =
    grind (arith, c.in-Err.ensures.cases.0, IsUtf8-from_is_utf8 c.args.bytes.now)
