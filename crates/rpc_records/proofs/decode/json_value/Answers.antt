-- In `from_slice` UTF-8 is a fact, and in the definition a test.
use Rattle.std.proofs.Common.{◌≡◌, Bool, true, false, cond, Option, None, refl, sym, rules}
use Rattle.std.proofs.lemmas.Str.{is_utf8-from_IsUtf8, IsUtf8-from_is_utf8}
use Rattle.std.specs.Str.{is_utf8}
use Rattle.serde_json.specs.Data.{Data}
use Rattle.rpc_records.specs.Reading.{json_of}
use Rattle.rpc_records.proofs.decode.json_value.Goals as goal

pub returns-in-Ok : goal.returns-in-Ok
unfolding json_of
returns-in-Ok c = let utf8 = is_utf8-from_IsUtf8 _ c.in-Ok.ensures.ok.0 in rw (utf8, c.in-Ok.ensures.ok.1)

unread : (b : Bool) (o : Option Data) → (b ≡ true → o ≡ None) → cond b o None ≡ None
unread true o none = none refl
unread false o none = refl

pub returns-in-Err-2 : goal.returns-in-Err-2
unfolding json_of
returns-in-Err-2 c =
    sym (unread (is_utf8 c.args.text.now) _ (λ utf8. c.in-Err-2.ensures.err (grind (rules, c.is_memory.ensures, c.if-is_memory.false)) (IsUtf8-from_is_utf8 _ utf8)))
