-- A reply has no float.
use Rattle.std.proofs.Common.{ap, ◌∙◌}
use Rattle.serde_json.specs.Written.{has_float, compact_text}
use Rattle.rpc_records.proofs.Floats.{no_float-reply_json}
use Rattle.rpc_records.specs.Replies.{reply_text_of}
use Rattle.rpc_records.proofs.answers.reply_text.Goals as goal

pub returns : goal.returns
unfolding reply_text_of
returns c =
    let is = c.in_ok-value.ensures in
    c.of.ensures ∙ c.in_ok-to_string.ensures.text (ap has_float is ∙ no_float-reply_json c.args.reply.now) ∙ ap compact_text is
