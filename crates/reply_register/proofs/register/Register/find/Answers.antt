use Rattle.std.proofs.Common.{◌∙◌}
use Rattle.std.specs.Prelude.{Some, None}
use Rattle.reply_register.proofs.Calls.{found_call}
use Rattle.reply_register.proofs.register.Register.find.Goals as goal

pub returns-in-None : goal.returns-in-None
returns-in-None c = found_call c.self.inside.calls.entries c.args.key.now None c.args.self.now c.in-None.ensures.value c.self.view_is

pub returns-in-Some : goal.returns-in-Some
returns-in-Some c =
    c.as_slice.ensures
    ∙ found_call c.self.inside.calls.entries c.args.key.now (Some c.in-Some.calls.now) c.args.self.now c.in-Some.ensures.value c.self.view_is
