use Rattle.std.proofs.Common.{◌∙◌, ap, subst, List}
use Rattle.std.specs.FinMap as map
use Rattle.reply_register.specs.Keeping.{IsKeptWith}
use Rattle.reply_register.specs.declared.kept.Kept.{Kept}
use Rattle.reply_register.proofs.Calls.{one_kept}
use Rattle.reply_register.proofs.register.Register.keep.Goals as goal

pub returns-clause-ok : goal.returns-clause-ok
returns-clause-ok c =
    let P : List Kept → Type 0 = λ older. IsKeptWith c.args.kept older c.in_ok-calls.calls in (
      c.in_ok-calls.calls,
      subst P c.find.ensures c.in_ok-calls.ensures,
      one_kept c.self.inside.calls.entries c.insert.new.self.entries c.args.key c.in_ok-calls.calls c.in_ok-insert.ensures.updates.0
          ∙ ap (λ calls. map.insert calls c.args.key c.in_ok-calls.calls) c.self.view_is,
    )
