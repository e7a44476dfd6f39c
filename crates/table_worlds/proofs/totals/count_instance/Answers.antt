use Rattle.std.proofs.Common.{rules, sym, ◌∙◌}
use Rattle.std.proofs.lemmas.Result.{on_ok_weaker}
use Rattle.table_worlds.proofs.TotalsCounted.{none_more, one_more}
use Rattle.table_worlds.proofs.totals.count_instance.Goals as goal

pub returns-in-None : goal.returns-in-None
returns-in-None c = none_more c.args.instance.now c.args.credit c.args.totals.now (sym c.owner_host.ensures ∙ c.in-None.is)

pub returns-in-Some : goal.returns-in-Some
returns-in-Some c =
    on_ok_weaker c.count_more.result (λ counted. counted ∙ one_more c.args.instance.now c.in-Some.host _ c.args.credit c.args.totals.now (sym c.owner_host.ensures ∙ c.in-Some.is) (search rules)) c.count_more.ensures
