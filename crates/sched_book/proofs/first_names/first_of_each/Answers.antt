use Rattle.std.proofs.Common.{◌++◌, ap, ◌∙◌, map}
use Rattle.texts.specs.SeenSet.{lent, has_text}
use Rattle.sched_book.specs.Firsts.{first_unseen}
use Rattle.sched_book.proofs.Firsts.{first_unseen-none}
use Rattle.sched_book.proofs.first_names.first_of_each.Goals as goal

pub loop-item-init : goal.loop-item-init
loop-item-init g c =
    let text = g.T.Named.name_of in
    ap (λ firsts. map (λ x. x.now) firsts ++ first_unseen text (has_text c.new-seen.result) c.args.items.now) c.new-firsts.ensures.items
    ∙ first_unseen-none text (has_text c.new-seen.result) (λ name. c.new-seen.ensures (lent name)) c.args.items.now
