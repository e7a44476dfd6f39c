use Rattle.std.proofs.Common.{Ok, ap, ◌∙◌}
use Rattle.sched_book.specs.Places.{host_credit}
use Rattle.sched_book.specs.declared.world.World.{World}
use Rattle.sched_book.proofs.list_desk.ListDeskDesk.credit_of_host.Goals as goal

pub returns-clause-answer : goal.returns-clause-answer
returns-clause-answer c = ap Ok (c.credit.ensures ∙ ap (λ (w : World). host_credit w c.args.host) c.self.view_is)
