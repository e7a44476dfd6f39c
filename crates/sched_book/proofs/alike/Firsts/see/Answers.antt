use Rattle.std.proofs.Common.{get_or, sym, ap, ◌∙◌, subst}
use Rattle.sched_book.specs.Alike.{AreFirsts}
use Rattle.sched_book.proofs.FirstAlike.{seen_before, seen_first}
use Rattle.sched_book.proofs.alike.Firsts.see.Goals as goal

pub returns-in-Ok-clause-value : goal.returns-in-Ok-clause-value
returns-in-Ok-clause-value c = λ a are text.
    ap (λ l. get_or l c.in-Ok.spot 0) c.as_slice.ensures.value
    ∙ (seen_before a c.args.instances.now c.args.reports.now c.args.self.now.numbers.items c.args.index c.requires.within are text c.output_at.result.now c.output_at.ensures
    c.in-Ok.spot c.in-Ok.ensures.within (c.in-Ok.ensures.place 0)).value

pub returns-in-Ok-clause-seen : goal.returns-in-Ok-clause-seen
returns-in-Ok-clause-seen c = λ a are text.
    (seen_before a c.args.instances.now c.args.reports.now c.args.self.now.numbers.items c.args.index c.requires.within are text c.output_at.result.now c.output_at.ensures
    c.in-Ok.spot c.in-Ok.ensures.within (c.in-Ok.ensures.place 0)).seen

pub returns-in-Err-clause-value : goal.returns-in-Err-clause-value
returns-in-Err-clause-value c = λ a are text.
    (seen_first a c.args.instances.now c.args.reports.now c.args.self.now.numbers.items c.args.index c.requires.within are text c.output_at.result.now c.output_at.ensures
    c.in-Err.spot c.in-Err.ensures.within c.in-Err.ensures.place).value

pub returns-in-Err-clause-new : goal.returns-in-Err-clause-new
returns-in-Err-clause-new c = λ a are text is.
    (seen_first a c.args.instances.now c.args.reports.now c.args.self.now.numbers.items c.args.index c.requires.within are text c.output_at.result.now c.output_at.ensures
    c.in-Err.spot c.in-Err.ensures.within c.in-Err.ensures.place).new

pub returns-in-Err-clause-seen : goal.returns-in-Err-clause-seen
returns-in-Err-clause-seen c = λ a are text.
    subst (AreFirsts a c.args.instances.now _) (sym c.insert.ensures.items)
    (seen_first a c.args.instances.now c.args.reports.now c.args.self.now.numbers.items c.args.index c.requires.within are text c.output_at.result.now c.output_at.ensures
    c.in-Err.spot c.in-Err.ensures.within c.in-Err.ensures.place).seen
