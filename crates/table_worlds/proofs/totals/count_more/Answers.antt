use Rattle.std.proofs.Common.{rules, ◌-◌, ◌<◌, length, sym, arith}
use Rattle.sched_book.proofs.Changes.{modify_nth-set, modify_nth-past}
use Rattle.table_worlds.specs.Totals.{more}
use Rattle.table_worlds.proofs.totals.count_more.Goals as goal

pub returns-in_ok-totals : goal.returns-in_ok-totals
returns-in_ok-totals c =
    let within : c.args.host - 1 < length c.args.totals.now = omega arith in
    sym (modify_nth-set (λ t. more t c.args.held c.args.credit) c.args.totals.now c.args.host _ c.in_ok-totals.field-0
    c.if-host-eq0.false within (search rules) c.in_ok-totals.ensures)

pub returns-else-index-totals : goal.returns-else-index-totals
returns-else-index-totals c =
    sym (modify_nth-past (λ t. more t c.args.held c.args.credit) c.args.totals.now c.args.host c.if-host-eq0.false (omega arith))
