use Rattle.std.proofs.Common.{rules, ◌≡◌, Some}
use Rattle.sched_book.specs.Places.{nth, host_at}
use Rattle.table_worlds.specs.RowsOf.{having}
use Rattle.table_worlds.proofs.HostTotals.{host_row_counted}
use Rattle.table_worlds.proofs.rows.host_at.Goals as goal

pub returns-in_ok-host_row-in-Some-nth : goal.returns-in_ok-host_row-in-Some-nth
returns-in_ok-host_row-in-Some-nth c = λ books counted.
    let stands : host_at (having c.args.world.now books) c.args.id ≡ Some c.in-Some.host.now = search rules in
    let total : nth c.args.totals.now c.args.id ≡ Some c.in-Some-nth.total.now = search rules in
    host_row_counted (having c.args.world.now books) c.args.totals.now c.args.id c.in-Some.host.now c.in-Some-nth.total.now _ stands total counted (search rules)
