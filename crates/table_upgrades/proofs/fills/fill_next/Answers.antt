use Rattle.std.proofs.Common.{◌≡◌, ◌+◌, None, Some, sym, subst, rules, arith}
use Rattle.sqlite.specs.Held.{state}
use Rattle.sqlite.specs.State.{HasCleanDisk}
use Rattle.table_meaning.specs.Fills.{Filled, AllFilled}
use Rattle.table_meaning.proofs.Filling.{skipped, all_filled}
use Rattle.table_upgrades.proofs.fills.fill_next.Goals as goal

pub returns-in_default-clause-fills : goal.returns-in_default-clause-fills
returns-in_default-clause-fills g c clean inside start contents rows fit filled =
    let f = c.args.fill in
    let old = (state g.S.Store c.args.tx.now.conn.now).now in
    let none : c.in_ok-number.field-0 ≡ None = search rules in
    let told = (rw none at c.in_ok-number.ensures.next) clean filled.holds.known.schema filled.kept.ordered in
    subst (λ db. AllFilled f start db contents rows) (sym told.0) (all_filled f c.args.from old told.1 start contents rows fit filled)

pub returns-clause-fills : goal.returns-clause-fills
returns-clause-fills g c clean inside start contents rows fit filled =
    let f = c.args.fill in
    let old = (state g.S.Store c.args.tx.now.conn.now).now in
    let mid = c.next_number.new.tx.conn.now in
    let number = c.in-Some.number in
    let some : c.in_ok-number.field-0 ≡ Some number = search rules in
    let early : HasCleanDisk (state g.S.Store mid) = omega (arith, c.fill_one.ensures.within.survives.clean) in
    let told = (rw some at c.in_ok-number.ensures.next) early filled.holds.known.schema filled.kept.ordered in
    let here = subst (λ db. Filled f number start db contents rows) (sym told.0) (skipped f c.args.from number old told.1 start contents rows fit filled) in
    let after : c.in-Some-checked_add.next ≡ number + 1 = search rules in
    subst (λ n. Filled f n start (state g.S.Store c.fill_one.new.tx.conn.now).now contents rows) (sym after) (c.in_ok-fill_one.ensures.fills clean (c.in_ok-number.ensures.inside early inside) start contents rows fit here)
