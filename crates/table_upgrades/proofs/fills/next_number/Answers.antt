use Rattle.std.proofs.Common.{◌≡◌, IsTrue, Some, None, option_map, slice_get, sym, subst, rules}
use Rattle.sqlite_value.specs.Order.{column}
use Rattle.sqlite.specs.Held.{state}
use Rattle.table_meaning.specs.Rows.{whole}
use Rattle.table_meaning.proofs.NextRows.{next_told}
use Rattle.table_meaning.proofs.StepLemmas.{kept_shown, kept_failed, inside_shown}
use Rattle.table_upgrades.proofs.fills.next_number.Goals as goal

pub returns-in_err-rows-clause-within : goal.returns-in_err-rows-clause-within
returns-in_err-rows-clause-within g c = record { same_reference = search rules; survives = search rules; kept = λ clean inside. kept_failed _ _ _ _ _ (c.in_err-rows.ensures.err clean) }

pub returns-in_default-clause-within : goal.returns-in_default-clause-within
returns-in_default-clause-within g c = record { same_reference = search rules; survives = search rules; kept = λ clean inside. kept_shown _ _ _ _ _ inside (c.in_ok-rows.ensures.ok clean) }

pub returns-in_default-clause-inside : goal.returns-in_default-clause-inside
returns-in_default-clause-inside g c clean inside = subst IsTrue (sym (inside_shown _ _ _ _ _ (c.in_ok-rows.ensures.ok clean))) inside

pub returns-in_default-clause-next : goal.returns-in_default-clause-next
returns-in_default-clause-next g c clean known shaped =
    let old = state g.S.Store c.args.tx.now.conn.now in
    let new = state g.S.Store c.query_all.new.self.conn.now in
    let rows = c.in_ok-rows.rows.items in
    let none : None ≡ option_map (λ r. column r 0) (slice_get rows 0) = search rules in
    next_told c.args.fill old new known shaped c.args.from rows (rw (c.whole.ensures, c.next_text.ensures) at (c.in_ok-rows.ensures.ok clean)) None none

pub returns-in_default-whole-clause-within : goal.returns-in_default-whole-clause-within
returns-in_default-whole-clause-within g c = record { same_reference = search rules; survives = search rules; kept = λ clean inside. kept_shown _ _ _ _ _ inside (c.in_ok-rows.ensures.ok clean) }

pub returns-clause-within : goal.returns-clause-within
returns-clause-within g c = record { same_reference = search rules; survives = search rules; kept = λ clean inside. kept_shown _ _ _ _ _ inside (c.in_ok-rows.ensures.ok clean) }

pub returns-clause-inside : goal.returns-clause-inside
returns-clause-inside g c clean inside = subst IsTrue (sym (inside_shown _ _ _ _ _ (c.in_ok-rows.ensures.ok clean))) inside

pub returns-clause-next : goal.returns-clause-next
returns-clause-next g c clean known shaped =
    let old = state g.S.Store c.args.tx.now.conn.now in
    let new = state g.S.Store c.query_all.new.self.conn.now in
    let rows = c.in_ok-rows.rows.items in
    let first : Some (whole c.in-Ok.number) ≡ option_map (λ r. column r 0) (slice_get rows 0) = search rules in
    next_told c.args.fill old new known shaped c.args.from rows (rw (c.whole.ensures, c.next_text.ensures) at (c.in_ok-rows.ensures.ok clean)) (Some c.in-Ok.number) first
