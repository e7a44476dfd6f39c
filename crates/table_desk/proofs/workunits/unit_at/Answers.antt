use Rattle.std.proofs.Common.{◌≡◌, Some, None, option_map, ap, ◌∙◌, rules, arith}
use Rattle.sqlite.specs.Effect.{Database}
use Rattle.sqlite.specs.Held.{state}
use Rattle.sqlite.specs.State.{HasCleanDisk}
use Rattle.table_meaning.specs.declared.rows.StoredUnit.{StoredUnit}
use Rattle.table_meaning.specs.declared.rows.StoredUnitMark.{StoredUnitMark}
use Rattle.table_meaning.specs.declared.rows.StoredRow.TheVariants as stored
use Rattle.table_meaning.specs.Rows.{columns_of, mark_key, look_up}
use Rattle.table_desk.proofs.Found.{no_unit, unit_found}
use Rattle.table_desk.proofs.ReadLater.{shown_later, tell_later}
use Rattle.table_desk.proofs.workunits.unit_at.Goals as goal

pub returns-in_default-clause-answer : goal.returns-in_default-clause-answer
returns-in_default-clause-answer g c = λ clean is_open rests w tell same.
    let none : None ≡ c.in_ok-row.field-0 = search rules in
    no_unit _ w tell c.args.unit (ap (option_map (λ (u : StoredUnit). columns_of (stored.Unit u))) none ∙ c.in_ok-row.ensures.row clean tell.holds.known)

pub returns-clause-answer : goal.returns-clause-answer
returns-clause-answer g c = λ clean is_open rests w tell same.
    let first = state g.S.Store c.args.conn.now in
    let mid = state g.S.Store c.unit_of.new.conn in
    let read = c.mark_of.ensures.reads in
    let early : HasCleanDisk mid = omega (arith, read.survives.clean, clean) in
    let was_open = read.was_open clean is_open in
    let later = tell_later first mid c.unit_of.ensures.reads early was_open rests w tell in
    let found : Some c.in-Some.row ≡ c.in_ok-row.field-0 = search rules in
    let marked : Some c.in-Some-2.mark ≡ c.in_ok-mark.field-0 = search rules in
    unit_found _ w tell c.args.apps.now same c.args.unit c.in-Some.row c.in-Some-2.mark c.in_ok-workunit.field-0
    (ap (option_map (λ (u : StoredUnit). columns_of (stored.Unit u))) found ∙ c.in_ok-row.ensures.row early tell.holds.known)
    (ap (option_map (λ (m : StoredUnitMark). columns_of (stored.UnitMark m))) marked ∙ c.in_ok-mark.ensures.row clean later.holds.known
    ∙ ap (λ (db : Database). look_up db.trees (mark_key c.args.unit)) (shown_later first mid c.unit_of.ensures.reads early was_open rests))
    c.in_ok-workunit.ensures.read
