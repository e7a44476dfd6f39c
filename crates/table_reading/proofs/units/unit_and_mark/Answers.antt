use Rattle.std.proofs.Common.{◌≡◌, Some, None, inl, inr}
use Rattle.sqlite.specs.Effect.{Database}
use Rattle.sqlite.specs.Held.{state}
use Rattle.table_meaning.specs.Rows.{mark_key, columns_of, look_up}
use Rattle.table_meaning.specs.declared.rows.StoredRow.TheVariants as stored
use Rattle.table_meaning.proofs.StepLemmas.{reads_on}
use Rattle.table_reading.proofs.ReadsOn.{known_before, known_after, of_first, refused_on}
use Rattle.table_reading.proofs.units.unit_and_mark.Goals as goal

pub returns-in_err-unit-clause-bad : goal.returns-in_err-unit-clause-bad
returns-in_err-unit-clause-bad g c = λ was.
    refused_on c.from_residual.result _ c.in_err-unit.field-0.0 c.from_residual.ensures.1 (λ is. inl (c.in_err-unit.ensures.bad was.clean was.known is))

pub returns-in_err-mark-clause-reads : goal.returns-in_err-mark-clause-reads
returns-in_err-mark-clause-reads g c =
    reads_on (state g.S.Store c.args.conn.now) (state g.S.Store c.standing_unit.new.conn) (state g.S.Store c.standing_mark.new.conn) c.standing_unit.ensures.reads c.standing_mark.ensures.reads

pub returns-in_err-mark-clause-bad : goal.returns-in_err-mark-clause-bad
returns-in_err-mark-clause-bad g c = λ was.
    let first = state g.S.Store c.args.conn.now in
    let before = state g.S.Store c.standing_unit.new.conn in
    let after = state g.S.Store c.standing_mark.new.conn in
    let kept = c.standing_unit.ensures.reads in
    let read = c.standing_mark.ensures.reads in
    let late = known_after first before after kept read was in
    refused_on c.from_residual-in_err-mark.result _ c.in_err-mark.field-0.0 c.from_residual-in_err-mark.ensures.1
    (λ is. inr (of_first first before after kept read was (λ (d : Database). look_up d.trees (mark_key c.args.id) ≡ None) (c.in_err-mark.ensures.bad late.clean late.known is)))

pub returns-clause-reads : goal.returns-clause-reads
returns-clause-reads g c =
    reads_on (state g.S.Store c.args.conn.now) (state g.S.Store c.standing_unit.new.conn) (state g.S.Store c.standing_mark.new.conn) c.standing_unit.ensures.reads c.standing_mark.ensures.reads

pub returns-clause-found : goal.returns-clause-found
returns-clause-found g c = λ was.
    let first = state g.S.Store c.args.conn.now in
    let before = state g.S.Store c.standing_unit.new.conn in
    let after = state g.S.Store c.standing_mark.new.conn in
    let kept = c.standing_unit.ensures.reads in
    let read = c.standing_mark.ensures.reads in
    let early = known_before first before after kept read was in
    let late = known_after first before after kept read was in (
      c.in_ok-unit.ensures.found early.clean early.known,
      of_first first before after kept read was (λ (d : Database). look_up d.trees (mark_key c.args.id) ≡ Some (columns_of (stored.UnitMark c.in_ok-mark.mark))) (c.in_ok-mark.ensures.found late.clean late.known),
    )
