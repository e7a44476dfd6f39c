use Rattle.std.proofs.Common.{◌+◌, ◌≡◌, Some, None, sym, subst}
use Rattle.sqlite.specs.Effect.{Database}
use Rattle.sqlite.specs.Held.{state}
use Rattle.table_meaning.specs.Rows.{instance_key, columns_of, look_up}
use Rattle.table_meaning.specs.declared.rows.StoredRow.TheVariants as stored
use Rattle.table_meaning.proofs.StepLemmas.{reads_on}
use Rattle.table_reading.specs.Testing.{AreInstancesFound}
use Rattle.table_reading.proofs.ReadsOn.{known_before, known_after, of_first, refused_on}
use Rattle.table_reading.proofs.UnitsTested.{found_more}
use Rattle.table_reading.proofs.units.instance_rows.Goals as goal

pub loop-number-preserved : goal.loop-number-preserved
loop-number-preserved g c =
    let first = state g.S.Store c.args.conn.now in
    let before = state g.S.Store c.loop-number.conn in
    let after = state g.S.Store c.standing_instance.new.conn in
    let kept = c.loop-number.invariant in
    let read = c.standing_instance.ensures.reads in
    let id = c.args.id in
    let number = c.loop-number.number in
    let row = c.in_ok-row.row in (
      reads_on first before after kept.0 read,
      λ was.
          let late = known_after first before after kept.0 read was in
          let here = of_first first before after kept.0 read was (λ (d : Database). look_up d.trees (instance_key id number) ≡ Some (columns_of (stored.Instance row))) (c.in_ok-row.ensures.found late.clean late.known) in
          subst (AreInstancesFound first.now.trees id (number + 1)) (sym c.in_ok-push.ensures.ok)
          (found_more first.now.trees id number c.loop-number.rows row (kept.1 (known_before first before after kept.0 read was)) here),
    )

pub returns-in_err-row-clause-bad : goal.returns-in_err-row-clause-bad
returns-in_err-row-clause-bad g c = λ was.
    let first = state g.S.Store c.args.conn.now in
    let before = state g.S.Store c.loop-number.conn in
    let after = state g.S.Store c.standing_instance.new.conn in
    let kept = c.loop-number.invariant in
    let read = c.standing_instance.ensures.reads in
    let late = known_after first before after kept.0 read was in
    refused_on c.from_residual.result _ c.in_err-row.field-0.0 c.from_residual.ensures.1
    (λ is. (c.loop-number.number, c.loop-number-test.true, of_first first before after kept.0 read was (λ (d : Database). look_up d.trees (instance_key c.args.id c.loop-number.number) ≡ None) (c.in_err-row.ensures.bad late.clean late.known is)))

pub returns-in_err-row-clause-reads : goal.returns-in_err-row-clause-reads
returns-in_err-row-clause-reads g c =
    reads_on (state g.S.Store c.args.conn.now) (state g.S.Store c.loop-number.conn) (state g.S.Store c.standing_instance.new.conn) c.loop-number.invariant.0 c.standing_instance.ensures.reads
