use Rattle.std.proofs.Common.{◌≡◌, ◌+◌, ◌++◌, ◌∷◌, [], Some, length, sym, subst, rules, arith}
use Rattle.std.specs.Prelude.{slice_get, slice_index_or}
use Rattle.std.proofs.lemmas.Option.{slice_get-get_or}
use Rattle.sqlite.specs.Effect.{Database}
use Rattle.sqlite.specs.Held.{state}
use Rattle.table_meaning.proofs.StepLemmas.{reads_on}
use Rattle.table_reading.specs.Testing.{PassesAt, AreTested}
use Rattle.table_reading.proofs.NoneDue.{lowered_more}
use Rattle.table_reading.proofs.ReadsOn.{known_before, known_after, shows_first, of_first, refused_on}
use Rattle.table_reading.proofs.UnitsTested.{tested_more, names_more, counted_more, counted_all, stands_next, name_is_new}
use Rattle.table_reading.proofs.units.test_units.Goals as goal

pub loop-index-preserved : goal.loop-index-preserved
loop-index-preserved g c =
    let first = state g.S.Store c.args.conn.now in
    let before = state g.S.Store c.loop-index.conn in
    let after = state g.S.Store c.test_unit.new.conn in
    let kept = c.loop-index.invariant in
    let read = c.test_unit.ensures.reads in
    let w = c.args.world.now in
    let counts = c.args.counts.now in
    let i = c.loop-index.index in
    let n = slice_index_or counts i 0 in (
      reads_on first before after kept.0 read,
      λ was.
          let so_far = kept.1 (known_before first before after kept.0 read was) in
          let one = c.in_ok-test_unit.ensures.stands (known_after first before after kept.0 read was) in
          let count : slice_get counts i ≡ Some n = slice_get-get_or counts i 0 (omega arith) in
          let id : c.in-Ok.id ≡ i + 1 = search rules in
          let stands = subst (λ k. PassesAt first.now.trees w k n one.0) id (of_first first before after kept.0 read was (λ (d : Database). PassesAt d.trees w c.in-Ok.id n one.0) one.1) in (
            so_far.0 ++ one.0 ∷ [],
            tested_more first.now.trees w counts i n so_far.0 one.0 c.loop-index.names so_far.1 count stands so_far.2 one.2,
            names_more c.loop-index.names c.test_unit.new.names so_far.0 one.0 so_far.2 one.3,
            counted_more w.apps c.args.totals.now c.loop-index.totals c.test_unit.new.totals so_far.0 one.0 so_far.3 one.4,
            lowered_more c.args.due_from.now c.loop-index.due_from c.test_unit.new.due_from so_far.0 one.0 so_far.4 one.5,
          ),
    )

pub returns-clause-stand : goal.returns-clause-stand
returns-clause-stand g c = λ was.
    let first = state g.S.Store c.args.conn.now in
    let w = c.args.world.now in
    let counts = c.args.counts.now in
    let all = c.loop-index.invariant.1 was in
    let end : c.loop-index.index ≡ length counts = omega arith in
    (all.0, subst (λ k. AreTested first.now.trees w counts k all.0) end all.1, counted_all w.apps c.args.totals.now c.loop-index.totals all.0 all.3, all.4)

pub returns-in_err-test_unit-clause-bad : goal.returns-in_err-test_unit-clause-bad
returns-in_err-test_unit-clause-bad g c = λ was.
    let first = state g.S.Store c.args.conn.now in
    let before = state g.S.Store c.loop-index.conn in
    let after = state g.S.Store c.test_unit.new.conn in
    let kept = c.loop-index.invariant in
    let read = c.test_unit.ensures.reads in
    let late = known_after first before after kept.0 read was in
    let so_far = kept.1 (known_before first before after kept.0 read was) in
    let w = c.args.world.now in
    let counts = c.args.counts.now in
    let i = c.loop-index.index in
    let n = slice_index_or counts i 0 in
    let count : slice_get counts i ≡ Some n = slice_get-get_or counts i 0 (omega arith) in
    let id : c.in-Ok.id ≡ i + 1 = search rules in
    refused_on c.from_residual.result _ c.in_err-test_unit.field-0.0 c.from_residual.ensures.1
    (λ is others stand.
    let b = stands_next first.now.trees w counts others stand i n count in
    let here = subst (λ (d : Database). PassesAt d.trees w c.in-Ok.id n b.0) (sym (shows_first first before after kept.0 read was)) (subst (λ k. PassesAt first.now.trees w k n b.0) (sym id) b.2) in
    name_is_new first.now.trees w counts others stand i n so_far.0 b.0 c.loop-index.names so_far.1 count b.1 so_far.2 (c.in_err-test_unit.ensures.bad late is b.0 here))
