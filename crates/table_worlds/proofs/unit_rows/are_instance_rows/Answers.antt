use Rattle.std.proofs.Common.{rules, ◌≡◌, ◌-◌, ◌+◌, ℕ, Some, length, ap, sym, ◌∙◌, refl, arith}
use Rattle.std.specs.Prelude.{slice_get}
use Rattle.std.proofs.lemmas.Option.{slice_get_read}
use Rattle.sched_book.specs.Numbered.{map_from}
use Rattle.sched_book.specs.declared.instance.Instance.{Instance}
use Rattle.table_meaning.specs.Worlds.{instance_row}
use Rattle.table_worlds.proofs.Members.{never}
use Rattle.table_worlds.proofs.UnitRowsRead.{length-map_from, first_more, first_all, one_other}
use Rattle.table_worlds.proofs.unit_rows.are_instance_rows.Goals as goal

pub returns-then-instances-rows : goal.returns-then-instances-rows
returns-then-instances-rows c = λ w b is.
    let f = λ (n : ℕ) (x : Instance). instance_row w b c.args.unit (n - 1) x in
    never (c.args.rows.now ≡ map_from 1 f c.args.instances.now) (λ same.
    let few : length c.args.rows.now ≡ length c.args.instances.now = ap length same ∙ length-map_from f 1 c.args.instances.now in
    omega (arith, few))

pub returns-then-not-branch : goal.returns-then-not-branch
returns-then-not-branch c = λ w b is.
    let i = c.loop-index.index in
    let f = λ (n : ℕ) (x : Instance). instance_row w b c.args.unit (n - 1) x in
    let x = c.index-instances-index.result in
    let r = c.index-rows-index.result in
    let item : slice_get c.args.instances.now i ≡ Some x = slice_get_read c.args.instances.now _ i x refl (omega arith) c.index-instances-index.is in
    let row : slice_get c.args.rows.now i ≡ Some r = slice_get_read c.args.rows.now _ i r refl (omega arith) c.index-rows-index.is in
    never (c.args.rows.now ≡ map_from 1 f c.args.instances.now)
    (one_other f c.args.rows.now c.args.instances.now i r x row item (search rules))

pub loop-index-preserved : goal.loop-index-preserved
loop-index-preserved c = λ w b is.
    let i = c.loop-index.index in
    let f = λ (n : ℕ) (x : Instance). instance_row w b c.args.unit (n - 1) x in
    let x = c.index-instances-index.result in
    let r = c.index-rows-index.result in
    let item : slice_get c.args.instances.now i ≡ Some x = slice_get_read c.args.instances.now _ i x refl (omega arith) c.index-instances-index.is in
    let row : slice_get c.args.rows.now i ≡ Some r = slice_get_read c.args.rows.now _ i r refl (omega arith) c.index-rows-index.is in
    let here : i + 1 - 1 ≡ i = omega arith in
    let own : r ≡ instance_row w b c.args.unit i x = search rules in
    first_more f c.args.rows.now c.args.instances.now i r x row item (own ∙ ap (λ n. instance_row w b c.args.unit n x) (sym here)) (c.loop-index.invariant w b is)

pub returns : goal.returns
returns c = λ w b is.
    let f = λ (n : ℕ) (x : Instance). instance_row w b c.args.unit (n - 1) x in
    let all = first_all f c.args.rows.now c.args.instances.now c.loop-index.index (omega arith) (omega arith) (c.loop-index.invariant w b is) in
    (λ _. all, λ _. refl)
