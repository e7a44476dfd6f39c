use Rattle.std.proofs.Common.{ap, sym, subst, ◌∙◌}
use Rattle.std.specs.Ordering.{nat_cmp}
use Rattle.std.specs.Prelude.{option_and_then, slice_get}
use Rattle.table_meaning.specs.declared.rows.StoredRow.TheVariants as stored
use Rattle.table_cache.specs.Carrying.{job_of, with_job}
use Rattle.table_cache.specs.Holding.{holder_of, holders_of, with_holder, AreHeldOf, IsHeldOf}
use Rattle.table_cache.proofs.CreditMoves.{hold_of_none}
use Rattle.table_cache.proofs.HeldMoves.{holders_with}
use Rattle.table_cache.proofs.holding.follow_held.Goals as goal

pub returns-in_default : goal.returns-in_default
returns-in_default c = λ jobs known are. hold_of_none nat_cmp (IsHeldOf (holders_of (with_job jobs (stored.Instance c.args.row.now)))) c.forget_all.new.self c.forget_all.ensures

pub returns : goal.returns
returns c = λ jobs known are.
    let row = c.args.row.now in
    let there = known row.unit_id c.in-Some.instances.now (sym c.in-Some.ensures) row.num in
    let was = sym (ap (option_and_then holder_of) (ap (λ xs. slice_get xs row.num) c.as_slice.ensures ∙ there)) ∙ sym c.holder_at-old.ensures in
    let now = c.holder_put.ensures in
    subst (λ hs. AreHeldOf hs c.move_held.new.held) (ap (with_holder (holders_of jobs) row.unit_id row.num) now ∙ holders_with jobs row.unit_id row.num (job_of (stored.Instance row)))
    (c.move_held.ensures (holders_of jobs) was are)
