use Rattle.std.proofs.Common.{◌≡◌, Some, refl, sym, subst, rules}
use Rattle.std.specs.Ordering.{nat_cmp}
use Rattle.sched_book.specs.Desk.{workunit_at}
use Rattle.table_cache.specs.Remembering.{IsUnitOf}
use Rattle.table_cache.proofs.RowsKept.{one_number, holds_with}
use Rattle.table_cache.proofs.Remembered.{found_too}
use Rattle.table_cache.proofs.cache.Cache.remember_units.Goals as goal

pub loop-unit-preserved : goal.loop-unit-preserved
loop-unit-preserved c = λ w calls before all.
    let so_far = c.loop-unit.invariant w calls before all in
    let is : IsUnitOf w c.unit-item.result = subst (IsUnitOf w) (sym c.unit-item.is) (all c.loop-unit.unit-index c.unit-item.result (search rules)) in
    let units = holds_with nat_cmp one_number (λ n u. workunit_at w n ≡ Some u) c.loop-unit.self.units.rows c.remember.new.self c.unit-item.result.place c.unit-item.result.row c.remember.ensures so_far.units is in
    found_too w calls _ _ refl so_far units so_far.names so_far.accounts so_far.keys so_far.skips
