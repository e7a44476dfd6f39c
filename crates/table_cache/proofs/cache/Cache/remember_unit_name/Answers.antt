use Rattle.std.proofs.Common.{refl, sym, subst, ◌∙◌}
use Rattle.std.specs.Cmp.Lexicographic.{slice_cmp}
use Rattle.std.specs.Ordering.{nat_cmp}
use Rattle.table_cache.specs.Remembering.{IsNameOf}
use Rattle.table_cache.proofs.RowsKept.{one_text, holds_with}
use Rattle.table_cache.proofs.Remembered.{found_too}
use Rattle.table_cache.proofs.cache.Cache.remember_unit_name.Goals as goal

pub returns-in-Ok : goal.returns-in-Ok
returns-in-Ok c = λ w calls read found.
    let unit = c.in-Some.unit in
    let here : IsNameOf w c.in-Ok.key unit = subst (λ name. IsNameOf w name unit) (sym c.in-Ok.ensures) (sym found ∙ c.in-Some.is) in
    let names = holds_with (slice_cmp nat_cmp) one_text (IsNameOf w) c.args.self.now.units.names c.put.new.self c.in-Ok.key unit c.put.ensures read.names here in
    found_too w calls _ _ refl read read.units names read.accounts read.keys read.skips
