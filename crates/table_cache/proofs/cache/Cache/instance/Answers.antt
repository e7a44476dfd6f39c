use Rattle.std.proofs.Common.{◌≡◌, Some, length, refl, sym, ap, ◌∙◌}
use Rattle.std.specs.Prelude.{slice_get}
use Rattle.std.proofs.lemmas.Option.{slice_get_read}
use Rattle.table_cache.proofs.InstanceListed.{instance_listed}
use Rattle.table_cache.proofs.cache.Cache.instance.Goals as goal

pub returns-in_ok-copy_of-in-Some-get : goal.returns-in_ok-copy_of-in-Some-get
returns-in_ok-copy_of-in-Some-get c = λ w calls read.
    let unit = c.args.unit in
    let number = c.args.number in
    let items = c.as_slice.result.now in
    let x = c.in-Some-get.instance.now in
    let at = c.in-Some-get.ensures.lookup in
    let there : slice_get items number ≡ Some x = slice_get_read items (length items) number x refl at.3.0 at.1 in
    let all = c.as_slice.ensures ∙ read.instances unit c.in-Some.instances.now (sym c.in-Some.ensures) in
    sym (instance_listed w unit number) ∙ ap (λ xs. slice_get xs number) (sym all) ∙ there ∙ ap Some (sym c.in_ok-copy_of-in-Some-get.ensures)
