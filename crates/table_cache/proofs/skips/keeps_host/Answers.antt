use Rattle.std.proofs.Common.{◌≡◌, Some, option_map, sym, ap, ◌∙◌}
use Rattle.std.specs.Prelude.{option_and_then, slice_get}
use Rattle.sched_book.specs.Places.{host_of}
use Rattle.sched_book.specs.declared.instance.Owner.{Owner}
use Rattle.table_cache.proofs.skips.keeps_host.Goals as goal

pub returns-in-Some : goal.returns-in-Some
returns-in-Some c = λ keeps jobs known x o is owner.
    let unit = c.args.row.now.unit_id in
    let number = c.args.row.now.num in
    let there : slice_get c.in-Some.instances.now number ≡ Some x = known unit c.in-Some.instances.now (sym c.in-Some.ensures) number ∙ is in
    let old : c.host_at.result ≡ Some o.host =
    c.host_at.ensures ∙ ap (option_and_then host_of) (ap (λ xs. slice_get xs number) c.as_slice.ensures ∙ there) ∙ ap (option_map (λ (o : Owner). o.host)) owner in
    c.keeps_number.ensures keeps o.host old
