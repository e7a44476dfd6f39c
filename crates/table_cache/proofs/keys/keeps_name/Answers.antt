use Rattle.std.proofs.Common.{Some, ap, sym, ◌∙◌}
use Rattle.std.proofs.lemmas.Slice.Eq.{bytes_eq-Decides}
use Rattle.table_cache.proofs.keys.keeps_name.Goals as goal

pub returns-in-Some : goal.returns-in-Some
returns-in-Some c = λ keeps titles known.
    let unit = c.in-Some.unit.now in
    known c.args.row.now.id unit (sym c.in-Some.ensures) ∙ ap Some ((bytes_eq-Decides unit.name c.args.row.now.name).0 (sym c.eq.ensures ∙ keeps))
