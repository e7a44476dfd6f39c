use Rattle.std.proofs.Common.{rules, ◌≡◌, refl, subst}
use Rattle.std.specs.Bool.{Decides}
use Rattle.std.proofs.lemmas.Bool.Decides.{Decides-at}
use Rattle.table_meaning.specs.Worlds.{app_place, unit_row}
use Rattle.table_worlds.proofs.SameRows.{unit_same}
use Rattle.table_worlds.proofs.unit_rows.is_row_of_unit.Goals as goal

pub returns : goal.returns
returns c = λ is.
    let w = c.args.world.now in
    let b = c.args.book.now in
    let place : c.in_ok-app.app ≡ app_place w b.unit.app = search rules in
    let own : c.in_ok-own.own ≡ unit_row w c.args.id b = c.in_ok-own.ensures w b b.unit.class_rule refl place is in
    subst (λ r. Decides c.eq.result (c.args.row.now ≡ r)) own (Decides-at _ _ c.eq.ensures (unit_same c.args.row.now c.in_ok-own.own))
