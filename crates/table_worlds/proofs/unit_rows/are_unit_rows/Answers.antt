use Rattle.std.proofs.Common.{rules, ◌≡◌, ap, refl}
use Rattle.table_meaning.specs.Worlds.{unit_row, mark_row}
use Rattle.table_worlds.specs.declared.unit_rows.UnitRows.{UnitRows}
use Rattle.table_worlds.proofs.unit_rows.are_unit_rows.Goals as goal

pub returns-then-mark : goal.returns-then-mark
returns-then-mark c =
    let w = c.args.world.now in
    let b = c.args.book.now in
    let status = c.in_ok-status.ensures in
    let unit : c.args.rows.now.unit ≡ unit_row w c.args.id b = (c.in_ok-unit.ensures status).0 (search rules) in
    let mark : c.args.rows.now.mark ≡ mark_row c.args.id b = (c.in_ok-mark.ensures b refl).0 (search rules) in
    let instances = rw (c.as_slice.ensures, c.as_slice-2.ensures) at (c.in_ok-instances.ensures w b status) in (
      λ yes. let rows = instances.0 yes in λ i. record { unit = unit i; mark = mark i; instances = rows i },
      λ are. instances.1 (ap (λ (r : UnitRows). r.instances) are),
    )
