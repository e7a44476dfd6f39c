use Rattle.std.proofs.Common.{◌≡◌, false, List, [], map}
use Rattle.std.specs.List.{AllByRecursion}
use Rattle.sqlite.specs.State.{HasCleanDisk, IsUnchanged, Survives}
use Rattle.sqlite.specs.Held.{state}
use Rattle.sqlite.specs.Given.{HasGiven}
use Rattle.table_meaning.specs.declared.rows.StoredRow.{StoredRow}
use Rattle.table_meaning.specs.Rows.{table_of, columns_of}
use Rattle.table_meaning.specs.Texts.{read_text}
use Rattle.table_rows.specs.Utf8.{HaveUtf8}
use Rattle.table_rows.specs.Visits.{VisitsAll}
use Rattle.table_rows.proofs.visiting.visit_rows.Given as goal

abbrev pub invariant-rows : goal.invariant-rows
invariant-rows g l =
    let old = state g.S.Store l.fn.conn in
    let now = state g.S.Store l.rows.conn.now in
    (l.rows.conn.ghost_name ≡ l.initial.rows.conn.ghost_name) × Survives old now (λ _. ⊥) × (l.fn.conn.in_transaction ≡ false → l.rows.conn.now.in_transaction ≡ false)
    × (HasCleanDisk now → IsUnchanged old now × (all : List StoredRow) × AllByRecursion (λ r. table_of r ≡ l.table) all × HaveUtf8 all × HasGiven g.S.Store (read_text l.table) [] l.rows.conn.now (map columns_of all) × VisitsAll g.V.RowVisitor.takes l.fn.visitor all l.visitor)
