use Rattle.std.proofs.Common.{◌≡◌, List, refl, subst}
use Rattle.sqlite.specs.Effect.{Database}
use Rattle.sqlite.specs.State.{Survives}
use Rattle.sqlite_trees.specs.Tree.{Trees}
use Rattle.table_meaning.specs.Schema.{no_schema}
use Rattle.table_meaning.specs.declared.rows.StoredRow.{StoredRow}
use Rattle.sqlite.specs.Held.{state}
use Rattle.table_meaning.specs.Steps.{HoldJust}
use Rattle.sched_tables.proofs.NewTables.{new_held, new_kept, new_beside, new_can_be_opened, rest_of_making}
use Rattle.sched_tables.proofs.Reopened.{rest_reopens}
use Rattle.table_rows.specs.Utf8.{HaveUtf8}
use Rattle.sched_tables.proofs.tables.Tables.made_of.Goals as goal

pub returns-in-Ok-clause-new : goal.returns-in-Ok-clause-new
returns-in-Ok-clause-new g c = λ clean.
    let new = state g.S.Store c.create.new.conn in
    new_held c.args.settings new (c.in-Ok.ensures.rest clean) (subst (HoldJust new.committed) c.requires (c.in-Ok.ensures.made clean))

pub returns-in-Ok-clause-held : goal.returns-in-Ok-clause-held
returns-in-Ok-clause-held g c = λ clean.
    let new = state g.S.Store c.create.new.conn in
    let rest = c.in-Ok.ensures.rest clean in
    let just = subst (HoldJust new.committed) c.requires (c.in-Ok.ensures.made clean) in
    (new_kept c.args.settings new rest just c.in-Ok.ensures.idle, new_beside c.args.settings new rest just c.args.settings c.new.result c.new-in-Ok.result refl c.new.ensures c.new-in-Ok.ensures)

pub returns-in-Ok-clause-reopens : goal.returns-in-Ok-clause-reopens
returns-in-Ok-clause-reopens g c = λ sound.
    let new = state g.S.Store c.create.new.conn in
    rest_reopens new c.in-Ok.ensures.open c.in-Ok.ensures.rest (g.met.S.Store.settled c.create.new.conn.store)
    (λ clean. new_can_be_opened c.args.settings new (c.in-Ok.ensures.rest clean) (subst (HoldJust new.committed) c.requires (c.in-Ok.ensures.made clean)) sound (subst HaveUtf8 c.requires c.in-Ok.ensures.utf8))

pub returns-in-Err-clause-rest : goal.returns-in-Err-clause-rest
returns-in-Err-clause-rest g c =
    let old = state g.S.Store c.args.conn in
    let new = state g.S.Store c.create.new.conn in
    rest_of_making g.S.Store c.args.settings c.args.conn c.create.new.conn c.into_store.result c.into_store.ensures.quiet
    (subst (λ (rows : List StoredRow). Survives old new (λ (trees : Trees). (old.now.schema ≡ no_schema) × HaveUtf8 rows × (db : Database) × HoldJust db rows × (trees ≡ db.trees))) c.requires c.create.ensures.crash)
