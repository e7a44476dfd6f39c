use Rattle.std.proofs.Common.{◌≡◌, refl, sym, subst, rules, arith}
use Rattle.sqlite_trees.specs.Tree.{Trees}
use Rattle.sqlite.specs.Effect.{Database}
use Rattle.sqlite.specs.Held.{state}
use Rattle.sqlite.specs.State.{HasCleanDisk, Survives}
use Rattle.sqlite.proofs.StateLemmas.{survives_then}
use Rattle.sqlite.proofs.Callers.{survives_begin}
use Rattle.table_meaning.specs.Schema.{no_schema}
use Rattle.table_meaning.specs.Steps.{HoldJust}
use Rattle.table_rows.specs.Utf8.{HaveUtf8}
use Rattle.table_rows.proofs.definitions.create.Goals as goal

pub returns-clause-made : goal.returns-clause-made
returns-clause-made g c clean =
    let mid = c.make_tables.new.tx.conn.now in
    let end = c.commit.new.self.0 in
    let begun = c.transaction-tx.ensures.begun in
    let same : end ≡ c.conn-2-1.given.0 = search rules in
    let late : HasCleanDisk (state g.S.Store end) = search rules in
    let early : HasCleanDisk (state g.S.Store mid) = omega (arith, c.commit.ensures.survives.clean) in
    let sound = (c.is_empty.ensures.live ((rw begun at c.in_ok-make_tables.ensures.was_open) early)).0 in
    let made = (rw begun at c.in_ok-make_tables.ensures.made) early refl (search rules) sound in
    subst (λ h. HoldJust (state g.S.Store h).committed c.args.rows.now) same (subst (λ db. HoldJust db c.args.rows.now) (sym (c.in_ok-commit.ensures.ok late).1.committed_is) made.1)

pub returns-clause-crash : goal.returns-clause-crash
returns-clause-crash g c =
    let old = c.args.conn.now in
    let mid = c.make_tables.new.tx.conn.now in
    let end = c.commit.new.self.0 in
    let begun = c.transaction-tx.ensures.begun in
    let same : end ≡ c.conn-2-1.given.0 = search rules in
    let P = λ (trees : Trees). ((state g.S.Store old).now.schema ≡ no_schema) × HaveUtf8 c.args.rows.now × (db : Database) × HoldJust db c.args.rows.now × (trees ≡ db.trees) in
    let whole = survives_then (state g.S.Store old) (state g.S.Store mid) (state g.S.Store end) _ _ P (λ _ db none. absurd none)
    (λ clean db is.
    let early : HasCleanDisk (state g.S.Store mid) = omega (arith, c.commit.ensures.survives.clean) in
    let sound = (c.is_empty.ensures.live ((rw begun at c.in_ok-make_tables.ensures.was_open) early)).0 in
    let none : (state g.S.Store old).now.schema ≡ no_schema = search rules in
    (none, c.in_ok-make_tables.ensures.utf8, _, ((rw begun at c.in_ok-make_tables.ensures.made) early refl none sound).1, is))
    (survives_begin g.S.Store old (state g.S.Store mid) _ (rw begun at c.make_tables.ensures.survives)) c.commit.ensures.survives in
    subst (λ h. Survives (state g.S.Store old) (state g.S.Store h) P) same whole

pub returns-in_err-commit-clause-crash : goal.returns-in_err-commit-clause-crash
returns-in_err-commit-clause-crash g c =
    let old = c.args.conn.now in
    let mid = c.make_tables.new.tx.conn.now in
    let end = c.commit.new.self.0 in
    let begun = c.transaction-tx.ensures.begun in
    let same : end ≡ c.conn-2-1.given.0 = search rules in
    let P = λ (trees : Trees). ((state g.S.Store old).now.schema ≡ no_schema) × HaveUtf8 c.args.rows.now × (db : Database) × HoldJust db c.args.rows.now × (trees ≡ db.trees) in
    let whole = survives_then (state g.S.Store old) (state g.S.Store mid) (state g.S.Store end) _ _ P (λ _ db none. absurd none)
    (λ clean db is.
    let early : HasCleanDisk (state g.S.Store mid) = omega (arith, c.commit.ensures.survives.clean) in
    let sound = (c.is_empty.ensures.live ((rw begun at c.in_ok-make_tables.ensures.was_open) early)).0 in
    let none : (state g.S.Store old).now.schema ≡ no_schema = search rules in
    (none, c.in_ok-make_tables.ensures.utf8, _, ((rw begun at c.in_ok-make_tables.ensures.made) early refl none sound).1, is))
    (survives_begin g.S.Store old (state g.S.Store mid) _ (rw begun at c.make_tables.ensures.survives)) c.commit.ensures.survives in
    subst (λ h. Survives (state g.S.Store old) (state g.S.Store h) P) same whole
