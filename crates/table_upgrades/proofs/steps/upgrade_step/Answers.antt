use Rattle.std.proofs.Common.{◌≡◌, IsTrue, refl, sym, subst, rules, arith}
use Rattle.std.specs.Result.{OnOk}
use Rattle.std.proofs.lemmas.Result.{on_ok_weaker}
use Rattle.sqlite_trees.specs.Tree.{Trees}
use Rattle.sqlite.specs.Effect.{Database}
use Rattle.sqlite.specs.Held.{state}
use Rattle.sqlite.specs.State.{HasCleanDisk, Survives}
use Rattle.sqlite.proofs.Callers.{survives_begin}
use Rattle.table_meaning.specs.Upgrades.{MakesNext}
use Rattle.table_upgrades.proofs.Upgraded.{step_stopped}
use Rattle.table_upgrades.proofs.steps.upgrade_step.Goals as goal

pub returns-clause-makes : goal.returns-clause-makes
returns-clause-makes g c clean =
    let old = (state g.S.Store c.args.conn.now).now in
    let mid = c.upgrade_tables.new.tx.conn.now in
    let end = c.commit.new.self.0 in
    let begun = c.transaction-tx.ensures.begun in
    let same : end ≡ c.conn-2-1.given.0 = search rules in
    let late : HasCleanDisk (state g.S.Store end) = search rules in
    let early : HasCleanDisk (state g.S.Store mid) = omega (arith, c.commit.ensures.survives.clean) in
    let made = (rw begun at c.in_ok-upgrade_tables.ensures.makes) early refl in
    let whole : OnOk c.commit.result (MakesNext c.args.schema old (state g.S.Store c.conn-2-1.given.0).committed) =
    on_ok_weaker c.commit.result (λ done. subst (λ h. MakesNext c.args.schema old (state g.S.Store h).committed) same (subst (MakesNext c.args.schema old) (sym done.1.committed_is) made)) (c.commit.ensures.ok late) in
    search rules

pub returns-clause-crash : goal.returns-clause-crash
returns-clause-crash g c =
    let old = c.args.conn.now in
    let mid = c.upgrade_tables.new.tx.conn.now in
    let end = c.commit.new.self.0 in
    let begun = c.transaction-tx.ensures.begun in
    let same : end ≡ c.conn-2-1.given.0 = search rules in
    let stopped = step_stopped c.args.schema (state g.S.Store old) (state g.S.Store mid) (state g.S.Store end)
    (λ early. ((rw begun at c.in_ok-upgrade_tables.ensures.was_open) early, (rw begun at c.in_ok-upgrade_tables.ensures.makes) early refl))
    (survives_begin g.S.Store old (state g.S.Store mid) _ (rw begun at c.upgrade_tables.ensures.within.survives)) c.commit.ensures.survives in
    subst (λ h. Survives (state g.S.Store old) (state g.S.Store h) (λ (trees : Trees). IsTrue (state g.S.Store old).is_open × (db : Database) × MakesNext c.args.schema (state g.S.Store old).now db × (trees ≡ db.trees))) same stopped
