use Rattle.std.proofs.Common.{◌≡◌, ◌≢◌, [], IsTrue, refl, sym, subst, rules, arith}
use Rattle.std.proofs.lemmas.Result.{on_ok_weaker}
use Rattle.sqlite_trees.specs.Tree.{Trees}
use Rattle.sqlite.specs.Effect.{Database}
use Rattle.sqlite.specs.Held.{state}
use Rattle.sqlite.specs.State.{HasCleanDisk, Survives}
use Rattle.sqlite.proofs.StateLemmas.{survives_then}
use Rattle.sqlite.proofs.Callers.{survives_begin}
use Rattle.table_meaning.specs.Steps.{PutsRows}
use Rattle.table_rows.specs.Utf8.{HaveUtf8}
use Rattle.table_rows.proofs.put.put_rows.Goals as goal

pub returns-clause-both : goal.returns-clause-both
returns-clause-both g c clean _ =
    let old = c.args.conn.now in
    let mid = c.put_each.new.tx.conn.now in
    let end = c.commit.new.self.0 in
    let begun = c.transaction-tx.ensures.begun in
    let same : end ≡ c.conn-2-1.given.0 = search rules in
    let late : HasCleanDisk (state g.S.Store end) = search rules in
    let early : HasCleanDisk (state g.S.Store mid) = omega (arith, c.commit.ensures.survives.clean) in
    let moved = (rw begun at c.in_ok-put_each.ensures.moves) early refl in
    on_ok_weaker c.commit.result (λ done. subst (λ h. PutsRows (state g.S.Store old).now (state g.S.Store h).committed c.args.changes.now) same
    (subst (λ db. PutsRows (state g.S.Store old).now db c.args.changes.now) (sym done.1.committed_is) moved.puts)) (c.commit.ensures.ok late)

pub returns-clause-crash : goal.returns-clause-crash
returns-clause-crash g c =
    let old = c.args.conn.now in
    let mid = c.put_each.new.tx.conn.now in
    let end = c.commit.new.self.0 in
    let begun = c.transaction-tx.ensures.begun in
    let same : end ≡ c.conn-2-1.given.0 = search rules in
    let some : c.args.changes.now ≢ [] = search rules in
    let P = λ (trees : Trees). IsTrue (state g.S.Store old).is_open × HaveUtf8 c.args.changes.now × (db : Database) × PutsRows (state g.S.Store old).now db c.args.changes.now × (trees ≡ db.trees) in
    let whole = survives_then (state g.S.Store old) (state g.S.Store mid) (state g.S.Store end) _ _ P (λ _ db none. absurd none)
    (λ clean db is.
    let early : HasCleanDisk (state g.S.Store mid) = omega (arith, c.commit.ensures.survives.clean) in
    ((rw begun at c.in_ok-put_each.ensures.was_open) early refl some, c.in_ok-put_each.ensures.utf8, _, ((rw begun at c.in_ok-put_each.ensures.moves) early refl).puts, is))
    (survives_begin g.S.Store old (state g.S.Store mid) _ (rw begun at c.put_each.ensures.survives)) c.commit.ensures.survives in
    subst (λ h. Survives (state g.S.Store old) (state g.S.Store h) P) same whole
