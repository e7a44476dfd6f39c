use Rattle.std.proofs.Common.{◌≡◌, refl, subst, rules, arith}
use Rattle.sqlite.specs.State.{HasCleanDisk}
use Rattle.sqlite.specs.Held.{state}
use Rattle.table_meaning.specs.Reads.{Reads}
use Rattle.table_meaning.proofs.StepLemmas.{kept_shown, kept_failed, reads_back}
use Rattle.table_rows.proofs.read.shown_by.Goals as goal

pub returns-in_err-rows-clause-reads : goal.returns-in_err-rows-clause-reads
returns-in_err-rows-clause-reads g c =
    let old = c.args.conn.now in
    let mid = c.query_all.new.self.conn.now in
    let end = c.drop-tx.new.self.0 in
    let begun = c.transaction-tx.ensures.begun in
    let same : end ≡ c.conn-1.given.0 = search rules in
    subst (λ h. Reads (state g.S.Store old) (state g.S.Store h)) same
    (reads_back g.S.Store old mid end (λ clean. kept_failed _ _ _ _ _ (rw begun at (c.in_err-rows.ensures.err clean))) (rw begun at c.query_all.ensures.survives) c.drop-tx.ensures.undone c.drop-tx.ensures.survives c.drop-tx.ensures.ended)

pub returns-clause-reads : goal.returns-clause-reads
returns-clause-reads g c =
    let old = c.args.conn.now in
    let mid = c.query_all.new.self.conn.now in
    let end = c.rollback.new.self.0 in
    let begun = c.transaction-tx.ensures.begun in
    let same : end ≡ c.conn-2-1.given.0 = search rules in
    subst (λ h. Reads (state g.S.Store old) (state g.S.Store h)) same
    (reads_back g.S.Store old mid end (λ clean. kept_shown _ _ _ _ _ refl (rw begun at (c.in_ok-rows.ensures.ok clean))) (rw begun at c.query_all.ensures.survives) c.rollback.ensures.undone c.rollback.ensures.survives c.rollback.ensures.ended)

pub returns-clause-shown : goal.returns-clause-shown
returns-clause-shown g c clean =
    let mid = c.query_all.new.self.conn.now in
    let end = c.rollback.new.self.0 in
    let begun = c.transaction-tx.ensures.begun in
    let late : HasCleanDisk (state g.S.Store end) = search rules in
    let early : HasCleanDisk (state g.S.Store mid) = omega (arith, c.rollback.ensures.survives.clean) in
    (mid, rw begun at (c.in_ok-rows.ensures.ok early))
