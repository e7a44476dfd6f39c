use Rattle.std.proofs.Common.{◌≡◌, false, IsTrue, ◌∙◌, rules, arith}
use Rattle.std.proofs.lemmas.Bool.{both_ways, true_from_ne_false}
use Rattle.sqlite_trees.specs.View.{IsClean}
use Rattle.sqlite.specs.Held.{state}
use Rattle.table_meaning.proofs.Knowing.{tables_rise}
use Rattle.table_rows.proofs.Reopening.{one_database}
use Rattle.table_rows.proofs.opening.reopened.Goals as goal

pub returns-in-Ok-clause-ordered : goal.returns-in-Ok-clause-ordered
returns-in-Ok-clause-ordered g c clean =
    let store = c.into_store-store.result in
    let now = state g.S.Store c.in-Ok.conn in
    let opened = c.in-Ok.ensures.opens clean in
    let early : IsClean (g.S.Store.view store) = omega (arith, c.in-Ok.ensures.clean) in
    let whole = c.is_broken.ensures early in
    let unbroken : (g.S.Store.view store).is_broken ≡ false = search rules in
    tables_rise (g.S.Store.view store) now.now.schema now.now.trees (c.in-Ok.ensures.trees clean) (g.met.S.Store.ordered store unbroken) (g.met.S.Alter.listed store unbroken) (opened.1 opened.0.is_open).0

pub returns-in-Ok-clause-same : goal.returns-in-Ok-clause-same
returns-in-Ok-clause-same g c clean =
    let store = c.into_store-store.result in
    let opened = c.in-Ok.ensures.opens clean in
    let early : IsClean (g.S.Store.view store) = omega (arith, c.in-Ok.ensures.clean) in
    let whole = c.is_broken.ensures early in
    let unbroken : (g.S.Store.view store).is_broken ≡ false = search rules in
    let is_open : IsTrue (g.S.Store.view store).is_open = true_from_ne_false _ (λ shut. both_ways _ unbroken (g.met.S.Store.broken_if_shut store shut)) in
    let was_open = (c.into_store-store.ensures.undone.kept early).was_open is_open in
    let trees = c.in-Ok.ensures.trees clean ∙ (c.into_store-store.ensures.undone.undone is_open).0 in
    one_database (state g.S.Store c.in-Ok.conn).now (state g.S.Store c.args.conn).committed trees (opened.1 opened.0.is_open).0 (c.schema-schema.ensures.live was_open).1

pub returns-in-Ok-clause-clean : goal.returns-in-Ok-clause-clean
returns-in-Ok-clause-clean g c clean = omega (arith, c.into_store-store.ensures.quiet.clean, c.in-Ok.ensures.clean, clean)
