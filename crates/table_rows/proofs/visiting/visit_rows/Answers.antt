use Rattle.std.proofs.Common.{◌≡◌, [], ◌∷◌, ◌++◌, map, IfErr, inl, inr, refl, sym, subst, ◌∙◌, rules, arith}
use Rattle.std.proofs.lemmas.Result.{IfErr-weaker}
use Rattle.sqlite_keyed.proofs.ListLemmas.{all-append}
use Rattle.sqlite.specs.Held.{state}
use Rattle.sqlite.specs.State.{HasCleanDisk}
use Rattle.sqlite.specs.Given.{HasGiven}
use Rattle.sqlite.proofs.Callers.{unchanged_then}
use Rattle.table_meaning.specs.Rows.{table_of, columns_of}
use Rattle.table_meaning.specs.Formats.{IsStored}
use Rattle.table_meaning.specs.Texts.{read_text}
use Rattle.table_meaning.proofs.StepLemmas.{survives_on}
use Rattle.table_rows.specs.declared.opening.OpenFault.{OpenFault}
use Rattle.table_rows.specs.declared.opening.OpenFault.TheVariants.{BadRow}
use Rattle.table_rows.proofs.Visited.{reads_by, stays_failed, commits_nothing, begun_given, given_has, given_all, given_refused, given_on, visits_more}
use Rattle.table_rows.specs.Utf8.{HasUtf8}
use Rattle.table_rows.proofs.visiting.visit_rows.Goals as goal

pub returns-in_err-rows-clause-reads : goal.returns-in_err-rows-clause-reads
returns-in_err-rows-clause-reads g c =
    let old = state g.S.Store c.args.conn.now in
    let new = state g.S.Store c.query.follows.lender-at-none in
    let refused = rw (c.read_text.ensures, c.in_err-rows.was) at c.query.follows.holds-at-none in
    reads_by old new (commits_nothing c.args.table [] old new refused.survives) (λ clean. stays_failed _ _ _ _ _ (refused.err clean)) refused.mode

pub rows-init : goal.rows-init
rows-init g c =
    let old = c.args.conn.now in
    let new = c.in_ok-rows.rows.conn.now in
    let made = rw c.read_text.ensures at c.in_ok-rows.ensures in (
      refl,
      commits_nothing c.args.table [] (state g.S.Store old) (state g.S.Store new) made.survives,
      made.mode,
      λ clean.
          let begun = begun_given g.S.Store c.args.table [] old new (made.begun clean) in
          (begun.1, [], tt, tt, begun.0, refl),
    )

pub returns-in_default-clause-rows : goal.returns-in_default-clause-rows
returns-in_default-clause-rows g c clean known =
    let moved = c.next.follows.holds-at-none in
    let now = c.next.follows.lender-at-none.conn.now in
    let late : HasCleanDisk (state g.S.Store now) = search rules in
    let was = c.rows.invariant.3 (omega (arith, moved.survives.clean)) in
    let shown = (rw (c.in_ok-row.was, c.in_default.is) at (moved.ok late)) (read_text c.args.table) [] (map columns_of was.1) was.4 in
    (was.1, given_all g.S.Store c.args.table c.args.conn.now c.rows.rows.conn.now was.0 known (state g.S.Store now) (map columns_of was.1) shown, was.2, was.3, was.5)

pub returns-in_err-stored-clause-bad : goal.returns-in_err-stored-clause-bad
returns-in_err-stored-clause-bad g c clean known =
    let moved = c.next.follows.holds-at-none in
    let now = c.next.follows.lender-at-none.conn.now in
    let late : HasCleanDisk (state g.S.Store now) = search rules in
    let was = c.rows.invariant.3 (omega (arith, moved.survives.clean)) in
    let same = unchanged_then _ _ _ was.0 ((rw c.in_ok-row.was at moved.same) late) in
    let row = c.in-Some.row.now in
    let given = (rw (c.in_ok-row.was, c.in-Some.is) at (moved.ok late)) (read_text c.args.table) [] (map columns_of was.1) was.4 in
    let has = given_has g.S.Store c.args.table c.args.conn.now now same known (map columns_of was.1) row given in
    let P = λ (e : OpenFault). e ≡ BadRow → ¬ IsStored c.args.table row in
    let told : IfErr c.from_residual-in_err-stored.result P = search rules in
    IfErr-weaker c.from_residual-in_err-stored.result P _ (λ e bad is. inl (row, has, bad is)) told

pub returns-in_err-visit-clause-bad : goal.returns-in_err-visit-clause-bad
returns-in_err-visit-clause-bad g c clean known =
    let moved = c.next.follows.holds-at-none in
    let now = c.next.follows.lender-at-none.conn.now in
    let late : HasCleanDisk (state g.S.Store now) = search rules in
    let was = c.rows.invariant.3 (omega (arith, moved.survives.clean)) in
    let same = unchanged_then _ _ _ was.0 ((rw c.in_ok-row.was at moved.same) late) in
    let row = c.in_ok-stored.stored in
    let given = (rw (c.in_ok-row.was, c.in-Some.is) at (moved.ok late)) (read_text c.args.table) [] (map columns_of was.1) was.4 in
    let typed = subst (λ r. HasGiven g.S.Store (read_text c.args.table) [] now (map columns_of was.1 ++ r ∷ [])) (sym c.in_ok-stored.ensures.exact) given in
    let P = λ (e : OpenFault). e ≡ BadRow → g.V.RowVisitor.refuses c.rows.visitor row in
    let told : IfErr c.from_residual-in_err-visit.result P = search rules in
    IfErr-weaker c.from_residual-in_err-visit.result P _
    (λ e bad is. inr (given_refused g.S.Store c.args.table c.args.conn.now now same known g.V.RowVisitor.takes g.V.RowVisitor.refuses c.args.visitor.now c.rows.visitor was.1 row typed c.in_ok-stored.ensures.of_table was.5 (bad is))) told

pub rows-preserved : goal.rows-preserved
rows-preserved g c =
    let moved = c.next.follows.holds-at-none in
    let now = c.next.follows.lender-at-none.conn.now in
    let kept = c.rows.invariant in
    let row = c.in_ok-stored.stored in (
      moved.same_reference ∙ kept.0,
      survives_on _ _ _ kept.1 moved.survives,
      λ h. moved.mode (kept.2 h),
      λ clean.
          let was = kept.3 (omega (arith, moved.survives.clean)) in
          let given = (rw (c.in_ok-row.was, c.in-Some.is) at (moved.ok clean)) (read_text c.args.table) [] (map columns_of was.1) was.4 in
          let typed = subst (λ r. HasGiven g.S.Store (read_text c.args.table) [] now (map columns_of was.1 ++ r ∷ [])) (sym c.in_ok-stored.ensures.exact) given in (
            unchanged_then _ _ _ was.0 ((rw c.in_ok-row.was at moved.same) clean),
            was.1 ++ row ∷ [],
            all-append (λ r. table_of r ≡ c.args.table) was.1 (row ∷ []) was.2 (c.in_ok-stored.ensures.of_table, tt),
            all-append (λ r. HasUtf8 (columns_of r)) was.1 (row ∷ []) was.3 (c.in_ok-stored.ensures.utf8, tt),
            given_on g.S.Store c.args.table now was.1 row typed,
            visits_more g.V.RowVisitor.takes c.args.visitor.now c.rows.visitor c.visit.new.self was.1 row was.5 c.in_ok-visit.ensures.takes,
          ),
    )
