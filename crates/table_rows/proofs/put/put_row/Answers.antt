use Rattle.std.proofs.Common.{◌≡◌, false, true, [], ◌∷◌, map, if◌then◌else◌, nat_lt, Some, Ok, sym, ap, subst, ◌∙◌, rules, arith}
use Rattle.sqlite_value.specs.Value.{owned}
use Rattle.sqlite.specs.Held.{state}
use Rattle.sqlite.specs.State.{HasCleanDisk, ExecutesInside}
use Rattle.sqlite.proofs.InsideLemmas.{keeps_then}
use Rattle.table_meaning.specs.Texts.{update_first}
use Rattle.table_meaning.specs.Rows.{table_at, columns_of, row_key_of}
use Rattle.table_meaning.specs.Steps.{Moves}
use Rattle.table_meaning.proofs.TypedRows.{bound_as}
use Rattle.table_meaning.proofs.StepLemmas.{kept_by, moved_more, row_moved, row_updated}
use Rattle.table_rows.proofs.put.put_row.Goals.{then-not-stood+in_ok-execute-in-Some, else-not-stood}
use Rattle.table_rows.proofs.put.put_row.Goals as goal

pub returns-clause-moves : goal.returns-clause-moves
returns-clause-moves g c clean inside =
    let old = state g.S.Store c.args.tx.now.conn.now in
    let new = state g.S.Store c.execute-in-Some-2.new.self.conn.now in
    let row = c.args.row.now in
    let params = c.as_slice-params.result.now in
    let count = c.in_ok-execute-in-Some-2.field-0 in
    let same : map owned params ≡ columns_of row = ap (map owned) c.as_slice-params.ensures.value ∙ c.in_ok-values.ensures.values in
    row_moved row old new count
    (subst (λ sql. ExecutesInside 0 sql (columns_of row) old new (Ok count)) c.put_text-in-Some-2.ensures
    (subst (λ values. ExecutesInside 0 c.put_text-in-Some-2.result.now values old new (Ok count)) (bound_as params row same) (c.in_ok-execute-in-Some-2.ensures.runs clean inside)))

pub returns-in-Some-clause-moves : goal.returns-in-Some-clause-moves
returns-in-Some-clause-moves g c clean inside =
    let old = state g.S.Store c.args.tx.now.conn.now in
    let mid = state g.S.Store c.execute.new.self.conn.now in
    let row = c.args.row.now in
    let params = c.as_slice-params.result.now in
    let text = c.in-Some.text.now in
    let count = c.in_ok-stood-in-Some.field-0 in
    let same : map owned params ≡ columns_of row = ap (map owned) c.as_slice-params.ensures.value ∙ c.in_ok-values.ensures.values in
    let is : Some text ≡ update_first (table_at (row_key_of row)) = search rules in
    let tried = λ (early : HasCleanDisk mid). row_updated row text is old mid count
    (subst (λ values. ExecutesInside 0 text values old mid (Ok count)) (bound_as params row same) (c.in_ok-stood-in-Some.ensures.runs early inside)) in
    elim c.if-not-stood.branch [
      | then-not-stood+in_ok-execute-in-Some w ↦
          let new = state g.S.Store w.execute-then-not-stood.new.self.conn.now in
          let here : HasCleanDisk new = search rules in
          let early : HasCleanDisk mid = omega (arith, w.execute-then-not-stood.ensures.survives.clean) in
          let none : nat_lt 0 count ≡ false = search rules in
          let left = subst (λ stood. Moves old mid (if stood then row ∷ [] else [])) none (tried early) in
          let more = w.in_ok-execute-in-Some.field-0 in
          let put = row_moved row mid new more
          (subst (λ sql. ExecutesInside 0 sql (columns_of row) mid new (Ok more)) w.put_text.ensures
          (subst (λ values. ExecutesInside 0 w.put_text.result.now values mid new (Ok more)) (bound_as params row same) (w.in_ok-execute-in-Some.ensures.runs here left.inside))) in
          subst (λ (tx : _). Moves old (state g.S.Store tx.conn.now) (row ∷ [])) (sym w.tx-is) (moved_more old mid new [] row left put)
      | else-not-stood w ↦
          let here : HasCleanDisk mid = search rules in
          let some : nat_lt 0 count ≡ true = search rules in
          subst (λ (tx : _). Moves old (state g.S.Store tx.conn.now) (row ∷ [])) (sym w.tx-is) (subst (λ stood. Moves old mid (if stood then row ∷ [] else [])) some (tried here))
    ]

pub returns-in_err-execute-in-Some-clause-kept : goal.returns-in_err-execute-in-Some-clause-kept
returns-in_err-execute-in-Some-clause-kept g c clean =
    let old = c.args.tx.now.conn.now in
    let mid = c.execute.new.self.conn.now in
    let new = c.execute-then-not-stood.new.self.conn.now in
    let early : HasCleanDisk (state g.S.Store mid) = omega (arith, c.execute-then-not-stood.ensures.survives.clean) in
    keeps_then (state g.S.Store old) (state g.S.Store mid) (state g.S.Store new)
    (kept_by g.S.Store old mid _ _ _ (λ outside. (c.execute.ensures.ended outside).1) c.execute.ensures.runs early)
    (kept_by g.S.Store mid new _ _ _ (λ outside. (c.execute-then-not-stood.ensures.ended outside).1) c.execute-then-not-stood.ensures.runs clean)
