-- The steps of a transaction, one after another, and the state after it ends.
use Rattle.std.proofs.Common.{◌≡◌, ◌⊎◌, cond, ℕ, zero, suc, ◌+◌, true, false, List, [], ◌∷◌, ◌++◌, map, drop, fold, length, ◌<◌, ◌≤◌, take, slice_index_or, Option, Some, None, Result, Ok, Err, IsTrue, refl, sym, ap, subst, ◌∙◌, inl, inr, arith}
use Rattle.std.specs.List.{AllByRecursion}
use Rattle.std.specs.Prelude.{nat_lt, if◌then◌else◌}
use Rattle.std.proofs.lemmas.Bool.{cases_Bool, lt-ltb}
use Rattle.std.proofs.lemmas.List.{drop_all, length-take}
use Rattle.sqlite_value.specs.Order.{Row}
use Rattle.sqlite_trees.specs.declared.store.Store.{Ghosts}
use Rattle.sqlite_trees.specs.Tree.{Trees}
use Rattle.sqlite_schema.specs.declared.command.Command.TheVariants.{CreateTable, CreateIndex}
use Rattle.sqlite_schema.specs.declared.command.Returning.{Returning}
use Rattle.sqlite_schema.specs.declared.schema.Table.{Table}
use Rattle.sqlite_schema.specs.declared.schema.Schema.{Schema}
use Rattle.sqlite_schema.specs.declared.schema.Index.{Index}
use Rattle.sqlite_catalog.specs.Change.{created, indexed, KeepsRows}
use Rattle.sqlite_catalog.specs.Calls.{CreatesTable, CreatesIndex}
use Rattle.sqlite_keyed.proofs.ListLemmas.{all-append, all_both}
use Rattle.sqlite.specs.declared.error.Error.{Error}
use Rattle.sqlite.specs.Effect.{Database, IsDatabase}
use Rattle.sqlite.specs.Does.{Tally, lacks_sequence, AtPlace, Defines, MakesIndex, MakesSequence}
use Rattle.sqlite.specs.Held.{Held, state}
use Rattle.sqlite.specs.State.{State, HasCleanDisk, IsUnchanged, IsRolledBack, KeepsCommit, Survives, Writes, Executes, ExecutesInside, Fails, IsNotRun, FailsToQuery, FailsToShow, Shown, ShowsRows, IsTooLate, mode_of}
use Rattle.sqlite.specs.Listing.{understood}
use Rattle.sqlite.proofs.Callers.{IsPlain, runs_as, survives_begin}
use Rattle.sqlite.proofs.StateLemmas.{survives_then}
use Rattle.table_meaning.specs.declared.tables.TableName.TheVariants.{Instance}
use Rattle.table_meaning.specs.declared.rows.StoredRow.{StoredRow}
use Rattle.table_meaning.specs.Schema.{newest, stored_schema, table_by, table_place}
use Rattle.table_meaning.specs.Texts.{Made, made_table, made_index, definitions, definition_texts, put_text, update_first}
use Rattle.table_meaning.specs.Making.{with_made, MakeInTurn, AreFree, AreStillToMake, no_rows}
use Rattle.table_meaning.specs.Rows.{table_of, columns_of}
use Rattle.table_meaning.specs.Holding.{Contents, Hold, with_row, with_stored_rows}
use Rattle.table_meaning.specs.Reads.{Reads}
use Rattle.table_meaning.specs.Steps.{Moves, AreNew}
use Rattle.table_meaning.proofs.EachTable.{of_each}
use Rattle.table_meaning.proofs.EachRow.{typed}
use Rattle.table_meaning.proofs.PutFacts.{facts, written_whole}
use Rattle.table_meaning.proofs.Putting.{puts}
use Rattle.table_meaning.proofs.Statements.{went, same_value}
use Rattle.table_meaning.proofs.LookUps.{hold_put, hold_left}
use Rattle.table_meaning.proofs.UpdateTexts.{changes_row, tried_first}
use Rattle.table_meaning.proofs.Updating.{updated}

-- ---- rows put

rows_and_one : (contents : Contents) (rows : List StoredRow) (row : StoredRow) → with_stored_rows contents (rows ++ row ∷ []) ≡ with_row (with_stored_rows contents rows) row
rows_and_one contents [] row = refl
rows_and_one contents (r ∷ rows) row = rows_and_one (with_row contents r) rows row

pub moved_more : (a b c : State) (rows : List StoredRow) (row : StoredRow) → Moves a b rows → Moves b c (row ∷ []) → Moves a c (rows ++ row ∷ [])
moved_more a b c rows row first one =
    record { inside = one.inside; puts = λ contents holds. subst (Hold c.now) (sym (rows_and_one contents rows row)) (one.puts (with_stored_rows contents rows) (first.puts contents holds)) }

pub row_moved : (row : StoredRow) (old new : State) (count : ℕ) → ExecutesInside 0 (put_text (table_of row)) (columns_of row) old new (Ok count) → Moves old new (row ∷ [])
row_moved row old new count h = record {
  inside = h.1.mode;
  puts = λ contents holds.
      let t = table_of row in
      let ran = puts newest (omega arith, omega arith) t (columns_of row) (facts _ _ (typed row)) old new holds.known.schema (holds.known.ordered t) (holds.known.apart t) count h.0 in
      hold_put row old.now new.now ran.0 ran.1 ran.2 contents holds;
}

-- if a row exists at the key, the row is put; if not, nothing is put
pub row_updated : (row : StoredRow) (text : List ℕ) → Some text ≡ update_first (table_of row) → (old new : State) (count : ℕ) → ExecutesInside 0 text (columns_of row) old new (Ok count)
    → Moves old new (if nat_lt 0 count then row ∷ [] else [])
row_updated row text is old new count h = record {
  inside = h.1.mode;
  puts = λ contents holds.
      let t = table_of row in
      let c = columns_of row in
      let tried = tried_first t text is in
      let f = facts t c (typed row) in
      let ran = updated t c f (changes_row t tried.0) (written_whole t c (typed row)) old new holds.known.schema (holds.known.ordered t) (holds.known.apart t) count
      (subst (λ sql. Executes sql c old new (Ok count)) tried.1 h.0) in
      elim ran.2 [
        | inl none ↦ subst (λ n. Hold new.now (with_stored_rows contents (if nat_lt 0 n then row ∷ [] else []))) (sym none.0) (hold_left old.now new.now ran.0 ran.1 none.1 contents holds)
        | inr some ↦ subst (λ b. Hold new.now (with_stored_rows contents (if b then row ∷ [] else []))) (sym (lt-ltb 0 count some.0)) (hold_put row old.now new.now ran.0 ran.1 some.1 contents holds)
      ];
}

-- ---- nothing is committed in between

pub keeps_itself : (s : State) → KeepsCommit s s
keeps_itself s = record { was_open = λ h. h; committed = λ h. refl }

kept_unchanged : (old new : State) → IsUnchanged old new → KeepsCommit old new
kept_unchanged old new same = record { was_open = λ _. same.0.was_open; committed = λ _. same.0.committed_is }

kept_back : (old new : State) → IsRolledBack old new → KeepsCommit old new
kept_back old new back = record { was_open = back.was_open; committed = λ h. (back.undone h).1 }

kept_inside : (sql : List ℕ) (params : Row) (old new : State) (r : Result ℕ Error) → ExecutesInside 0 sql params old new r → KeepsCommit old new
kept_inside sql params old new (Ok count) h = record { was_open = λ _. h.1.was_open; committed = λ _. h.1.committed_is }
kept_inside sql params old new (Err e) (inl (ran, inl same)) = kept_unchanged old new same
kept_inside sql params old new (Err e) (inl (ran, inr back)) = kept_back old new back
kept_inside sql params old new (Err e) (inr ended) = kept_unchanged old new ended.2

pub kept_by : {S : Type 0} (g : Ghosts S) (old new : Held S) (sql : List ℕ) (params : Row) (r : Result ℕ Error) → (old.in_transaction ≡ false → new ≡ old)
    → (HasCleanDisk (state g new) → IsTrue old.in_transaction → ExecutesInside 0 sql params (state g old) (state g new) r) → HasCleanDisk (state g new) → KeepsCommit (state g old) (state g new)
kept_by g old new sql params r ended runs clean = elim (cases_Bool old.in_transaction) [
  | inl inside ↦ kept_inside sql params (state g old) (state g new) r (runs clean inside)
  | inr outside ↦ subst (λ h. KeepsCommit (state g old) (state g h)) (sym (ended outside)) (keeps_itself (state g old))
]

kept_fails : (old new : State) (too_big : Type 0) (e : Error) → Fails old new too_big e → KeepsCommit old new
kept_fails old new too_big e fails = kept_back old new fails.3

pub kept_shown : (sql : List ℕ) (params : Row) (old new : State) (rows : List Row) → IsTrue old.in_transaction → Shown sql params old new rows → KeepsCommit old new
unfolding Shown
kept_shown sql params old new rows inside (c, it, shows) = go c.returning _ shows
  where
    go : (o : Option Returning) (full : Row) → ShowsRows old new sql c full rows o → KeepsCommit old new
    go None full h = kept_unchanged old new h.3
    go (Some what) full h = let shown = h.1.shown in record { was_open = λ _. shown.was_open; committed = λ _. subst (λ b. new.committed ≡ cond b old.committed new.now) inside shown.committed_is }

-- a text that shows rows leaves the transaction open, and a plain text changes nothing
pub inside_shown : (sql : List ℕ) (params : Row) (old new : State) (rows : List Row) → Shown sql params old new rows → new.in_transaction ≡ old.in_transaction
unfolding Shown
inside_shown sql params old new rows (c, it, shows) = go c.returning _ shows
  where
    go : (o : Option Returning) (full : Row) → ShowsRows old new sql c full rows o → new.in_transaction ≡ old.in_transaction
    go None full h = h.3.0.mode
    go (Some what) full h = h.1.shown.mode

pub unchanged_shown : (sql : List ℕ) (params : Row) (old new : State) (rows : List Row) → IsPlain (understood old.now.schema sql) → Shown sql params old new rows → IsUnchanged old new
unfolding Shown
unchanged_shown sql params old new rows plain (c, it, shows) = (subst (ShowsRows old new sql c _ rows) (subst IsPlain it.is plain).0 shows).3

pub kept_failed : (sql : List ℕ) (params : Row) (old new : State) (e : Error) → (FailsToQuery sql params old new e ⊎ IsTooLate sql params old new e) → KeepsCommit old new
unfolding FailsToQuery IsNotRun
kept_failed sql params old new e (inl (inl (inl none))) = kept_unchanged old new none.1
kept_failed sql params old new e (inl (inl (inr fails))) = kept_fails old new _ e fails
kept_failed sql params old new e (inl (inr (c, it, shows))) = go c.returning _ shows
  where
    go : (o : Option Returning) (full : Row) → FailsToShow old new sql c full e o → KeepsCommit old new
    go None full h = kept_unchanged old new h.3
    go (Some what) full (inl h) = kept_unchanged old new h.1
    go (Some what) full (inr fails) = kept_fails old new _ e fails
kept_failed sql params old new e (inr late) = kept_unchanged old new late.5

-- ---- reads

pub survives_itself : (s : State) → Survives s s (λ _. ⊥)
survives_itself s = record { clean = omega arith; shield = λ h. h; counts = omega arith; limit = refl; closes = λ clean h. inl h; crash = λ clean db h. inl h }

pub survives_on : (a b c : State) → Survives a b (λ _. ⊥) → Survives b c (λ _. ⊥) → Survives a c (λ _. ⊥)
survives_on a b c = survives_then a b c _ _ _ (λ _ db none. none) (λ _ db none. none)

pub reads_none : (s : State) → Reads s s
reads_none s = record {
  survives = survives_itself s;
  was_open = λ clean h. h;
  same = λ clean h rest. (refl, refl);
  idle = λ h. h;
}

pub reads_on : (a b c : State) → Reads a b → Reads b c → Reads a c
reads_on a b c p q =
    let early = λ (clean : HasCleanDisk c). let h : HasCleanDisk b = omega (arith, q.survives.clean) in h in
    record {
      survives = survives_then a b c _ _ _ (λ _ db none. none) (λ _ db none. none) p.survives q.survives;
      was_open = λ clean h. p.was_open (early clean) (q.was_open clean h);
      same = λ clean h rest.
          let first = p.same (early clean) (q.was_open clean h) rest in
          let second = q.same clean h (first.0 ∙ rest ∙ sym first.1) in
          (second.0 ∙ first.0, second.1 ∙ first.1);
      idle = λ h. q.idle (p.idle h);
    }

-- a statement in a transaction that is then rolled back
module _ {S : Type 0} (g : Ghosts S) (old mid end : Held S) (kept : HasCleanDisk (state g mid) → KeepsCommit (state g (record old { in_transaction = true })) (state g mid))
    (one : Survives (state g (record old { in_transaction = true })) (state g mid) (λ _. ⊥)) (back : HasCleanDisk (state g end) → IsRolledBack (state g mid) (state g end))
    (two : Survives (state g mid) (state g end) (λ _. ⊥)) (ended : end.in_transaction ≡ false) where
  pub reads_back : Reads (state g old) (state g end)
  reads_back =
      let early = λ (clean : HasCleanDisk (state g end)). let h : HasCleanDisk (state g mid) = omega (arith, two.clean) in h in
      record {
        survives = survives_begin g old (state g end) _ (survives_then (state g (record old { in_transaction = true })) (state g mid) (state g end) _ _ _ (λ _ db none. none) (λ _ db none. none) one two);
        was_open = λ clean h. (kept (early clean)).was_open ((back clean).was_open h);
        same = λ clean h rest.
            let undone = (back clean).undone h in
            let same = (kept (early clean)).committed ((back clean).was_open h) in
            (undone.0 ∙ same ∙ sym rest, undone.1 ∙ same);
        idle = λ _. ended;
      }

-- ---- tables made

still_same : (rows : Trees) (tables : List Table) (old new : Trees) → AllByRecursion (λ t. old t.tree ≡ rows t.tree) tables → KeepsRows tables old new → AllByRecursion (λ t. new t.tree ≡ rows t.tree) tables
still_same rows tables old new was kept = all_both _ _ (λ t. new t.tree ≡ rows t.tree) (λ t before same. same ∙ before) tables was kept

next_made : (all : List (List ℕ × Made)) (count at : ℕ) → at < length all → at < count → (made : Made) × (drop at (take count all) ≡ (slice_index_or (map (λ d. d.0) all) at [], made) ∷ drop (suc at) (take count all))
next_made [] count at within below = absurd (omega (arith, within))
next_made (d ∷ all) zero at within below = absurd (omega (arith, below))
next_made (d ∷ all) (suc count) zero within below = (d.1, refl)
next_made (d ∷ all) (suc count) (suc at) within below = next_made all count at (omega (arith, within)) (omega (arith, below))

-- the new tables, with their rows after the step
module _ (wanted : Schema) (rows : Trees) where
  left_with : (old new : Database) (text : List ℕ) (made : Made) (more : List (List ℕ × Made)) → AreStillToMake wanted rows ((text, made) ∷ more) old → new.schema ≡ with_made old.schema made
      → AllByRecursion (λ t. new.trees t.tree ≡ rows t.tree) (with_made old.schema made).tables → AreStillToMake wanted rows more new
  left_with old new text made more left schema same = record {
    makes = subst (λ s. MakeInTurn s more) (sym schema) left.makes.3;
    whole = subst (λ s. fold (λ s' d. with_made s' d.1) s more ≡ wanted) (sym schema) left.whole;
    free = subst (λ s. AreFree rows s more) (sym schema) left.free.1;
    same = subst (λ s. AllByRecursion (λ t. new.trees t.tree ≡ rows t.tree) s.tables) (sym schema) same;
  }

  table_more : (text : List ℕ) (table : Table) (more : List (List ℕ × Made)) (old after new : Database) → AreStillToMake wanted rows ((text, made_table table) ∷ more) old
      → CreatesTable old.schema text old.trees after.schema after.trees → MakesSequence after (Ok new) → AreStillToMake wanted rows more new
  table_more text table more old after new left it counts =
      let table_is = same_value (sym it.defined ∙ left.makes.0.1) in
      let schema : after.schema ≡ created old.schema table = it.is ∙ ap (created old.schema) table_is in
      let plain : lacks_sequence after.schema ≡ false = ap lacks_sequence schema ∙ left.makes.0.2 in
      let now : new ≡ after = same_value (rw plain at counts) in
      let same = all-append (λ t. after.trees t.tree ≡ rows t.tree) old.schema.tables _ (still_same rows old.schema.tables old.trees after.trees left.same it.others) (it.empty ∙ sym left.free.0, tt) in
      subst (AreStillToMake wanted rows more) (sym now) (left_with old after text (made_table table) more left schema same)

  index_more : (text : List ℕ) (index : Index) (more : List (List ℕ × Made)) (old new : Database) → AreStillToMake wanted rows ((text, made_index index) ∷ more) old
      → CreatesIndex old.schema (table_by Instance) text old.trees new.schema new.trees → AreStillToMake wanted rows more new
  index_more text index more old new left it =
      let index_is = same_value (sym it.defined ∙ left.makes.0.2) in
      left_with old new text (made_index index) more left (it.is ∙ ap (indexed old.schema (table_by Instance)) index_is) (still_same rows old.schema.tables old.trees new.trees left.same it.rows)

  made_more : (text : List ℕ) (made : Made) (more : List (List ℕ × Made)) (old new : State) (count : ℕ) → AreStillToMake wanted rows ((text, made) ∷ more) old.now → Executes text [] old new (Ok count)
      → AreStillToMake wanted rows more new.now × IsDatabase new.now
  made_more text (made_table table) more old new count left h =
      let w = subst (λ t. Writes old new None CreateTable t [] count) left.makes.1 (runs_as text [] old new old.now.schema refl CreateTable left.makes.0.0 left.makes.2 count h) in
      let all = went w.changed in
      let first = went all.1 in
      let now : new.now ≡ all.0 = ap (λ (p : Tally × Database). p.1) (same_value all.2) in
      (table_more text table more old.now first.0 new.now left first.1 (subst (λ d. MakesSequence first.0 (Ok d)) (sym now) first.2), w.sound)
  made_more text (made_index index) more old new count left h =
      let w = subst (λ t. Writes old new None (CreateIndex (table_place Instance)) t [] count) left.makes.1 (runs_as text [] old new old.now.schema refl (CreateIndex (table_place Instance)) left.makes.0.0 left.makes.2 count h) in
      let all = went (subst (λ o. AtPlace (λ table. Defines (mode_of old) (MakesIndex text old.now table)) o (Ok (w.tally, new.now))) left.makes.0.1 w.changed) in
      let now : new.now ≡ all.0 = ap (λ (p : Tally × Database). p.1) (same_value all.2) in
      (index_more text index more old.now new.now left (subst (λ d. CreatesIndex old.now.schema (table_by Instance) text old.now.trees d.schema d.trees) (sym now) all.1), w.sound)

  -- one text more: the definition at a place, which is the next one
  pub defined_more : (count at : ℕ) (text : List ℕ) (old new : State) (changed : ℕ) → at < length definitions → at < count → text ≡ slice_index_or definition_texts at []
      → AreStillToMake wanted rows (drop at (take count definitions)) old.now → ExecutesInside 0 text [] old new (Ok changed) → IsTrue new.in_transaction × AreStillToMake wanted rows (drop (at + 1) (take count definitions)) new.now × IsDatabase new.now
  defined_more count at text old new changed within below is left h =
      let next = next_made definitions count at within below in
      let one : suc at ≡ at + 1 = omega arith in
      let here : AreStillToMake wanted rows ((text, next.0) ∷ drop (suc at) (take count definitions)) old.now =
      subst (λ t. AreStillToMake wanted rows ((t, next.0) ∷ drop (suc at) (take count definitions)) old.now) (sym is) (subst (λ ds. AreStillToMake wanted rows ds old.now) next.1 left) in
      let more = made_more text next.0 (drop (suc at) (take count definitions)) old new changed here h.0 in
      (h.1.mode, subst (λ n. AreStillToMake wanted rows (drop n (take count definitions)) new.now) one more.0, more.1)

  -- none is left after the last
  pub all_defined : (count at : ℕ) (db : Database) → count ≤ at → AreStillToMake wanted rows (drop at (take count definitions)) db → AreStillToMake wanted rows [] db
  all_defined count at db past = subst (λ ds. AreStillToMake wanted rows ds db) (drop_all at (take count definitions) (omega (arith, past, length-take count definitions)))

pub all_made : (db : Database) → AreStillToMake stored_schema no_rows [] db → IsDatabase db → AreNew db
all_made db left sound =
    let empty = subst (λ s. AllByRecursion (λ t. db.trees t.tree ≡ []) s.tables) left.whole left.same in
    record { schema = left.whole; sound = sound; empty = of_each (λ t. db.trees t.tree ≡ []) empty }
