-- What a connection shows after a cursor has returned its rows one at a time.
use Rattle.std.proofs.Common.{◌≡◌, ℕ, false, List, [], ◌∷◌, ◌++◌, map, Option, Some, None, IsTrue, refl, sym, ap, subst, ◌∙◌, inl, inr, true}
use Rattle.sqlite_value.specs.declared.value.Value.TheVariants.{Null}
use Rattle.sqlite_value.specs.Order.{Row}
use Rattle.sqlite_schema.specs.declared.command.Command.TheVariants.{Select}
use Rattle.sqlite_schema.specs.declared.command.Returning.{Returning}
use Rattle.sqlite_trees.specs.declared.store.Store.{Ghosts}
use Rattle.std.proofs.lemmas.List.{append_assoc, map-append}
use Rattle.sqlite_rules.specs.Lists.{Has}
use Rattle.sqlite_rules.proofs.ListLemmas.{has_left, has_right}
use Rattle.sqlite_typed.proofs.AnswerLemmas.{unfiltered}
use Rattle.sqlite.specs.declared.error.Error.{Error}
use Rattle.sqlite.specs.Effect.{Database}
use Rattle.sqlite.specs.Held.{Held, state}
use Rattle.sqlite.specs.Given.{HasGiven, HasBegun, Returns}
use Rattle.sqlite.specs.State.{State, HasCleanDisk, IsUnchanged, IsRolledBack, Survives, IsNotRun, FailsToQuery, FailsToShow, Shown, Begins, CommitsShowing}
use Rattle.sqlite.proofs.Callers.{begins_as, given_begin}
use Rattle.sqlite.proofs.StateLemmas.{survives_weaker}
use Rattle.table_meaning.specs.declared.rows.StoredRow.{StoredRow}
use Rattle.table_meaning.specs.declared.tables.TableName.{TableName}
use Rattle.table_meaning.specs.Schema.{stored_schema}
use Rattle.table_meaning.specs.Texts.{read_text}
use Rattle.table_meaning.specs.Rows.{tree_of, places_of, shown, rows_in, table_of, columns_of}
use Rattle.table_meaning.specs.Reads.{read_query, Reads}
use Rattle.table_meaning.specs.Holding.{AreKnown}
use Rattle.table_meaning.proofs.ByComputing.{names_of, computed}
use Rattle.table_meaning.proofs.Reading.{passing_rows, own_rows, shown_rows}
use Rattle.table_rows.specs.Visits.{VisitsAll, RefusesRow}
use Rattle.table_rows.proofs.Quiet.{never_returns}

-- ---- the rows

pub given_first : (t : TableName) (s : State) → AreKnown s.now → (rows : List Row) → Begins (read_text t) [] s rows → (later : List Row) × (rows ++ later ≡ rows_in s.now.trees t)
given_first t s known rows h =
    let meaning = (computed t).reads in
    let start = begins_as (read_text t) [] s s stored_schema known.schema (Select (record { lets = []; body = read_query (tree_of t) (places_of t) }) (names_of t)) meaning.0 meaning.1 meaning.2 rows h in (
      start.1.0,
      passing_rows s.now.trees (tree_of t) [] [] (λ _. true) (own_rows t s.now.trees) (known.ordered t) (λ _. refl) (places_of t) (rows ++ start.1.0) (start.1.1 Null) ∙ ap (map (shown t)) (unfiltered (s.now.trees (tree_of t)) refl),
    )

pub visits_more : {V : Type 0} (takes : V → StoredRow → V → Type 0) (old mid new : V) (rows : List StoredRow) (row : StoredRow) → VisitsAll takes old rows mid → takes mid row new → VisitsAll takes old (rows ++ row ∷ []) new
visits_more takes old mid new [] row same took = (new, subst (λ v. takes v row new) same took, refl)
visits_more takes old mid new (r ∷ rows) row (next, first, rest) took = (next, first, visits_more takes next mid new rows row rest took)

-- ---- the connection

-- if the connection stays open, what it shows is unchanged
abbrev pub Stays : State → State → Type 0
Stays old new = (IsTrue new.is_open → IsTrue old.is_open) × (IsTrue new.is_open → old.now ≡ old.committed → (new.now ≡ old.now) × (new.committed ≡ old.committed))

stays_unchanged : (old new : State) → IsUnchanged old new → Stays old new
stays_unchanged old new same = (λ _. same.0.was_open, λ _ rest. (same.0.now_is, same.0.committed_is))

stays_back : (old new : State) → IsRolledBack old new → Stays old new
stays_back old new back = (back.was_open, λ h rest. ((back.undone h).0 ∙ sym rest, (back.undone h).1))

pub stays_failed : (sql : List ℕ) (params : Row) (old new : State) (e : Error) → FailsToQuery sql params old new e → Stays old new
unfolding FailsToQuery IsNotRun
stays_failed sql params old new e (inl (inl none)) = stays_unchanged old new none.1
stays_failed sql params old new e (inl (inr fails)) = stays_back old new fails.3
stays_failed sql params old new e (inr (c, it, shows)) = go c.returning _ shows
  where
    go : (o : Option Returning) (full : Row) → FailsToShow old new sql c full e o → Stays old new
    go None full h = stays_unchanged old new h.3
    go (Some what) full (inl h) = stays_unchanged old new h.1
    go (Some what) full (inr fails) = stays_back old new fails.3

stays_then : (a b c : State) → IsUnchanged a b → Stays b c → Stays a c
stays_then a b c same stays = (
  λ _. same.0.was_open,
  λ h rest.
      let on = stays.1 h (same.0.now_is ∙ rest ∙ sym same.0.committed_is) in
      (on.0 ∙ same.0.now_is, on.1 ∙ same.0.committed_is),
)

pub reads_by : (old new : State) → Survives old new (λ _. ⊥) → (HasCleanDisk new → Stays old new) → (old.in_transaction ≡ false → new.in_transaction ≡ false) → Reads old new
reads_by old new survives stays mode = record { survives = survives; was_open = λ clean. (stays clean).0; same = λ clean. (stays clean).1; idle = mode }

pub reads_unchanged : (old new : State) → Survives old new (λ _. ⊥) → (HasCleanDisk new → IsUnchanged old new) → (old.in_transaction ≡ false → new.in_transaction ≡ false) → Reads old new
reads_unchanged old new survives same mode = reads_by old new survives (λ clean. stays_unchanged old new (same clean)) mode

-- ---- a query of a whole table

pub commits_nothing : (t : TableName) (params : Row) (old new : State) → Survives old new (CommitsShowing (read_text t) params old) → Survives old new (λ _. ⊥)
unfolding CommitsShowing
commits_nothing t params old new = survives_weaker old new _ _ (λ _ db h. never_returns old.now.schema t (subst Returns (sym h.1.is) h.2))

pub begun_given : {S : Type 0} (g : Ghosts S) (t : TableName) (params : Row) (old new : Held S) → HasBegun g (read_text t) params old new → HasGiven g (read_text t) params new [] × IsUnchanged (state g old) (state g new)
begun_given g t params old new (inl h) = h
begun_given g t params old new (inr h) = absurd (never_returns old.schema t h.0)

module _ {S : Type 0} (g : Ghosts S) (t : TableName) (first now : Held S) (same : IsUnchanged (state g first) (state g now)) (known : AreKnown (state g first).now) where
  -- the rows that were given are the first ones of the table
  pub given_are : (given : List Row) → HasGiven g (read_text t) [] now given → (later : List Row) × (given ++ later ≡ rows_in (state g first).now.trees t)
  given_are given h =
      let is = given_first t (state g now) (subst AreKnown (sym same.0.now_is) known) given (given_begin g (read_text t) [] now given h) in
      (is.0, is.1 ∙ ap (λ (d : Database). rows_in d.trees t) same.0.now_is)

  -- the row that was given last is one of the table's
  pub given_has : (given : List Row) (row : Row) → HasGiven g (read_text t) [] now (given ++ row ∷ []) → Has (rows_in (state g first).now.trees t) row
  given_has given row h =
      let is = given_are (given ++ row ∷ []) h in
      subst (λ (rows : List Row). Has rows row) is.1 (has_left (given ++ row ∷ []) is.0 row (has_right given (row ∷ []) row (inl refl)))

  -- if no row follows those that were given, they are all of the table's
  pub given_all : (last : State) (given : List Row) → Shown (read_text t) [] (state g now) last given → given ≡ rows_in (state g first).now.trees t
  given_all last given h = shown_rows t (state g now) last (subst AreKnown (sym same.0.now_is) known) given h ∙ ap (λ (d : Database). rows_in d.trees t) same.0.now_is

  pub given_refused : {V : Type 0} (takes : V → StoredRow → V → Type 0) (refuses : V → StoredRow → Type 0) (old mid : V) (all : List StoredRow) (row : StoredRow)
      → HasGiven g (read_text t) [] now (map columns_of all ++ columns_of row ∷ []) → table_of row ≡ t → VisitsAll takes old all mid → refuses mid row → RefusesRow takes refuses t (rows_in (state g first).now.trees t) old
  given_refused takes refuses old mid all row h of_table taken refused =
      let is = given_are (map columns_of all ++ columns_of row ∷ []) h in
      record {
        before = all;
        row = row;
        later = is.0;
        mid = mid;
        are = sym (append_assoc (map columns_of all) (columns_of row ∷ []) is.0) ∙ is.1;
        of_table = of_table;
        taken = taken;
        refused = refused;
      }

pub given_on : {S : Type 0} (g : Ghosts S) (t : TableName) (now : Held S) (all : List StoredRow) (row : StoredRow) → HasGiven g (read_text t) [] now (map columns_of all ++ columns_of row ∷ []) → HasGiven g (read_text t) [] now (map columns_of (all ++ row ∷ []))
given_on g t now all row = subst (HasGiven g (read_text t) [] now) (sym (map-append columns_of all (row ∷ [])))
