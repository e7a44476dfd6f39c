-- What each statement that lists instances by place shows.
use Rattle.std.proofs.Common.{◌≡◌, ◌≤◌, ℕ, ℤ, Bool, true, false, ◌&&◌, List, [], ◌∷◌, map, length, take, Some, refl, sym, ap, subst, ◌∙◌, IsPermutation}
use Rattle.std.specs.List.{list_all}
use Rattle.std.proofs.lemmas.List.{length-map}
use Rattle.std.proofs.lemmas.List.Sorted.{IsPermutation-map, length_permutation}
use Rattle.sched_book.specs.declared.instance.Place.{Place}
use Rattle.sqlite_value.specs.declared.value.Value.{Value}
use Rattle.sqlite_value.specs.declared.value.Value.TheVariants.{Null, Int}
use Rattle.sqlite_value.specs.declared.keys.Collation.TheVariants.{Binary}
use Rattle.sqlite_value.specs.declared.keys.Key.{Key}
use Rattle.sqlite_value.specs.Order.{Row, column, value_cmp}
use Rattle.sqlite_value.specs.Keys.{ascending}
use Rattle.sqlite_sql.specs.declared.ops.BinaryOp.TheVariants.{Is}
use Rattle.sqlite_sql.specs.declared.ops.CompareOp.TheVariants.{Eq, Lt, Ge}
use Rattle.sqlite_sql.specs.Ops.{is_null, is_true, binary}
use Rattle.sqlite_sql.specs.Term.{Term, col, eval, holds}
use Rattle.sqlite_sql.specs.Program.{overlay}
use Rattle.sqlite_sql.specs.Query.{as_count, limited, IsAnswer}
use Rattle.sqlite_keyed.proofs.ListLemmas.{map-map, map_back}
use Rattle.sqlite_typed.proofs.TestLemmas.{at_or, then_term, last_term}
use Rattle.sqlite.specs.State.{State, Shown}
use Rattle.sqlite.proofs.Callers.{reads_as}
use Rattle.table_meaning.specs.declared.tables.TableName.TheVariants.{Instance}
use Rattle.table_meaning.specs.Schema.{stored_schema}
use Rattle.table_meaning.specs.Rows.{shown, whole}
use Rattle.table_meaning.specs.Formats.{columns_in}
use Rattle.table_meaning.specs.Holding.{Contents, Hold}
use Rattle.table_meaning.specs.Kept.{number_of}
use Rattle.table_meaning.specs.Places.{place_row, AreAllPlaces, places_with_row, compares, is_of_host, is_running, is_row_held_by, waits_from, is_sent_between, is_due, by_place, newest_first, held_text, owned_text, queued_text, sent_text, due_text, running_terms, held_terms, owned_terms, queued_terms, sent_terms, due_terms, instance_query}
use Rattle.table_meaning.proofs.PlacesFound.{standing, standing_places}
use Rattle.table_meaning.proofs.PlacesListed.{limited-map, picked, listed_somehow, listed_most, listed_in_order}
use Rattle.table_meaning.proofs.PlacesTexts.{all, place_columns, held_is_listed, owned_is_listed, queued_is_listed, sent_is_listed, due_is_listed, place_names, ListsInstances}

-- ---- the places that are read from the rows shown

-- The rows show these places, one to one.
abbrev pub ArePlaces : List Place → List Row → Type 0
ArePlaces ps rows = map place_row ps ≡ map (λ r. columns_in r 2) rows

abbrev place_in : Row → Place
place_in row = record { unit = number_of (column row 0); number = number_of (column row 1) }

read_back : (ps : List Place) → map place_in (map place_row ps) ≡ ps
read_back ps = map_back place_row place_in (λ p. refl) ps

-- ---- the tests that WHERE makes

at_null : (v : Value) → is_true (binary (Is Binary) v Null) ≡ is_null v
unfolding value_cmp binary lib.Ieee.is_nan lib.Ieee.lt
at_null Null = refl
at_null _ = refl

running : (params r : Row) → list_all (holds (params ∷ r ∷ [])) running_terms ≡ is_running (shown Instance r)
running params r = then_term refl (last_term (at_null (column r 7)))

queued : (p : Place) (most : ℕ) (r : Row) → list_all (holds ((whole p.unit ∷ whole p.number ∷ whole most ∷ []) ∷ r ∷ [])) queued_terms ≡ waits_from p (shown Instance r)
queued p most r = then_term refl (then_term refl (last_term (at_or false _ _ refl refl)))

sent : (host : ℕ) (from until : ℤ) (r : Row) → list_all (holds ((whole host ∷ Int from ∷ Int until ∷ []) ∷ r ∷ [])) sent_terms ≡ is_sent_between host from until (shown Instance r)
sent host from until r = ap (λ (b : Bool). compares Eq (column r 3) (whole host) && (compares Ge (column r 4) (Int from) && b)) (last_term {x = compares Lt (column r 4) (Int until)} refl)

and_before : (x y z : Bool) → (x && (y && z)) ≡ ((x && y) && z)
and_before true y z = refl
and_before false y z = refl

due : (from until : ℤ) (r : Row) → list_all (holds ((Int from ∷ Int until ∷ []) ∷ r ∷ [])) due_terms ≡ is_due from until (shown Instance r)
due from until r =
    ap (λ (b : Bool). compares Ge (column r 5) (Int from) && (compares Lt (column r 5) (Int until) && b)) (running (Int from ∷ Int until ∷ []) r)
    ∙ and_before (compares Ge (column r 5) (Int from)) (compares Lt (column r 5) (Int until)) (is_running (shown Instance r))

-- ---- what each statement shows

module _ (old new : State) (contents : Contents) (held : Hold old.now contents) (places : List Place) (are : AreAllPlaces contents places) where
  -- a text that lists the places of instances
  module _ (text : List ℕ) (params : Row) (terms : List Term) (order : List (Term × Key)) (limit : Term) (means : ListsInstances terms place_columns order limit place_names text) (test : Row → Bool)
      (tests : (r : Row) → list_all (holds (params ∷ r ∷ [])) terms ≡ test (shown Instance r)) (rows : List Row) (h : Shown text params old new rows) (ps : List Place) (read : ArePlaces ps rows) where
    abbrev passing : List Place
    passing = places_with_row contents test places

    abbrev shown_places : List Row
    shown_places = picked old.now contents held places are terms params test tests []

    answer : IsAnswer (instance_query terms place_columns order limit) (overlay old.now.trees []) params rows
    answer = (reads_as text params old new stored_schema held.known.schema _ means.0 means.1 means.2 rows h).answer Null

    places_shown : map (λ r. columns_in r 2) shown_places ≡ map place_row passing
    places_shown = map-map (λ r. columns_in r 2) (λ r. map (column r) place_columns) (standing old.now contents held places are test) ∙ standing_places old.now contents held places are test

    as_many : length shown_places ≡ length passing
    as_many = sym (length-map shown_places (λ r. columns_in r 2)) ∙ ap length places_shown ∙ length-map passing place_row

    somehow : IsPermutation shown_places rows → IsPermutation passing ps
    somehow listed =
        let rows_same : IsPermutation (map place_row passing) (map place_row ps) =
        subst (λ l. IsPermutation l (map place_row ps)) places_shown (subst (IsPermutation (map (λ r. columns_in r 2) shown_places)) (sym read) (IsPermutation-map (λ r. columns_in r 2) _ _ listed)) in
        subst (λ l. IsPermutation l ps) (read_back passing) (subst (IsPermutation (map place_in (map place_row passing))) (read_back ps) (IsPermutation-map place_in _ _ rows_same))

    in_order : order ≡ by_place → ps ≡ limited (as_count (eval limit (params ∷ []))) passing
    in_order by_places =
        let most = as_count (eval limit (params ∷ [])) in
        let listed = listed_in_order old.now contents held places are terms params test tests [] order limit rows answer by_places in
        sym (read_back ps)
        ∙ ap (map place_in) (read ∙ ap (map (λ r. columns_in r 2)) listed ∙ limited-map (λ r. columns_in r 2) most shown_places ∙ ap (limited most) places_shown ∙ sym (limited-map place_row most passing))
        ∙ read_back (limited most passing)

    in_any_order : limit ≡ all → IsPermutation passing ps
    in_any_order unlimited = somehow (listed_somehow old.now contents held places are terms params test tests [] order limit rows answer unlimited)

    at_most : (most : ℕ) → as_count (eval limit (params ∷ [])) ≡ Some most → length passing ≤ most → IsPermutation passing ps
    at_most most is few = somehow (listed_most old.now contents held places are terms params test tests [] order limit rows answer most is (subst (λ n. n ≤ most) (sym as_many) few))

  pub held_shown : (host most : ℕ) (rows : List Row) → Shown held_text (whole host ∷ whole most ∷ []) old new rows → (ps : List Place) → ArePlaces ps rows
      → length (places_with_row contents (is_row_held_by host) places) ≤ most → IsPermutation (places_with_row contents (is_row_held_by host) places) ps
  held_shown host most rows h ps read few =
      let params = whole host ∷ whole most ∷ [] in
      at_most held_text params held_terms newest_first (col 0 1) held_is_listed (is_row_held_by host) (λ r. then_term refl (then_term refl (running params r))) rows h ps read most refl few

  pub owned_shown : (host : ℕ) (rows : List Row) → Shown owned_text (whole host ∷ []) old new rows → (ps : List Place) → ArePlaces ps rows → ps ≡ places_with_row contents (is_of_host host) places
  owned_shown host rows h ps read = in_order owned_text (whole host ∷ []) owned_terms by_place all owned_is_listed (is_of_host host) (λ r. last_term refl) rows h ps read refl

  pub queued_shown : (from : Place) (most : ℕ) (rows : List Row) → Shown queued_text (whole from.unit ∷ whole from.number ∷ whole most ∷ []) old new rows → (ps : List Place) → ArePlaces ps rows
      → ps ≡ take most (places_with_row contents (waits_from from) places)
  queued_shown from most rows h ps read =
      in_order queued_text (whole from.unit ∷ whole from.number ∷ whole most ∷ []) queued_terms by_place (col 0 2) queued_is_listed (waits_from from) (queued from most) rows h ps read refl

  pub sent_shown : (host : ℕ) (from until : ℤ) (rows : List Row) → Shown sent_text (whole host ∷ Int from ∷ Int until ∷ []) old new rows → (ps : List Place) → ArePlaces ps rows
      → length ps ≡ length (places_with_row contents (is_sent_between host from until) places)
  sent_shown host from until rows h ps read =
      length_permutation _ _ (in_any_order sent_text (whole host ∷ Int from ∷ Int until ∷ []) sent_terms ((col 1 4, ascending Binary) ∷ []) all sent_is_listed (is_sent_between host from until)
      (sent host from until) rows h ps read refl)

  pub due_shown : (from until : ℤ) (rows : List Row) → Shown due_text (Int from ∷ Int until ∷ []) old new rows → (ps : List Place) → ArePlaces ps rows → IsPermutation (places_with_row contents (is_due from until) places) ps
  due_shown from until rows h ps read =
      in_any_order due_text (Int from ∷ Int until ∷ []) due_terms ((col 1 5, ascending Binary) ∷ []) all due_is_listed (is_due from until) (due from until) rows h ps read refl
