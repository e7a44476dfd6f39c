-- The facts of a put, for any columns that have the types of their table.
use Rattle.std.proofs.Common.{◌≡◌, ℕ, ℤ, pos, true, false, ◌&&◌, List, [], ◌∷◌, map, take, drop, refl, sym, ap, ap₂, subst, ◌∙◌}
use Rattle.std.specs.List.{range_with_len}
use Rattle.std.proofs.lemmas.List.{length-map}
use Rattle.sqlite_value.specs.declared.value.Value.TheVariants.{Int}
use Rattle.sqlite_value.specs.declared.keys.Collation.TheVariants.{Binary}
use Rattle.sqlite_value.specs.Order.{Row, column}
use Rattle.sqlite_value.specs.Keys.{plain, first_key}
use Rattle.sqlite_trees.specs.Tree.{rowid}
use Rattle.sqlite_schema.specs.declared.schema.Table.{Table}
use Rattle.sqlite_sql.specs.declared.ops.CompareOp.TheVariants.{Eq}
use Rattle.sqlite_schema.specs.Rules.{agree, equal}
use Rattle.sqlite_rules.specs.declared.error.Rowids.TheVariants.{Chosen}
use Rattle.sqlite_rules.specs.Cast.{cast_row}
use Rattle.sqlite_rules.specs.Edit.{next_rowid, with_rowid}
use Rattle.sqlite_rules.proofs.KeyLemmas.{agree_back, agree_chain}
use Rattle.sqlite_keyed.proofs.KeyedLemmas.{same_int}
use Rattle.sqlite_typed.proofs.TestLemmas.{at_ints, last_term}
use Rattle.table_meaning.specs.declared.tables.TableName.{TableName}
use Rattle.table_meaning.specs.Kinds.{Kind, number}
use Rattle.table_meaning.specs.Layouts.{Key, numbered, by_first, layout_of, places_by, key_width}
use Rattle.table_meaning.specs.Schema.{newest, table_by}
use Rattle.table_meaning.specs.Formats.{kinds_of}
use Rattle.table_meaning.proofs.ByComputing.{BeginsBy, computed}
use Rattle.table_meaning.proofs.Columns.{key_by, count_of, key_shown, written_out, columns_after_number, IsNumberedBy, with_number, source_by}
use Rattle.table_meaning.proofs.FormatLemmas.{whole_row}
use Rattle.table_meaning.proofs.PutRows.{agree_from}
use Rattle.table_meaning.proofs.Putting.{PutsAt, Facts}
use Rattle.table_meaning.proofs.Typed.{have_types, long, first_number, cast_null, cast_behind}

-- ---- by the two cases of a key

-- the row that is put has the row's number, or gets one
begins_by : (key : Key) (kinds : List Kind) (table : Table) (c : Row) → BeginsBy key kinds → have_types kinds c ≡ true → ((id : ℤ) → cast_row table (Int id ∷ columns_after_number key c) ≡ Int id ∷ columns_after_number key c)
    → (xs : List Row) → (id : ℤ) × IsNumberedBy key c id × (with_rowid Chosen xs (cast_row table (source_by key c)) ≡ Int id ∷ columns_after_number key c)
begins_by numbered kinds table c starts typed fixed xs =
    let first = first_number starts.0 c (subst (λ ks. have_types ks c ≡ true) starts.1 typed) in
    (first.0, first.1, ap (with_rowid Chosen xs) (ap (λ v. cast_row table (v ∷ columns_after_number numbered c)) first.1 ∙ fixed first.0))
begins_by (by_first n) kinds table c starts typed fixed xs = (next_rowid xs, tt, ap (with_rowid Chosen xs) (ap₂ ◌∷◌ (cast_null number) (ap (drop 1) (fixed (pos 0)))))

-- columns with the number that they already have are unchanged
with_its_number : (key : Key) (c : Row) (id : ℤ) → IsNumberedBy key c id → with_number key id c ≡ c
with_its_number numbered [] id is = absurd (cc)
with_its_number numbered (v ∷ c) id is = ap (λ u. u ∷ c) (sym is)
with_its_number (by_first n) c id is = refl

-- a row that has the key of the columns has it under its own number
keys_by : (key : Key) (count : ℕ) (c r : Row) (id other : ℤ) → ((i : ℤ) → map (column (Int i ∷ columns_after_number key c)) (take (key_width key) (places_by key count)) ≡ take (key_width key) (with_number key i c))
    → rowid r ≡ Int id → IsNumberedBy key c other → agree plain (take (key_width key) (places_by key count)) r (take (key_width key) (places_by key count)) (Int other ∷ columns_after_number key c) ≡ true
    → IsNumberedBy key c id
    × (agree plain (take (key_width key) (places_by key count)) (Int id ∷ columns_after_number key c) (take (key_width key) (places_by key count)) (Int other ∷ columns_after_number key c) ≡ true)
unfolding first_key
keys_by numbered count c r id other shows is named h =
    let same : (equal Binary (Int id) (Int other) && true) ≡ true = subst (λ v. (equal Binary v (Int other) && true) ≡ true) is h in
    (named ∙ ap Int (sym (same_int id other (sym (last_term (at_ints false Eq id other)) ∙ same))), same)
keys_by (by_first n) count c r id other shows is named h =
    let places = take n (range_with_len 1 count) in
    let row = Int other ∷ c in
    (tt, agree_from plain places places places (Int id ∷ c) row row (shows id ∙ sym (shows other)) ∙ agree_chain plain places places places row r row (agree_back plain places places r row h) h)

-- ---- the facts

-- columns written out are the columns themselves
pub written_whole : (t : TableName) (c : Row) → have_types (kinds_of t) c ≡ true → written_out t c ≡ c
written_whole t c typed = whole_row c (count_of t) (long (kinds_of t) c typed ∙ length-map (layout_of t).columns _)

-- at the newest schema
pub puts_newest : (t : TableName) → PutsAt newest t
puts_newest t = let it = computed t in record { is = it.puts; plain_text = it.plain_text; listed = it.listed; meets = it.meets }

module _ (n : ℕ) (t : TableName) (at : PutsAt n t) (c : Row) where
  written_facts : have_types (kinds_of t) (written_out t c) ≡ true → Facts n t (written_out t c)
  written_facts typed =
      let it = computed t in
      let fixed = cast_behind (layout_of t) (written_out t c) typed in
      record {
        at = at;
        own = it.own;
        values = it.values c;
        begins = begins_by (key_by t) (kinds_of t) (table_by t) (written_out t c) it.starts typed fixed;
        fixed = fixed;
        meets = at.meets c;
        slot_is = it.slot_is c;
        columns_are = it.columns_are c;
        keys = λ r id other. keys_by (key_by t) (count_of t) (written_out t c) r id other (λ i. key_shown t (Int i ∷ columns_after_number (key_by t) (written_out t c)) _ (it.shows c i));
        shows = λ id is. it.shows c id ∙ with_its_number (key_by t) (written_out t c) id is;
      }

  pub facts_at : have_types (kinds_of t) c ≡ true → Facts n t c
  facts_at typed =
      let whole = written_whole t c typed in
      subst (Facts n t) whole (written_facts (subst (λ r. have_types (kinds_of t) r ≡ true) (sym whole) typed))

pub facts : (t : TableName) (c : Row) → have_types (kinds_of t) c ≡ true → Facts newest t c
facts t = facts_at newest t (puts_newest t)
