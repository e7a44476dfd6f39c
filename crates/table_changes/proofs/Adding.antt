-- Rows appended to others, as changes at more keys.
use Rattle.std.proofs.Common.{◌≡◌, ◌⊎◌, Bool, true, false, ◌||◌, List, [], ◌∷◌, ◌++◌, Option, Some, None, refl, sym, ap, subst, ◌∙◌, inl, inr, true≢false, append-nil, append_assoc}
use Rattle.std.specs.List.{AllByRecursion, cons_option}
use Rattle.std.proofs.lemmas.Bool.{or_parts}
use Rattle.std.proofs.lemmas.List.Folds.{list_any-append}
use Rattle.std.proofs.lemmas.Option.{none-some}
use Rattle.sched_book.specs.declared.world.World.{World}
use Rattle.table_meaning.specs.declared.rows.StoredRow.{StoredRow}
use Rattle.table_meaning.specs.Rows.{row_key_of, same_row_key}
use Rattle.table_meaning.proofs.Keys.{key_itself}
use Rattle.table_worlds.specs.declared.keys.WorldKey.{WorldKey}
use Rattle.table_worlds.specs.Keys.{row_key, row_in}
use Rattle.table_worlds.specs.Changes.{IsChange, AreChanges}
use Rattle.table_worlds.proofs.KeysListed.{row_has_key}
use Rattle.table_changes.specs.Added.{is_put, AreChangesAt, AreAdded}

-- at a key, the world after has no row, or that of the world before
abbrev pub IsSettled : World → World → WorldKey → Type 0
IsSettled before after key = (row_in after key ≡ None) ⊎ (row_in before key ≡ row_in after key)

abbrev pub IsRowOf : World → StoredRow → Type 0
IsRowOf after r = (key : WorldKey) × (row_in after key ≡ Some r)

pub all_both : {X : Type 0} (P : X → Type 0) (xs ys : List X) → AllByRecursion P xs → AllByRecursion P ys → AllByRecursion P (xs ++ ys)
all_both P [] ys first later = later
all_both P (x ∷ xs) ys first later = (first.0, all_both P xs ys first.1 later)

pub all_so : {X : Type 0} (P Q : X → Type 0) → ((x : X) → P x → Q x) → (xs : List X) → AllByRecursion P xs → AllByRecursion Q xs
all_so P Q so [] all = tt
all_so P Q so (x ∷ xs) all = (so x all.0, all_so P Q so xs all.1)

-- a key that two lists together do not put is put by neither
pub put_of_neither : (xs ys : List StoredRow) (k : WorldKey) → is_put (xs ++ ys) k ≡ false → (is_put xs k ≡ false) × (is_put ys k ≡ false)
put_of_neither xs ys k none =
    or_parts (is_put xs k) (is_put ys k) (sym (list_any-append (λ r. same_row_key (row_key k) (row_key_of r)) xs ys) ∙ none)

-- the row of a key puts that key
pub puts_own : (w : World) (key : WorldKey) (r : StoredRow) (rows : List StoredRow) → row_in w key ≡ Some r → is_put (r ∷ rows) key ≡ true
puts_own w key r rows is =
    ap (λ b. b || is_put rows key) (ap (λ j. same_row_key j (row_key_of r)) (sym (row_has_key w key r is)) ∙ key_itself (row_key_of r))

-- if the further rows are the new world's, they account for the further keys
pub changes_more : (at wider : WorldKey → Bool) (before after : World) (xs ys : List StoredRow)
    → ((k : WorldKey) → wider k ≡ true → (at k ≡ true) ⊎ (is_put ys k ≡ false → IsSettled before after k)) → AllByRecursion (IsRowOf after) ys
    → AreChangesAt at before after xs → AreChangesAt wider before after (xs ++ ys)
changes_more at wider before after xs ys split rows so_far = record {
  each = all_both (IsRowOf after) xs ys so_far.each rows;
  others = λ k is not_put.
      let parts = put_of_neither xs ys k not_put in
      elim (split k is) [ inl here ↦ so_far.others k here parts.0 | inr settled ↦ settled parts.1 ];
}

-- the row at one key, if it changed
one_row : (before after : World) (key : WorldKey) (row : Option StoredRow) → IsChange (row_in before key) (row_in after key) row → AllByRecursion (IsRowOf after) (cons_option row [])
one_row before after key None change = tt
one_row before after key (Some r) (inl same) = absurd (none-some r (sym same.0))
one_row before after key (Some r) (inr changed) = ((key, changed.1 ∙ sym changed.2), tt)

one_settled : (before after : World) (key k : WorldKey) (row : Option StoredRow) → IsChange (row_in before key) (row_in after key) row → k ≡ key
    → is_put (cons_option row []) k ≡ false → IsSettled before after k
one_settled before after key k None (inl same) this not_put = subst (IsSettled before after) (sym this) same.1
one_settled before after key k None (inr changed) this not_put = absurd (none-some changed.0 changed.2)
one_settled before after key k (Some r) (inl same) this not_put = absurd (none-some r (sym same.0))
one_settled before after key k (Some r) (inr changed) this not_put =
    absurd (true≢false (sym (puts_own after k r [] (ap (row_in after) this ∙ changed.1 ∙ sym changed.2)) ∙ not_put))

pub one_added : (at wider : WorldKey → Bool) (key : WorldKey) (before after : World) (old rows new : List StoredRow) (row : Option StoredRow)
    → ((k : WorldKey) → wider k ≡ true → (k ≡ key) ⊎ (at k ≡ true)) → IsChange (row_in before key) (row_in after key) row → new ≡ rows ++ cons_option row []
    → AreAdded at before after old rows → AreAdded wider before after old new
one_added at wider key before after old rows new row split change put so_far = record {
  more = so_far.more ++ cons_option row [];
  behind = put ∙ ap (λ l. l ++ cons_option row []) so_far.behind ∙ append_assoc old so_far.more (cons_option row []);
  changes = changes_more at wider before after so_far.more (cons_option row [])
      (λ k is. elim (split k is) [ inl this ↦ inr (one_settled before after key k row change this) | inr here ↦ inl here ])
      (one_row before after key row change) so_far.changes;
}

-- none yet
pub none_added : (at : WorldKey → Bool) (before after : World) (rows : List StoredRow) → ((k : WorldKey) → at k ≡ true → IsSettled before after k) → AreAdded at before after rows rows
none_added at before after rows settled = record {
  more = [];
  behind = sym (append-nil rows);
  changes = record { each = tt; others = λ k is not_put. settled k is };
}

-- at a wider set of keys: each is one of these keys, or settled
pub added_at : (at wider : WorldKey → Bool) (before after : World) (old new : List StoredRow)
    → ((k : WorldKey) → wider k ≡ true → (at k ≡ true) ⊎ IsSettled before after k) → AreAdded at before after old new → AreAdded wider before after old new
added_at at wider before after old new split added = record {
  more = added.more;
  behind = added.behind;
  changes = record {
    each = added.changes.each;
    others = λ k is not_put. elim (split k is) [ inl here ↦ added.changes.others k here not_put | inr settled ↦ settled ];
  };
}

-- further rows after them
pub added_then : (first second wider : WorldKey → Bool) (before after : World) (old mid new : List StoredRow)
    → ((k : WorldKey) → wider k ≡ true → (first k ≡ true) ⊎ (second k ≡ true)) → AreAdded first before after old mid → AreAdded second before after mid new
    → AreAdded wider before after old new
added_then first second wider before after old mid new split one two = record {
  more = one.more ++ two.more;
  behind = two.behind ∙ ap (λ l. l ++ two.more) one.behind ∙ append_assoc old one.more two.more;
  changes = changes_more first wider before after one.more two.more
      (λ k is. elim (split k is) [ inl here ↦ inl here | inr later ↦ inr (two.changes.others k later) ])
      two.changes.each one.changes;
}

-- all rows, if nothing changed at the other keys
pub all_added : (at : WorldKey → Bool) (before after : World) (old new : List StoredRow) → ((k : WorldKey) → at k ≡ false → IsSettled before after k) → old ≡ []
    → AreAdded at before after old new → AreChanges before after new
all_added at before after old new settled none added =
    subst (AreChanges before after) (sym (added.behind ∙ ap (λ l. l ++ added.more) none)) (record {
      each = added.changes.each;
      others = λ k not_put. cases k (at k) refl not_put;
    })
  where
    cases : (k : WorldKey) (b : Bool) → at k ≡ b → is_put added.more k ≡ false → IsSettled before after k
    cases k true is not_put = added.changes.others k is not_put
    cases k false is not_put = settled k is

-- a world has all rows of another
abbrev pub KeepsRows : World → World → Type 0
KeepsRows w v = (key : WorldKey) (r : StoredRow) → row_in w key ≡ Some r → row_in v key ≡ Some r

-- changes after changes, where the later ones keep the rows that exist
pub changes_then : (w v u : World) (rows more new : List StoredRow) → KeepsRows v u → new ≡ rows ++ more → AreChanges v u more → AreChanges w v rows → AreChanges w u new
changes_then w v u rows more new keeps behind later so_far =
    subst (AreChanges w u) (sym behind) (record {
      each = all_both (IsRowOf u) rows more (all_so (IsRowOf v) (IsRowOf u) (λ r is. (is.0, keeps is.0 r is.1)) rows so_far.each) later.each;
      others = λ key not_put.
          let parts = put_of_neither rows more key not_put in
          elim (later.others key parts.1) [
            | inl none ↦ inl none
            | inr same ↦ elim (so_far.others key parts.0) [ inl none ↦ inl (sym same ∙ none) | inr before ↦ inr (before ∙ same) ]
          ];
    })

-- no change at all
pub no_changes : (w : World) → AreChanges w w []
no_changes w = record { each = tt; others = λ key not_put. inr refl }
