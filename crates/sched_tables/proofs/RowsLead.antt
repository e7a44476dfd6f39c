-- The rows of a commit lead from the world before it to the world after it.
use Rattle.std.proofs.Common.{◌≡◌, ℕ, Bool, true, false, ◌||◌, List, [], ◌∷◌, ◌++◌, Option, Some, None, refl, sym, subst, ◌∙◌, inl, inr, ap}
use Rattle.std.specs.Prelude.{◌⊎◌}
use Rattle.std.specs.List.{list_any, cons_option, AllByRecursion}
use Rattle.sched_book.specs.Delta.{applied}
use Rattle.sched_book.specs.declared.delta.Delta.{Delta}
use Rattle.sched_book.specs.declared.world.World.{World}
use Rattle.table_meaning.specs.declared.rows.StoredRow.{StoredRow}
use Rattle.table_meaning.specs.Rows.{RowKey, kept_key, batch_key, row_key_of, same_row_key}
use Rattle.table_meaning.specs.Worlds.{SlotCalls, contents_of}
use Rattle.table_meaning.proofs.Keys.{one_key}
use Rattle.table_worlds.proofs.KeysListed.{row_has_key}
use Rattle.table_worlds.proofs.RowsRemain.{none_goes}
use Rattle.table_worlds.specs.Keys.{row_key, row_in}
use Rattle.table_worlds.specs.Readable.{IsReadable}
use Rattle.table_worlds.specs.declared.keys.WorldKey.{WorldKey}
use Rattle.table_worlds.specs.declared.keys.WorldKey.TheVariants as key
use Rattle.stores.specs.Kinds.{kind_name}
use Rattle.stores.specs.declared.entry.Entry.{Entry}
use Rattle.stores.specs.declared.entry.Entry.TheVariants as entry
use Rattle.sched_tables.specs.Commits.{AreRowsToCommit}
use Rattle.sched_tables.specs.Entries.{IsRowOf, ArePutWith}
use Rattle.table_cache.specs.Leading.{IsPut, IsUnput, Lead}

-- ---- keys at which no row is put

no_row_has : (rows : List StoredRow) (k : RowKey) → IsUnput rows k → list_any (λ r. same_row_key k (row_key_of r)) rows ≡ false
no_row_has [] k unput = refl
no_row_has (r ∷ rows) k unput = go (same_row_key k (row_key_of r)) refl (no_row_has rows k unput.1)
  where
    go : (b : Bool) → same_row_key k (row_key_of r) ≡ b → list_any (λ r. same_row_key k (row_key_of r)) rows ≡ false → (b || list_any (λ r. same_row_key k (row_key_of r)) rows) ≡ false
    go true is others = absurd (unput.0 (sym (one_key k (row_key_of r) is)))
    go false is others = others

unput_of_first : (rows more : List StoredRow) (k : RowKey) → IsUnput (rows ++ more) k → IsUnput rows k
unput_of_first [] more k unput = tt
unput_of_first (r ∷ rows) more k unput = (unput.0, unput_of_first rows more k unput.1)

-- there the world after changes has the row that was there before
row_stays : (w : World) (cs : Delta) (more : Option StoredRow) (rows : List StoredRow) → AreRowsToCommit w cs more rows → (k : WorldKey) → IsUnput rows (row_key k) → row_in w k ≡ row_in (applied w cs) k
row_stays w cs more rows put k unput =
    let first = unput_of_first put.changed (cons_option more []) (row_key k) (subst (λ rs. IsUnput rs (row_key k)) put.all unput) in
    elim (put.are.others k (no_row_has put.changed (row_key k) first)) [
      | inl gone ↦ none_goes w cs k gone ∙ sym gone
      | inr same ↦ same
    ]

-- a row that is put is the one that the world after has at its key
not_kept : (k : WorldKey) (host slot : ℕ) → kept_key host slot ≡ row_key k → ⊥
not_kept (key.Account id) host slot same = absurd cc
not_kept (key.App id) host slot same = absurd cc
not_kept (key.Version id) host slot same = absurd cc
not_kept (key.Class id) host slot same = absurd cc
not_kept (key.Unit id) host slot same = absurd cc
not_kept (key.Mark id) host slot same = absurd cc
not_kept (key.Host id) host slot same = absurd cc
not_kept (key.Instance p) host slot same = absurd cc

not_import : (k : WorldKey) (kind name : List ℕ) → batch_key kind name ≡ row_key k → ⊥
not_import (key.Account id) kind name same = absurd cc
not_import (key.App id) kind name same = absurd cc
not_import (key.Version id) kind name same = absurd cc
not_import (key.Class id) kind name same = absurd cc
not_import (key.Unit id) kind name same = absurd cc
not_import (key.Mark id) kind name same = absurd cc
not_import (key.Host id) kind name same = absurd cc
not_import (key.Instance p) kind name same = absurd cc

of_entry : (calls : SlotCalls) (e : Entry) (more : Option StoredRow) → IsRowOf calls e more → (r : StoredRow) (k : WorldKey) → IsPut (cons_option more []) r → row_key_of r ≡ row_key k → ⊥
of_entry calls (entry.Kept host kept) more (slot, for, is) r k put same =
    let there = subst (λ o. IsPut (cons_option o []) r) is put in
    elim there [
      | inl one ↦ not_kept k host slot (sym (ap row_key_of one) ∙ same)
      | inr none ↦ absurd none
    ]
of_entry calls (entry.Batch kind name b) more is r k put same =
    let there = subst (λ o. IsPut (cons_option o []) r) is put in
    elim there [
      | inl one ↦ not_import k (kind_name kind) name (sym (ap row_key_of one) ∙ same)
      | inr none ↦ absurd none
    ]
of_entry calls entry.Nothing more is r k put same = absurd (subst (λ o. IsPut (cons_option o []) r) is put)

put_where : (rows more : List StoredRow) (r : StoredRow) → IsPut (rows ++ more) r → IsPut rows r ⊎ IsPut more r
put_where [] more r put = inr put
put_where (x ∷ rows) more r (inl one) = inl (inl one)
put_where (x ∷ rows) more r (inr later) = elim (put_where rows more r later) [
  | inl there ↦ inl (inr there)
  | inr behind ↦ inr behind
]

has_put : (w : World) (rows : List StoredRow) → AllByRecursion (λ r. (k : WorldKey) × (row_in w k ≡ Some r)) rows → (r : StoredRow) → IsPut rows r → (k : WorldKey) × (row_in w k ≡ Some r)
has_put w [] each r put = absurd put
has_put w (x ∷ rows) each r (inl one) = subst (λ s. (k : WorldKey) × (row_in w k ≡ Some s)) (sym one) each.0
has_put w (x ∷ rows) each r (inr later) = has_put w rows each.1 r later

row_put : (w : World) (cs : Delta) (calls : SlotCalls) (e : Entry) (rows : List StoredRow) (put : ArePutWith w cs calls e rows) → (r : StoredRow) (k : WorldKey) → IsPut rows r → row_key_of r ≡ row_key k → row_in (applied w cs) k ≡ Some r
row_put w cs calls e rows put r k is at = elim (put_where put.2.changed (cons_option put.0 []) r (subst (λ rs. IsPut rs r) put.2.all is)) [
  | inl there ↦
      let has = has_put (applied w cs) put.2.changed put.2.are.each r there in
      let same : row_key k ≡ row_key has.0 = sym at ∙ row_has_key (applied w cs) has.0 r has.1 in
      ap (contents_of (applied w cs) (λ _ _. None) (λ _ _. None)) same ∙ has.1
  | inr behind ↦ absurd (of_entry calls e put.0 put.1 r k behind at)
]

-- the rows of a commit lead from a world to the one with the changes made
pub rows_lead : (w : World) (cs : Delta) (calls : SlotCalls) (e : Entry) (rows : List StoredRow) → IsReadable w → ArePutWith w cs calls e rows → Lead rows w (applied w cs)
rows_lead w cs calls e rows readable are = record {
  was_readable = readable;
  is_readable = are.2.readable;
  stays = row_stays w cs are.0 rows are.2;
  put = row_put w cs calls e rows are;
}
