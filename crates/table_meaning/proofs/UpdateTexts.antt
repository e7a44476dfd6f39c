-- What is computed with the texts that update the row at a key, for the tables whose rows mostly exist before they are put.
use Rattle.std.proofs.Common.{◌≡◌, ℕ, Bool, true, false, cond, List, [], ◌∷◌, map, length, Some, None, refl, sym, true≢false}
use Rattle.std.specs.List.{range_with_len}
use Rattle.std.proofs.lemmas.Option.{none-some}
use Rattle.sqlite_value.specs.Order.{Row, column}
use Rattle.sqlite_sql.specs.Term.{eval_all}
use Rattle.sqlite_tied.specs.Compute.{everything}
use Rattle.sqlite.specs.Listing.{understood}
use Rattle.sqlite.proofs.Callers.{IsPlain, command_of}
use Rattle.table_meaning.specs.declared.tables.TableName.{TableName}
use Rattle.table_meaning.specs.declared.tables.TableName.TheVariants.{Unit, Host, Instance}
use Rattle.table_meaning.specs.Layouts.{layout_of, of_key}
use Rattle.table_meaning.specs.Schema.{stored_schema, table_place}
use Rattle.table_meaning.specs.Texts.{update_text, mostly_exist, update_first}
use Rattle.table_meaning.specs.Rows.{tree_of, key_places}
use Rattle.table_meaning.specs.Upserts.{keyed_query, update_command}
use Rattle.table_meaning.proofs.Columns.{key_by, count_of, written_out, columns_after_number, given_terms}

pub record ChangesRow (t : TableName) : Type 0 where
  -- what the text means
  pub is : command_of (understood stored_schema (update_text t)) ≡ update_command (table_place t) (keyed_query (tree_of t) (key_places t) (given_terms (key_by t) (count_of t)))
  pub plain_text : IsPlain (understood stored_schema (update_text t))
  -- what happens to the columns, and which of them are the key
  pub columns_are : (c r : Row) → eval_all (given_terms (key_by t) (count_of t)) (written_out t c ∷ r ∷ []) ≡ columns_after_number (key_by t) (written_out t c)
  pub key_is : (c : Row) → map (column (written_out t c)) (range_with_len 0 (length (key_places t))) ≡ of_key (layout_of t) (written_out t c)

pub changes_row : (t : TableName) → mostly_exist t ≡ true → ChangesRow t
unfolding understood everything
changes_row Unit h = record { is = refl; plain_text = (refl, refl); columns_are = λ c r. refl; key_is = λ c. refl }
changes_row Host h = record { is = refl; plain_text = (refl, refl); columns_are = λ c r. refl; key_is = λ c. refl }
changes_row Instance h = record { is = refl; plain_text = (refl, refl); columns_are = λ c r. refl; key_is = λ c. refl }
changes_row _ h = absurd (true≢false (sym h))

-- the text that is tried first is such a text
pub tried_first : (t : TableName) (text : List ℕ) → Some text ≡ update_first t → (mostly_exist t ≡ true) × (text ≡ update_text t)
tried_first t text = go (mostly_exist t)
  where
    go : (b : Bool) → Some text ≡ cond b (Some (update_text t)) None → (b ≡ true) × (text ≡ update_text t)
    go true h = (refl, let e : text ≡ update_text t = cc in e)
    go false h = absurd (none-some _ (sym h))
