-- What the statements that list instances by place mean.
use Rattle.std.proofs.Common.{◌≡◌, ℕ, negsuc, false, List, [], ◌∷◌, codes, refl}
use Rattle.sqlite_value.specs.declared.value.Value.TheVariants.{Int}
use Rattle.sqlite_value.specs.declared.keys.Collation.TheVariants.{Binary}
use Rattle.sqlite_value.specs.declared.keys.Key.{Key}
use Rattle.sqlite_value.specs.Keys.{ascending}
use Rattle.sqlite_sql.specs.Term.{Term, lit, col}
use Rattle.sqlite_schema.specs.declared.command.Command.TheVariants.{Select}
use Rattle.sqlite_tied.specs.Compute.{everything}
use Rattle.sqlite.specs.Listing.{understood, reads_listing}
use Rattle.sqlite.proofs.Callers.{IsPlain, command_of}
use Rattle.table_meaning.specs.declared.tables.TableName.TheVariants.{Instance}
use Rattle.table_meaning.specs.Schema.{stored_schema}
use Rattle.table_meaning.specs.Rows.{places_of}
use Rattle.table_meaning.specs.Places.{by_place, newest_first, instance_query, within_text, held_text, owned_text, queued_text, sent_text, due_text, within_terms, held_terms, owned_terms, queued_terms, sent_terms, due_terms}
use Rattle.table_meaning.proofs.ByComputing.{names_of}

-- no limit
abbrev pub all : Term
all = lit (Int (negsuc 0))

-- the columns of the place, and their names
abbrev pub place_columns : List ℕ
place_columns = 1 ∷ 2 ∷ []

abbrev pub place_names : List (List ℕ)
place_names = codes "unit_id" ∷ codes "num" ∷ []

-- The text shows these columns of the instances that pass the terms, in this order and up to this limit.
abbrev pub ListsInstances : List Term → List ℕ → List (Term × Key) → Term → List (List ℕ) → List ℕ → Type 0
ListsInstances terms columns order limit names text = (command_of (understood stored_schema text) ≡ Select (record { lets = []; body = instance_query terms columns order limit }) names)
    × IsPlain (understood stored_schema text) × (reads_listing stored_schema text ≡ false)

pub within_is_listed : ListsInstances within_terms (places_of Instance) by_place all (names_of Instance) within_text
unfolding understood everything
within_is_listed = (refl, (refl, refl), refl)

pub held_is_listed : ListsInstances held_terms place_columns newest_first (col 0 1) place_names held_text
unfolding understood everything
held_is_listed = (refl, (refl, refl), refl)

pub owned_is_listed : ListsInstances owned_terms place_columns by_place all place_names owned_text
unfolding understood everything
owned_is_listed = (refl, (refl, refl), refl)

pub queued_is_listed : ListsInstances queued_terms place_columns by_place (col 0 2) place_names queued_text
unfolding understood everything
queued_is_listed = (refl, (refl, refl), refl)

pub sent_is_listed : ListsInstances sent_terms place_columns ((col 1 4, ascending Binary) ∷ []) all place_names sent_text
unfolding understood everything
sent_is_listed = (refl, (refl, refl), refl)

pub due_is_listed : ListsInstances due_terms place_columns ((col 1 5, ascending Binary) ∷ []) all place_names due_text
unfolding understood everything
due_is_listed = (refl, (refl, refl), refl)
