-- Why tables are refused, by what a reading of them says.
use Rattle.std.proofs.Common.{◌≡◌, ◌≢◌, ◌⊎◌, ◌≤◌, ◌<◌, ℕ, Bool, true, false, ◌&&◌, List, length, find, codes, Option, Some, None, option_map, Result, Ok, Err, IfErr, refl, sym, ap, ap₂, subst, ◌∙◌, inl, inr, arith}
use Rattle.std.specs.Prelude.{IfSome}
use Rattle.std.proofs.lemmas.Option.{none-some, same_Some}
use Rattle.std.proofs.lemmas.Slice.Eq.{bytes_eq-Decides}
use Rattle.sqlite.specs.Effect.{Database}
use Rattle.sqlite.specs.Held.{Held, state}
use Rattle.sqlite.specs.State.{HasCleanDisk}
use Rattle.sqlite_rules.specs.Lists.{Has}
use Rattle.sqlite_rules.proofs.ProbeLemmas.{mapped_has, has_mapped}
use Rattle.sqlite_trees.specs.Tree.{Trees}
use Rattle.sqlite_trees.specs.declared.store.Store.{Ghosts}
use Rattle.sqlite_schema.specs.Rules.{equal}
use Rattle.sqlite_value.specs.declared.keys.Collation.TheVariants.{Binary}
use Rattle.sqlite_value.specs.declared.value.Value.TheVariants.{Text}
use Rattle.sqlite_value.specs.Keys.{first_key}
use Rattle.sqlite_value.specs.Order.{Row, column}
use Rattle.table_decoding.specs.Decoding.{schema_row}
use Rattle.table_meaning.specs.declared.rows.SettingValue.{SettingValue}
use Rattle.table_meaning.specs.declared.rows.SettingValue.TheVariants.{Number, Word}
use Rattle.table_meaning.specs.declared.rows.StoredRow.{StoredRow}
use Rattle.table_meaning.specs.declared.rows.StoredRow.TheVariants as stored
use Rattle.table_meaning.specs.declared.tables.TableName.TheVariants as name
use Rattle.table_meaning.specs.Holding.{AreKnown}
use Rattle.table_meaning.specs.Rows.{RowKey, setting_key, whole, setting_value, columns_of, has_key, shown, tree_of}
use Rattle.table_meaning.specs.Schema.{newest, schema_at, stored_schema}
use Rattle.table_meaning.specs.Schemas.{AreEarlier, schema_setting}
use Rattle.table_meaning.proofs.Keys.{same_cell}
use Rattle.table_meaning.proofs.RowsHeld.{found}
use Rattle.table_desk.proofs.Found.{equal_texts}
use Rattle.table_reading.specs.Reading.{HasBadTable, RepresentNone, HasOtherSchema}
use Rattle.table_rows.specs.declared.opening.OpenFault.{OpenFault}
use Rattle.table_rows.specs.declared.opening.OpenFault.TheVariants as fault
use Rattle.table_rows.specs.declared.opening.OpenRefusal.{OpenRefusal}
use Rattle.table_rows.specs.declared.opening.OpenRefusal.TheVariants as refused
use Rattle.table_rows.specs.Refusing.{fault_of, refusal_for, given_back, IsUnavailable}
use Rattle.sched_tables.specs.Held.{NeverFails}
use Rattle.sched_tables.specs.Refusals.{AreRefusedFor}

-- ---- the row that names the schema

tells_newest : (v : SettingValue) → setting_value v ≡ whole newest → v ≡ Number newest
tells_newest (Number n) is = cc
tells_newest (Word w) is = cc

no_text : (n : ℕ) → equal Binary (whole n) (Text (codes "schema")) ≡ true → ⊥
no_text n is = let same : whole n ≡ Text (codes "schema") = same_cell (whole n) (Text (codes "schema")) refl refl is in cc

-- a row that begins with `schema`, and then has the number of the newest one, is the row of the schema
is_schema_row : (r : StoredRow) → equal Binary (column (columns_of r) 0) (Text (codes "schema")) ≡ true → column (columns_of r) 1 ≡ whole newest → r ≡ schema_row
is_schema_row (stored.Setting s) named is =
    ap₂ (λ n v. stored.Setting (record { name = n; value = v })) ((bytes_eq-Decides s.name (codes "schema")).0 (sym (equal_texts s.name (codes "schema")) ∙ named)) (tells_newest s.value is)
is_schema_row (stored.Account r) named is = absurd (no_text _ named)
is_schema_row (stored.App r) named is = absurd (no_text _ named)
is_schema_row (stored.Version r) named is = absurd (no_text _ named)
is_schema_row (stored.Unit r) named is = absurd (no_text _ named)
is_schema_row (stored.Host r) named is = absurd (no_text _ named)
is_schema_row (stored.Instance r) named is = absurd (no_text _ named)
is_schema_row (stored.Kept r) named is = absurd (no_text _ named)
is_schema_row (stored.Batch r) named is = cc
is_schema_row (stored.VersionClass r) named is = absurd (no_text _ named)
is_schema_row (stored.UnitMark r) named is = absurd (no_text _ named)

-- a row of the settings at the key of a name begins with the name
begins_with : (text : List ℕ) (raw : Row) → has_key (setting_key text) raw ≡ true → equal Binary (column (shown name.Setting raw) 0) (Text text) ≡ true
unfolding first_key
begins_with text raw own = first_of (equal Binary (column (shown name.Setting raw) 0) (Text text)) own
  where
    first_of : (b : Bool) → (b && true) ≡ true → b ≡ true
    first_of true own = refl
    first_of false own = own

-- if no setting names the newest schema, the tables do not say that they are of it
not_said : (trees : Trees) → HasOtherSchema trees → schema_setting trees ≡ Some (whole newest) → ⊥
not_said trees other said = elim (found (has_key key) (trees (tree_of name.Setting))) [
  | inl none ↦ none-some (whole newest) (sym (ap (option_map (λ row. column (shown name.Setting row) 1)) none.0) ∙ of_shown (find (has_key key) (trees (tree_of name.Setting))) ∙ said)
  | inr one ↦
      let row = shown name.Setting one.0 in
      let value : column row 1 ≡ whole newest =
      same_Some _ _ (sym (ap (option_map (λ row. column (shown name.Setting row) 1)) one.1) ∙ of_shown (find (has_key key) (trees (tree_of name.Setting))) ∙ said) in
      let read = subst (λ (l : List Row). Has l row) (sym other.1.world.settings) (mapped_has (shown name.Setting) (trees (tree_of name.Setting)) one.0 one.2) in
      let s = has_mapped columns_of other.0.world.settings row read in
      let named = ap (λ (r : Row). equal Binary (column r 0) (Text (codes "schema"))) (sym s.2) ∙ begins_with (codes "schema") one.0 one.3 in
      other.2 (subst (Has other.0.world.settings) (is_schema_row s.0 named (ap (λ (r : Row). column r 1) (sym s.2) ∙ value)) s.1)
]
  where
    key : RowKey
    key = setting_key (codes "schema")

    of_shown : (o : Option Row) → option_map (λ row. column (shown name.Setting row) 1) o ≡ option_map (λ (row : Row). column row 1) (option_map (shown name.Setting) o)
    of_shown None = refl
    of_shown (Some row) = refl

-- ---- tables of the newest schema

-- they are of no earlier schema
pub none_earlier : (db : Database) → AreKnown db → (n : ℕ) → ¬ AreEarlier n db
none_earlier db known n earlier = elim (of_two n earlier.earlier.0 earlier.earlier.1) [
  | inl one ↦
      let fewer : 9 ≡ 12 = ap (λ s. length s.tables) (sym (subst (λ m. db.schema ≡ schema_at m) one earlier.known.schema) ∙ known.schema) in
      omega (arith, fewer)
  | inr two ↦
      let fewer : 10 ≡ 12 = ap (λ s. length s.tables) (sym (subst (λ m. db.schema ≡ schema_at m) two earlier.known.schema) ∙ known.schema) in
      omega (arith, fewer)
]
  where
    of_two : (n : ℕ) → 1 ≤ n → n < 3 → (n ≡ 1) ⊎ (n ≡ 2)
    of_two n least most = grind arith

-- ---- what a refusal says

-- a refusal before any row is read except that of the schema
pub told_by_schema : {S : Type 0} (store : Ghosts S) (db : Database) (r : OpenRefusal S) → ((n : ℕ) (c : Held S) → r ≡ refused.OldSchema n c → HasCleanDisk (state store c) → AreEarlier n db)
    → ((c : Held S) → r ≡ refused.NotTables c → HasCleanDisk (state store c) → db.schema ≢ stored_schema) → ((c : Held S) → r ≡ refused.NotTables c → HasCleanDisk (state store c) → (n : ℕ) → ¬ AreEarlier n db)
    → ((c : Held S) → r ≢ refused.BadRow c) → IfSome (given_back r) (λ c. HasCleanDisk (state store c) → AreRefusedFor (fault_of r) db)
told_by_schema store db (refused.NotTables c) old other neither fits = λ clean. record { not_newest = λ newest. other c refl clean newest.known.schema; not_earlier = neither c refl clean }
told_by_schema store db (refused.OldSchema n c) old other neither fits = old n c refl
told_by_schema store db (refused.BadRow c) old other neither fits = absurd (fits c refl)
told_by_schema store db (refused.Unavailable cause rest) old other neither fits = tt

-- a refusal for a fault in reading tables of the newest schema
pub told_by_rows : {S : Type 0} (store : Ghosts S) (db : Database) (e : OpenFault) (conn : Held S) → ((n : ℕ) → e ≢ fault.OldSchema n) → (HasCleanDisk (state store conn) → AreKnown db)
    → (HasCleanDisk (state store conn) → e ≡ fault.NotTables → HasOtherSchema db.trees) → (HasCleanDisk (state store conn) → e ≡ fault.BadRow → HasBadTable db.trees ⊎ RepresentNone db.trees)
    → (r : OpenRefusal S) (rest : S) → r ≡ refusal_for e conn rest → IfSome (given_back r) (λ c. HasCleanDisk (state store c) → AreRefusedFor (fault_of r) db)
told_by_rows {S} store db e conn not_old known other bad r rest is =
    subst (λ (r : OpenRefusal S). IfSome (given_back r) (λ c. HasCleanDisk (state store c) → AreRefusedFor (fault_of r) db)) (sym is) (cases e not_old other bad)
  where
    cases : (e : OpenFault) → ((n : ℕ) → e ≢ fault.OldSchema n) → (HasCleanDisk (state store conn) → e ≡ fault.NotTables → HasOtherSchema db.trees)
        → (HasCleanDisk (state store conn) → e ≡ fault.BadRow → HasBadTable db.trees ⊎ RepresentNone db.trees)
        → IfSome (given_back (refusal_for e conn rest)) (λ c. HasCleanDisk (state store c) → AreRefusedFor (fault_of (refusal_for e conn rest)) db)
    cases fault.NotTables not_old other bad = λ clean. record { not_newest = λ newest. not_said db.trees (other clean refl) newest.said; not_earlier = none_earlier db (known clean) }
    cases (fault.OldSchema n) not_old other bad = absurd (not_old n refl)
    cases fault.BadRow not_old other bad = λ clean. record { known = known clean; rows = bad clean refl }
    cases (fault.Unavailable cause) not_old other bad = tt

-- what holds of the connection of a refusal holds of the one that it gives back
pub given_same : {S : Type 0} (P : Held S → Type 0) (e : OpenFault) (conn : Held S) → P conn → (r : OpenRefusal S) (rest : S) → r ≡ refusal_for e conn rest → IfSome (given_back r) P
given_same {S} P e conn holds r rest is = subst (λ (r : OpenRefusal S). IfSome (given_back r) P) (sym is) (cases e)
  where
    cases : (e : OpenFault) → IfSome (given_back (refusal_for e conn rest)) P
    cases fault.NotTables = holds
    cases (fault.OldSchema n) = holds
    cases fault.BadRow = holds
    cases (fault.Unavailable cause) = tt

-- ---- a store that never fails

-- the connection that a refusal gives back has a clean disk, so the refusal says why the tables are refused
pub refused_for_all : {S : Type 0} (store : Ghosts S) → NeverFails store → (r : OpenRefusal S) (db : Database) → IfSome (given_back r) (λ c. HasCleanDisk (state store c) → AreRefusedFor (fault_of r) db) → AreRefusedFor (fault_of r) db
refused_for_all store never (refused.NotTables c) db told = told (never c.store).1
refused_for_all store never (refused.OldSchema n c) db told = told (never c.store).1
refused_for_all store never (refused.BadRow c) db told = told (never c.store).1
refused_for_all store never (refused.Unavailable cause rest) db told = tt

-- ---- an empty database

-- a fault that blames neither a schema nor a row
pub unavailable_alone : {T A : Type 0} (r : Result T OpenFault) → ¬ A → IfErr r (λ e. e ≡ fault.NotTables → A) → IfErr r (λ e. e ≢ fault.BadRow) → IfErr r (λ e. (n : ℕ) → e ≢ fault.OldSchema n) → IfErr r IsUnavailable
unavailable_alone (Ok x) free taken bad old = tt
unavailable_alone (Err fault.NotTables) free taken bad old = absurd (free (taken refl))
unavailable_alone (Err (fault.OldSchema n)) free taken bad old = absurd (old n refl)
unavailable_alone (Err fault.BadRow) free taken bad old = absurd (bad refl)
unavailable_alone (Err (fault.Unavailable cause)) free taken bad old = (cause, refl)
