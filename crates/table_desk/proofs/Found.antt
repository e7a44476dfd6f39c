-- What is found at the keys of tables is what the world that they hold has there.
use Rattle.std.proofs.Common.{◌≡◌, ◌⊎◌, ◌≤◌, ℕ, ℤ, pos, Bool, true, false, ◌&&◌, List, length, slice_get, Option, Some, None, option_map, refl, sym, ap, ap₂, ◌∙◌, inl, inr, arith, int_eq}
use Rattle.std.specs.Prelude.{option_and_then, ◌==◌, All}
use Rattle.std.specs.Str.{bytes_eq}
use Rattle.std.specs.Ordering.{is_eq}
use Rattle.std.proofs.lemmas.Bool.{cases_Bool, both_ways}
use Rattle.std.proofs.lemmas.Slice.Eq.{bytes_eq-Decides}
use Rattle.sqlite_typed.specs.Tests.{bytes_cmp}
use Rattle.std.proofs.lemmas.Int.{ints}
use Rattle.std.proofs.lemmas.Option.{none-some, same_Some}
use Rattle.sqlite_value.specs.declared.value.Value.{Value}
use Rattle.sqlite_value.specs.declared.value.Value.TheVariants.{Int, Text}
use Rattle.sqlite_value.specs.declared.keys.Collation.TheVariants.{Binary}
use Rattle.sqlite_value.specs.Order.{Row, column}
use Rattle.sqlite_schema.specs.Rules.{equal}
use Rattle.sqlite_sql.specs.declared.ops.CompareOp.TheVariants.{Eq}
use Rattle.sqlite_typed.proofs.TestLemmas.{at_ints, at_texts, same_bytes, bytes_eq_refl}
use Rattle.sqlite.specs.Effect.{Database}
use Rattle.sched_book.specs.Desk.{account_by_key, workunit_at, placed_at}
use Rattle.sched_book.specs.Imports.{has_app}
use Rattle.sched_book.specs.Places.{unit_at, instance_at, host_at, unit_named, known_host, is_host_of, held_by, host_credit}
use Rattle.sched_book.specs.declared.rows.Account.{Account as Book}
use Rattle.sched_book.specs.declared.rows.App.{App}
use Rattle.sched_book.specs.declared.rows.HostRow.{HostRow}
use Rattle.sched_book.specs.declared.rows.Workunit.{Workunit}
use Rattle.sched_book.specs.declared.instance.Instance.{Instance as Job}
use Rattle.sched_book.specs.declared.instance.UnitBook.{UnitBook}
use Rattle.sched_book.specs.declared.world.World.{World}
use Rattle.table_meaning.specs.declared.rows.StoredRow.{StoredRow}
use Rattle.table_meaning.specs.declared.rows.StoredRow.TheVariants as stored
use Rattle.table_meaning.specs.declared.rows.StoredAccount.{StoredAccount}
use Rattle.table_meaning.specs.declared.rows.StoredUnit.{StoredUnit}
use Rattle.table_meaning.specs.declared.rows.StoredUnitMark.{StoredUnitMark}
use Rattle.table_meaning.specs.declared.rows.StoredHost.{StoredHost}
use Rattle.table_meaning.specs.declared.rows.StoredInstance.{StoredInstance}
use Rattle.table_meaning.specs.declared.tables.TableName.TheVariants.{Account, Unit, Host}
use Rattle.table_meaning.specs.Holding.{Contents}
use Rattle.table_meaning.specs.Kept.{number_of}
use Rattle.table_meaning.specs.Listings.{rows_where, has_text, is_host_known}
use Rattle.table_meaning.specs.Rows.{account_key, unit_key, mark_key, host_key, instance_key, columns_of, look_up, whole}
use Rattle.table_meaning.specs.Worlds.{contents_of, account_row, unit_row, mark_row, host_row, instance_row}
use Rattle.table_meaning.proofs.Listings.{keyed_by_number}
use Rattle.table_worlds.specs.ReadBack.{account_in, unit_in, host_in, job_in}
use Rattle.table_worlds.proofs.ByPlace.{all_nth}
use Rattle.table_worlds.proofs.ReadBack.{account_back, unit_back, host_back, job_back}
use Rattle.table_desk.specs.Asked.{Tell}
use Rattle.table_desk.specs.Columns.{counted_host_at}
use Rattle.table_desk.specs.declared.hosts.CountedHost.{CountedHost}
use Rattle.table_desk.proofs.Standing.{item_at_key, none_stands, rows_of_list, first_placed}
use Rattle.texts.specs.Words.{IsWord}

-- ---- texts and numbers that are shown

-- SQL finds two texts equal exactly if their bytes are equal
pub equal_texts : (a b : List ℕ) → equal Binary (Text a) (Text b) ≡ bytes_eq a b
equal_texts a b = at_texts false Eq a b ∙ cases (bytes_eq a b) refl
  where
    cases : (c : Bool) → bytes_eq a b ≡ c → is_eq (bytes_cmp a b) ≡ c
    cases true same = ap (λ t. is_eq (bytes_cmp a t)) (sym ((bytes_eq-Decides a b).0 same)) ∙ bytes_eq_refl a
    cases false apart = elim (cases_Bool (is_eq (bytes_cmp a b))) [
      | inl same ↦ absurd (both_ways _ apart ((bytes_eq-Decides a b).1 (same_bytes a b same)))
      | inr differs ↦ differs
    ]

pub no_number : (o : Option ℕ) → option_map whole o ≡ None → o ≡ None
no_number None is = refl
no_number (Some n) is = absurd (none-some _ (sym is))

pub one_number : (o : Option ℕ) (n : ℕ) → option_map whole o ≡ Some (whole n) → o ≡ Some n
one_number None n is = absurd (none-some _ is)
one_number (Some m) n is = ap Some (ap number_of (same_Some _ _ is))

module _ (db : Database) (w : World) (tell : Tell db w) where
  -- ---- a workunit

  abbrev of_unit : ℕ → UnitBook → StoredRow
  of_unit unit b = stored.Unit (unit_row w unit b)

  pub no_unit : (unit : ℕ) → None ≡ look_up db.trees (unit_key unit) → None ≡ workunit_at w unit
  no_unit unit read = sym (ap (option_map (λ (b : UnitBook). b.unit)) (none_stands (of_unit unit) (unit_at w unit) (read ∙ tell.holds.rows (unit_key unit))))

  pub unit_found : (apps : List App) → apps ≡ w.apps → (unit : ℕ) (row : StoredUnit) (mark : StoredUnitMark) (u : Workunit) → Some (columns_of (stored.Unit row)) ≡ look_up db.trees (unit_key unit)
      → Some (columns_of (stored.UnitMark mark)) ≡ look_up db.trees (mark_key unit) → u ≡ unit_in apps (columns_of (stored.Unit row)) (columns_of (stored.UnitMark mark))
      → Some u ≡ workunit_at w unit
  unit_found apps same unit row mark u read marked told =
      let item = item_at_key (of_unit unit) (unit_at w unit) (columns_of (stored.Unit row)) (read ∙ tell.holds.rows (unit_key unit)) in
      let has : has_app w.apps item.0.unit.app ≡ true = all_nth (λ (b : UnitBook). has_app w.apps b.unit.app ≡ true) w.units unit item.0 item.1 tell.readable.units in
      let rule = same_Some _ _ (marked ∙ tell.holds.rows (mark_key unit) ∙ ap (λ o. option_map columns_of (option_map (λ (b : UnitBook). stored.UnitMark (mark_row unit b)) o)) item.1) in
      ap Some (told ∙ ap₂ (unit_in apps) item.2 rule ∙ unit_back apps w same unit item.0 has) ∙ sym (ap (option_map (λ (b : UnitBook). b.unit)) item.1)

  -- ---- an instance

  abbrev of_instance : ℕ → ℕ → UnitBook → Option Job → Option StoredRow
  of_instance unit number b = option_map (λ x. stored.Instance (instance_row w b unit number x))

  pub no_instance : (unit number : ℕ) → None ≡ look_up db.trees (instance_key unit number) → None ≡ instance_at w (record { unit = unit; number = number })
  no_instance unit number read = cases (unit_at w unit) (read ∙ tell.holds.rows (instance_key unit number))
    where
      cases : (o : Option UnitBook) → None ≡ option_map columns_of (option_and_then (λ b. of_instance unit number b (slice_get b.instances number)) o) → None ≡ option_and_then (λ (b : UnitBook). slice_get b.instances number) o
      cases None is = refl
      cases (Some b) is = sym (none_stands (λ x. stored.Instance (instance_row w b unit number x)) (slice_get b.instances number) is)

  pub instance_found : (unit number : ℕ) (row : StoredInstance) (x : Job) → Some (columns_of (stored.Instance row)) ≡ look_up db.trees (instance_key unit number) → x ≡ job_in (columns_of (stored.Instance row))
      → Some x ≡ instance_at w (record { unit = unit; number = number })
  instance_found unit number row x read told = cases (unit_at w unit) (read ∙ tell.holds.rows (instance_key unit number))
    where
      cases : (o : Option UnitBook) → Some (columns_of (stored.Instance row)) ≡ option_map columns_of (option_and_then (λ b. of_instance unit number b (slice_get b.instances number)) o)
          → Some x ≡ option_and_then (λ (b : UnitBook). slice_get b.instances number) o
      cases None is = absurd (none-some _ (sym is))
      cases (Some b) is =
          let item = item_at_key (λ y. stored.Instance (instance_row w b unit number y)) (slice_get b.instances number) (columns_of (stored.Instance row)) is in
          ap Some (told ∙ ap job_in item.2 ∙ job_back w b unit number item.0) ∙ sym item.1

  -- ---- a host

  abbrev of_host : ℕ → HostRow → StoredRow
  of_host number h = stored.Host (host_row (length (held_by w number)) (host_credit w number) number h)

  counted_as : ℕ → HostRow → CountedHost
  counted_as number h = record { row = h; held = length (held_by w number); credit = host_credit w number }

  pub no_host : (number : ℕ) → None ≡ look_up db.trees (host_key number) → None ≡ counted_host_at w number
  unfolding counted_as
  no_host number read = sym (ap (option_map (counted_as number)) (none_stands (of_host number) (host_at w number) (read ∙ tell.holds.rows (host_key number))))

  -- the number in a column that may have any
  integer : Value → ℤ
  integer (Int z) = z
  integer other = pos 0

  pub host_counted : (number : ℕ) (row : StoredHost) (h : CountedHost) → Some (columns_of (stored.Host row)) ≡ look_up db.trees (host_key number)
      → (h.row ≡ host_in (columns_of (stored.Host row))) × (h.held ≡ row.held) × (pos h.credit ≡ row.credit) → Some h ≡ counted_host_at w number
  unfolding counted_as integer
  host_counted number row h read told =
      let item = item_at_key (of_host number) (host_at w number) (columns_of (stored.Host row)) (read ∙ tell.holds.rows (host_key number)) in
      let words = all_nth (λ (g : HostRow). (1 ≤ length g.platforms) × All IsWord g.platforms) w.hosts number item.0 item.1 tell.readable.hosts in
      let same = told.0 ∙ ap host_in item.2 ∙ host_back (length (held_by w number)) (host_credit w number) number item.0 words in
      let held : h.held ≡ length (held_by w number) = told.1 ∙ ap (λ (r : Row). number_of (column r 8)) item.2 in
      let credit : h.credit ≡ host_credit w number = ap (λ (z : ℤ). number_of (Int z)) (told.2 ∙ ap (λ (r : Row). integer (column r 9)) item.2) in
      let counted : h ≡ counted_as number item.0 = λ i. record { row = same i; held = held i; credit = credit i } in
      ap Some counted ∙ sym (ap (option_map (counted_as number)) item.1)

  -- ---- rows by their names

  abbrev contents : Contents
  contents = contents_of w tell.calls tell.batches

  same_number : (a b : ℕ) → int_eq (pos a) (pos b) ≡ (a == b)
  same_number a b = grind (arith, ints)

  numbered : (a b : ℕ) → whole a ≡ whole b → a ≡ b
  numbered a b is = ap number_of is

  -- the workunit of a name
  pub unit_is_named : (name : List ℕ) (unit : Option ℕ) → option_map whole unit ≡ option_map (λ row. column row 0) (slice_get (rows_where db.trees Unit (has_text 1 name)) 0) → unit ≡ unit_named w name
  unit_is_named name unit read =
      let rows = rows_of_list Unit unit_key (keyed_by_number Unit refl) db contents tell.holds of_unit w.units (λ n. refl) (has_text 1 name) in
      let first = first_placed (λ (e : ℕ × UnitBook). columns_of (of_unit e.0 e.1)) (has_text 1 name) (λ b. bytes_eq b.unit.name name) (λ n b. equal_texts b.unit.name name) w.units in
      let told = read ∙ ap (λ l. option_map (λ row. column row 0) (slice_get l 0)) rows in
      elim first [
        | inl none ↦ no_number unit (told ∙ ap (option_map (λ row. column row 0)) none.0) ∙ sym none.1
        | inr found ↦ one_number unit found.0 (told ∙ ap (option_map (λ row. column row 0)) found.2) ∙ sym found.3
      ]

  -- the host of a key
  pub host_is_known : (account : ℕ) (cpid : List ℕ) (host : Option ℕ) → option_map whole host ≡ option_map (λ row. column row 0) (slice_get (rows_where db.trees Host (is_host_known account cpid)) 0) → host ≡ known_host w account cpid
  host_is_known account cpid host read =
      let rows = rows_of_list Host host_key (keyed_by_number Host refl) db contents tell.holds of_host w.hosts (λ n. refl) (is_host_known account cpid) in
      let tells = λ (n : ℕ) (h : HostRow). ap₂ (λ a b. a && b) (at_ints false Eq (pos h.account) (pos account) ∙ same_number h.account account) (equal_texts h.cpid cpid) in
      let first = first_placed (λ (e : ℕ × HostRow). columns_of (of_host e.0 e.1)) (is_host_known account cpid) (is_host_of account cpid) tells w.hosts in
      let told = read ∙ ap (λ l. option_map (λ row. column row 0) (slice_get l 0)) rows in
      elim first [
        | inl none ↦ no_number host (told ∙ ap (option_map (λ row. column row 0)) none.0) ∙ sym none.1
        | inr found ↦ one_number host found.0 (told ∙ ap (option_map (λ row. column row 0)) found.2) ∙ sym found.3
      ]

  -- the account of an authenticator
  abbrev of_account : ℕ → Book → StoredRow
  of_account n a = stored.Account (account_row n a)

  module _ (key : List ℕ) where
    abbrev first_account : Option Row
    first_account = slice_get (rows_where db.trees Account (has_text 1 key)) 0

    abbrev AccountFound : Type 0
    AccountFound = ((first_account ≡ None) × (account_by_key w key ≡ None))
        ⊎ ((n : ℕ) × (a : Book) × (first_account ≡ Some (columns_of (of_account n a))) × (account_by_key w key ≡ Some (record { place = n; row = a })))

    account_found : AccountFound
    account_found =
        let rows = rows_of_list Account account_key (keyed_by_number Account refl) db contents tell.holds of_account w.accounts (λ n. refl) (has_text 1 key) in
        let first = first_placed (λ (e : ℕ × Book). columns_of (of_account e.0 e.1)) (has_text 1 key) (λ a. bytes_eq a.authenticator key) (λ n a. equal_texts a.authenticator key) w.accounts in
        elim first [
          | inl none ↦ inl (ap (λ l. slice_get l 0) rows ∙ none.0, ap (option_and_then (placed_at w.accounts)) none.1)
          | inr found ↦ inr (
            found.0,
            found.1,
            ap (λ l. slice_get l 0) rows ∙ found.2,
            ap (option_and_then (placed_at w.accounts)) found.3 ∙ ap (option_map (λ x. record { place = found.0; row = x })) found.4,
          )
        ]

    pub no_account : None ≡ first_account → None ≡ account_by_key w key
    no_account read = elim account_found [
      | inl none ↦ sym none.1
      | inr found ↦ absurd (none-some _ (read ∙ found.2))
    ]

    pub account_is : (row : StoredAccount) (a : Book) → Some (columns_of (stored.Account row)) ≡ first_account → a ≡ account_in (columns_of (stored.Account row)) → Some (record { place = row.id; row = a }) ≡ account_by_key w key
    account_is row a read told = elim account_found [
      | inl none ↦ absurd (none-some _ (sym (read ∙ none.0)))
      | inr found ↦
          let columns = same_Some _ _ (read ∙ found.2) in
          let place : row.id ≡ found.0 = ap (λ (r : Row). number_of (column r 0)) columns in
          let same : a ≡ found.1 = told ∙ ap account_in columns ∙ account_back found.0 found.1 in
          ap₂ (λ n x. Some (record { place = n; row = x })) place same ∙ sym found.3
    ]
