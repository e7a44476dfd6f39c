-- The listed credits of a user's hosts add up to the user's credit, in the world that the tables hold.
use Rattle.std.proofs.Common.{◌≡◌, ℕ, ◌+◌, ℤ, pos, Bool, true, false, cond, List, [], ◌∷◌, map, filter, length, sum_by, unsigned_abs, refl, sym, ap, ◌∙◌, arith, int_eq}
use Rattle.std.specs.Prelude.{◌==◌, if◌then◌else◌}
use Rattle.std.specs.List.{enumerate_from}
use Rattle.std.proofs.lemmas.Int.{ints}
use Rattle.std.proofs.lemmas.List.Sums.{sum_by-cons}
use Rattle.sqlite_value.specs.declared.value.Value.{Value}
use Rattle.sqlite_value.specs.declared.value.Value.TheVariants.{Int}
use Rattle.sqlite_value.specs.Order.{Row}
use Rattle.sqlite_sql.specs.declared.ops.CompareOp.TheVariants.{Eq}
use Rattle.sqlite_keyed.proofs.ListLemmas.{map_back}
use Rattle.sqlite_typed.proofs.TestLemmas.{at_ints}
use Rattle.sqlite.specs.Effect.{Database}
use Rattle.sched_book.specs.Places.{held_by, host_credit, user_credit}
use Rattle.sched_book.specs.declared.rows.HostRow.{HostRow}
use Rattle.sched_book.specs.declared.world.World.{World}
use Rattle.table_meaning.specs.declared.rows.StoredRow.{StoredRow}
use Rattle.table_meaning.specs.declared.rows.StoredRow.TheVariants as stored
use Rattle.table_meaning.specs.declared.tables.TableName.TheVariants.{Host}
use Rattle.table_meaning.specs.Listings.{rows_where, is_of_user, credit_in}
use Rattle.table_meaning.specs.Rows.{host_key, columns_of}
use Rattle.table_meaning.specs.Worlds.{host_row, contents_of}
use Rattle.table_meaning.proofs.Listings.{keyed_by_number}
use Rattle.table_desk.specs.Asked.{Tell}
use Rattle.table_desk.proofs.Standing.{rows_of_list}

abbrev whole_in : Value → ℤ
whole_in (Int n) = n
whole_in other = pos 0

-- the sum over the items whose rows pass a test
summed : {X Y : Type 0} (row : X → Y) (test : Y → Bool) (value : Y → ℕ) (xs : List X) → sum_by value (filter test (map row xs)) ≡ sum_by (λ x. if test (row x) then value (row x) else 0) xs
summed row test value [] = refl
summed {X} row test value (x ∷ xs) = turn (test (row x)) ∙ ap (λ n. cond (test (row x)) (value (row x)) 0 + n) (summed row test value xs) ∙ sym (sum_by-cons (λ (y : X). cond (test (row y)) (value (row y)) 0) x xs)
  where
    turn : (b : Bool) → sum_by value (cond b (row x ∷ filter test (map row xs)) (filter test (map row xs))) ≡ cond b (value (row x)) 0 + sum_by value (filter test (map row xs))
    turn true = sum_by-cons value (row x) (filter test (map row xs))
    turn false = omega arith

sum_by-map : {X Y : Type 0} (g : X → Y) (f : Y → ℕ) (xs : List X) → sum_by f (map g xs) ≡ sum_by (λ x. f (g x)) xs
sum_by-map g f [] = refl
sum_by-map {X} g f (x ∷ xs) = sum_by-cons f (g x) (map g xs) ∙ ap (λ n. f (g x) + n) (sum_by-map g f xs) ∙ sym (sum_by-cons (λ (y : X). f (g y)) x xs)

module _ (db : Database) (w : World) (tell : Tell db w) where
  abbrev of_host : ℕ → HostRow → StoredRow
  of_host id h = stored.Host (host_row (length (held_by w id)) (host_credit w id) id h)

  same_number : (a b : ℕ) → int_eq (pos a) (pos b) ≡ (a == b)
  same_number a b = grind (arith, ints)

  pub credits_summed : (account : ℕ) (credits : List ℤ) → map Int credits ≡ map credit_in (rows_where db.trees Host (is_of_user account)) → sum_by unsigned_abs credits ≡ user_credit w account
  credits_summed account credits read =
      let hosts = enumerate_from 1 w.hosts in
      let value = λ (r : Row). unsigned_abs (whole_in (credit_in r)) in
      let row = λ (e : ℕ × HostRow). columns_of (of_host e.0 e.1) in
      let passing = filter (is_of_user account) (map row hosts) in
      let rows : rows_where db.trees Host (is_of_user account) ≡ passing =
      rows_of_list Host host_key (keyed_by_number Host refl) db (contents_of w tell.calls tell.batches) tell.holds of_host w.hosts (λ n. refl) (is_of_user account) in
      let told : credits ≡ map whole_in (map credit_in passing) = sym (map_back Int whole_in (λ z. refl) credits) ∙ ap (map whole_in) (read ∙ ap (map credit_in) rows) in
      let of_user : (e : ℕ × HostRow) → is_of_user account (row e) ≡ (e.1.account == account) = λ e. at_ints false Eq (pos e.1.account) (pos account) ∙ same_number e.1.account account in
      ap (sum_by unsigned_abs) told ∙ sum_by-map whole_in unsigned_abs (map credit_in passing) ∙ sum_by-map credit_in (λ v. unsigned_abs (whole_in v)) passing ∙ summed row (is_of_user account) value hosts
      ∙ (λ i. sum_by (λ (e : ℕ × HostRow). cond (of_user e i) (host_credit w e.0) 0) hosts)
