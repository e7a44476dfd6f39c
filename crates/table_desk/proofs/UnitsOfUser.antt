-- The workunits with an instance that was given to a host of a user, as a set and as a list in order.
use Rattle.std.proofs.Common.{◌≡◌, ℕ, zero, suc, ◌+◌, ◌<◌, Bool, true, false, ◌&&◌, cond, List, [], ◌∷◌, map, filter, length, take, get_or, slice_get, Option, Some, None, option_map, Less, refl, sym, ap, ap₂, ◌∙◌, arith}
use Rattle.std.specs.Prelude.{◌==◌, ◌||◌, option_and_then}
use Rattle.std.specs.BTreeSet.{BTreeSet, contains, IsOrdered}
use Rattle.std.specs.Cmp.{unsigned_ties, unsigned_tied, nat_cmp_is}
use Rattle.std.specs.List.{AllByRecursion, enumerate_from, list_any}
use Rattle.std.specs.List.Sorted.{IsStrictlySortedBy}
use Rattle.std.specs.Ordering.{nat_cmp, is_eq}
use Rattle.std.proofs.lemmas.Bool.{eq-eqb}
use Rattle.std.proofs.lemmas.Bool.Decides.{nat_tests}
use Rattle.std.proofs.lemmas.Cmp.{nat_cmp_total}
use Rattle.std.proofs.lemmas.List.Folds.{list_any-append, list_any_more}
use Rattle.std.proofs.lemmas.Map.Lookups.{btree_set_from_contains, exact_unsigned}
use Rattle.sqlite_value.specs.Order.{Row, column}
use Rattle.sqlite_keyed.proofs.ListLemmas.{map_back}
use Rattle.sqlite.specs.Effect.{Database}
use Rattle.sched_book.specs.Desk.{units_from, units_of_user}
use Rattle.sched_book.specs.Grant.{has_unit}
use Rattle.sched_book.specs.Places.{nth, option_any, unit_at, host_of, account_at, is_owned_by, is_of_user, user_had, owned_by, held_by, host_credit, places_in, places_among, places_where, places}
use Rattle.sched_book.specs.declared.instance.Instance.{Instance}
use Rattle.sched_book.specs.declared.instance.Place.{Place}
use Rattle.sched_book.specs.declared.instance.UnitBook.{UnitBook}
use Rattle.sched_book.specs.declared.rows.HostRow.{HostRow}
use Rattle.sched_book.specs.declared.world.World.{World}
use Rattle.sched_book.proofs.PlacesOf.{nth-suc}
use Rattle.table_meaning.specs.declared.rows.StoredRow.{StoredRow}
use Rattle.table_meaning.specs.declared.rows.StoredRow.TheVariants as stored
use Rattle.table_meaning.specs.declared.tables.TableName.TheVariants.{Host}
use Rattle.table_meaning.specs.Holding.{Contents, Hold}
use Rattle.table_meaning.specs.Kept.{number_of}
use Rattle.table_meaning.specs.Listings as listed
use Rattle.table_meaning.specs.Listings.{rows_where}
use Rattle.table_meaning.specs.Places as table
use Rattle.table_meaning.specs.Places.{AreAllPlaces, is_of_host}
use Rattle.table_meaning.specs.Rows.{host_key, columns_of, whole}
use Rattle.table_meaning.specs.Worlds.{host_row, contents_of}
use Rattle.table_meaning.proofs.Listings.{keyed_by_number}
use Rattle.table_meaning.proofs.PlacesTests.{equal_numbers}
use Rattle.table_desk.specs.Asked.{Tell}
use Rattle.table_desk.specs.Users.{some_had, HasAdded}
use Rattle.table_desk.proofs.PlacesAsked.{owned_told}
use Rattle.table_desk.proofs.AllPlaces.{all_places}
use Rattle.table_desk.proofs.Standing.{rows_of_list}

apart : (m n : ℕ) → m < n → (m == n) ≡ false
apart m n less = grind (arith, nat_tests)

-- ---- tests of lists

-- two tests that agree on each item
same_any : {X : Type 0} (p q : X → Bool) (xs : List X) → ((x : X) → p x ≡ q x) → list_any p xs ≡ list_any q xs
same_any p q xs same = λ i. list_any (λ x. same x i) xs

never_any : {X : Type 0} (xs : List X) → list_any (λ x. false) xs ≡ false
never_any [] = refl
never_any (x ∷ xs) = never_any xs

either_any : {X : Type 0} (p q : X → Bool) (xs : List X) → list_any (λ x. p x || q x) xs ≡ (list_any p xs || list_any q xs)
either_any p q [] = refl
either_any p q (x ∷ xs) = ap (λ b. (p x || q x) || b) (either_any p q xs) ∙ turned (p x) (q x) (list_any p xs) (list_any q xs)
  where
    turned : (a b c d : Bool) → ((a || b) || (c || d)) ≡ ((a || c) || (b || d))
    turned true b c d = refl
    turned false true true d = refl
    turned false true false d = refl
    turned false false c d = refl

-- some pair of items, one from each of two lists, passes, regardless of which list is taken first
any_of_both : {X Y : Type 0} (p : X → Y → Bool) (xs : List X) (ys : List Y) → list_any (λ x. list_any (p x) ys) xs ≡ list_any (λ y. list_any (λ x. p x y) xs) ys
any_of_both p [] ys = sym (never_any ys)
any_of_both {X} {Y} p (x ∷ xs) ys = ap (λ b. list_any (p x) ys || b) (any_of_both p xs ys) ∙ sym (either_any (p x) (λ (y : Y). list_any (λ (x : X). p x y) xs) ys)

-- ---- the places of the items that pass

abbrev pub places_from : {X : Type 0} → ℕ → (X → Bool) → List X → List ℕ
places_from from p [] = []
places_from from p (x ∷ xs) = cond (p x) (from ∷ places_from (from + 1) p xs) (places_from (from + 1) p xs)

module _ {X : Type 0} (p : X → Bool) where
  above : (k from : ℕ) (xs : List X) → k < from → AllByRecursion (λ n. nat_cmp k n ≡ Less) (places_from from p xs)
  above k from [] less = tt
  above k from (x ∷ xs) less = turn (p x) (above k (from + 1) xs (omega (arith, less)))
    where
      turn : (b : Bool) → AllByRecursion (λ n. nat_cmp k n ≡ Less) (places_from (from + 1) p xs) → AllByRecursion (λ n. nat_cmp k n ≡ Less) (cond b (from ∷ places_from (from + 1) p xs) (places_from (from + 1) p xs))
      turn true later = (sym (nat_cmp_is k from Less less), later)
      turn false later = later

  rising : (from : ℕ) (xs : List X) → IsStrictlySortedBy nat_cmp (places_from from p xs)
  unfolding IsStrictlySortedBy
  rising from [] = tt
  rising from (x ∷ xs) = turn (p x) (above from (from + 1) xs (omega arith)) (rising (from + 1) xs)
    where
      turn : (b : Bool) → AllByRecursion (λ n. nat_cmp from n ≡ Less) (places_from (from + 1) p xs) → IsStrictlySortedBy nat_cmp (places_from (from + 1) p xs)
          → IsStrictlySortedBy nat_cmp (cond b (from ∷ places_from (from + 1) p xs) (places_from (from + 1) p xs))
      turn true each later = (each, later)
      turn false each later = later

  none_before : (n from : ℕ) (xs : List X) → n < from → list_any (λ k. n == k) (places_from from p xs) ≡ false
  none_before n from [] less = refl
  none_before n from (x ∷ xs) less = turn (p x) (none_before n (from + 1) xs (omega (arith, less)))
    where
      turn : (b : Bool) → list_any (λ k. n == k) (places_from (from + 1) p xs) ≡ false → list_any (λ k. n == k) (cond b (from ∷ places_from (from + 1) p xs) (places_from (from + 1) p xs)) ≡ false
      turn true later = ap₂ (λ a b. a || b) (apart n from less) later
      turn false later = later

  -- a place is listed exactly if the item there passes
  listed_from : (n from i : ℕ) (xs : List X) → n ≡ from + i → list_any (λ k. n == k) (places_from from p xs) ≡ option_any p (slice_get xs i)
  listed_from n from i [] is = refl
  listed_from n from zero (x ∷ xs) is = turn (p x)
    where
      later : list_any (λ k. n == k) (places_from (from + 1) p xs) ≡ false
      later = none_before n (from + 1) xs (omega (arith, is))

      turn : (b : Bool) → list_any (λ k. n == k) (cond b (from ∷ places_from (from + 1) p xs) (places_from (from + 1) p xs)) ≡ b
      turn true = ap (λ a. a || list_any (λ k. n == k) (places_from (from + 1) p xs)) (eq-eqb n from (omega (arith, is)))
      turn false = later
  listed_from n from (suc i) (x ∷ xs) is = turn (p x) (listed_from n (from + 1) i xs (omega (arith, is)))
    where
      other : (n == from) ≡ false
      other = grind (arith, nat_tests)

      turn : (b : Bool) → list_any (λ k. n == k) (places_from (from + 1) p xs) ≡ option_any p (slice_get xs i)
          → list_any (λ k. n == k) (cond b (from ∷ places_from (from + 1) p xs) (places_from (from + 1) p xs)) ≡ option_any p (slice_get xs i)
      turn true later = ap (λ a. a || list_any (λ k. n == k) (places_from (from + 1) p xs)) other ∙ later
      turn false later = later

  is_listed : (n : ℕ) (xs : List X) → list_any (λ k. n == k) (places_from 1 p xs) ≡ option_any p (nth xs n)
  is_listed zero xs = none_before 0 1 xs (omega arith)
  is_listed (suc i) xs = listed_from (suc i) 1 i xs (omega arith) ∙ ap (option_any p) (sym (nth-suc xs i))

  -- the keys of a set with exactly these places are the places in order
  keys_are_places : (s : BTreeSet ℕ) (xs : List X) → IsOrdered nat_cmp s → ((n : ℕ) → contains nat_cmp s n ≡ option_any p (nth xs n)) → s.keys ≡ places_from 1 p xs
  keys_are_places s xs ordered has =
      btree_set_from_contains nat_cmp_total s (record { keys = places_from 1 p xs }) ordered (rising 1 xs)
      (λ n. has n ∙ sym (is_listed n xs) ∙ same_any (λ k. n == k) (λ k. is_eq (nat_cmp n k)) (places_from 1 p xs) (unsigned_ties n)) exact_unsigned

units_are_places : (p : UnitBook → Bool) (from : ℕ) (bs : List UnitBook) → places_from from p bs ≡ units_from from p bs
units_are_places p from [] = refl
units_are_places p from (b ∷ bs) = ap (λ later. cond (p b) (from ∷ later) later) (units_are_places p (from + 1) bs)

-- ---- the workunits of places

module _ (test : UnitBook → Instance → Bool) where
  abbrev some_pass : UnitBook → Bool
  some_pass b = list_any (test b) b.instances

  units_in : (unit from number : ℕ) (b : UnitBook) (xs : List Instance) → has_unit unit (places_in from number (test b) xs) ≡ ((from == unit) && list_any (test b) xs)
  units_in unit from number b [] = none (from == unit)
    where
      none : (c : Bool) → false ≡ (c && false)
      none true = refl
      none false = refl
  units_in unit from number b (x ∷ xs) = turn (test b x) (from == unit) refl (units_in unit from (number + 1) b xs)
    where
      later : List Place
      later = places_in from (number + 1) (test b) xs

      here : (c : Bool) → has_unit unit later ≡ (c && list_any (test b) xs) → (c || has_unit unit later) ≡ (c && true)
      here true is = refl
      here false is = is

      turn : (t c : Bool) → (from == unit) ≡ c → has_unit unit later ≡ (c && list_any (test b) xs)
          → has_unit unit (cond t (record { unit = from; number = number } ∷ later) later) ≡ (c && (t || list_any (test b) xs))
      turn true c same is = ap (λ a. a || has_unit unit later) same ∙ here c is
      turn false c same is = is

  none_of_later : (unit from : ℕ) (bs : List UnitBook) → unit < from → has_unit unit (places_among from test bs) ≡ false
  none_of_later unit from [] less = refl
  none_of_later unit from (b ∷ bs) less =
      list_any-append (λ p. p.unit == unit) (places_in from 0 (test b) b.instances) (places_among (from + 1) test bs)
      ∙ ap₂ (λ c d. c || d) (units_in unit from 0 b b.instances ∙ ap (λ c. c && some_pass b) other) (none_of_later unit (from + 1) bs (omega (arith, less)))
    where
      other : (from == unit) ≡ false
      other = grind (arith, nat_tests)

  units_among : (unit from i : ℕ) (bs : List UnitBook) → unit ≡ from + i → has_unit unit (places_among from test bs) ≡ option_any some_pass (slice_get bs i)
  units_among unit from i [] is = refl
  units_among unit from zero (b ∷ bs) is =
      list_any-append (λ p. p.unit == unit) (places_in from 0 (test b) b.instances) (places_among (from + 1) test bs)
      ∙ ap₂ (λ c d. c || d) (units_in unit from 0 b b.instances ∙ ap (λ c. c && some_pass b) (eq-eqb from unit (omega (arith, is)))) (none_of_later unit (from + 1) bs (omega (arith, is)))
      ∙ alone (some_pass b)
    where
      alone : (c : Bool) → (c || false) ≡ c
      alone true = refl
      alone false = refl
  units_among unit from (suc i) (b ∷ bs) is =
      list_any-append (λ p. p.unit == unit) (places_in from 0 (test b) b.instances) (places_among (from + 1) test bs)
      ∙ ap₂ (λ c d. c || d) (units_in unit from 0 b b.instances ∙ ap (λ c. c && some_pass b) other) (units_among unit (from + 1) i bs (omega (arith, is)))
    where
      other : (from == unit) ≡ false
      other = grind (arith, nat_tests)

  -- a workunit has one of the places of passing instances exactly if some instance of it passes
  units_of_places : (w : World) (unit : ℕ) → has_unit unit (places_where w test) ≡ option_any some_pass (unit_at w unit)
  units_of_places w zero = none_of_later 0 1 w.units (omega arith)
  units_of_places w (suc i) = units_among (suc i) 1 i w.units (omega arith) ∙ ap (option_any some_pass) (sym (nth-suc w.units i))

-- the instances listed of a host are those that it owns
pub owned_listed : (db : Database) (w : World) → Tell db w → (host : ℕ) (owned : List Place)
    → ((contents : Contents) (ps : List Place) → Hold db contents → AreAllPlaces contents ps → owned ≡ table.places_with_row contents (is_of_host host) ps) → owned ≡ owned_by w host
owned_listed db w tell host owned read = read (contents_of w tell.calls tell.batches) (places w) tell.holds (all_places w tell.calls tell.batches) ∙ owned_told db w tell host

-- ---- one more in a set

-- one more place
pub one_more : (ps : List Place) (i : ℕ) (d : Place) (initial old new : BTreeSet ℕ) → i < length ps
    → ((q : ℕ) → contains nat_cmp new q ≡ cond (is_eq (nat_cmp (get_or ps i d).unit q)) true (contains nat_cmp old q))
    → ((unit : ℕ) → contains nat_cmp old unit ≡ (contains nat_cmp initial unit || has_unit unit (take i ps)))
    → (unit : ℕ) → contains nat_cmp new unit ≡ (contains nat_cmp initial unit || has_unit unit (take (i + 1) ps))
one_more ps i d initial old new within updates so_far unit =
    updates unit ∙ ap₂ (λ c b. cond c true b) (unsigned_tied (get_or ps i d).unit unit) (so_far unit)
    ∙ turned (contains nat_cmp initial unit) (has_unit unit (take i ps)) ((get_or ps i d).unit == unit)
    ∙ ap (λ b. contains nat_cmp initial unit || b) (sym (list_any_more (λ p. p.unit == unit) ps i d within))
  where
    turned : (a b c : Bool) → cond c true (a || b) ≡ (a || (b || c))
    turned true b true = refl
    turned true b false = refl
    turned false true true = refl
    turned false true false = refl
    turned false false true = refl
    turned false false false = refl

-- the workunits of one more host
pub host_more : (w : World) (hosts : List ℕ) (i d : ℕ) (ps : List Place) (initial old new : BTreeSet ℕ) → i < length hosts → ps ≡ owned_by w (get_or hosts i d)
    → ((unit : ℕ) → contains nat_cmp new unit ≡ (contains nat_cmp old unit || has_unit unit ps))
    → HasAdded w (take i hosts) initial old → HasAdded w (take (i + 1) hosts) initial new
host_more w hosts i d ps initial old new within owned added so_far unit =
    added unit ∙ ap₂ (λ a l. a || has_unit unit l) (so_far unit) owned
    ∙ ap (λ b. (contains nat_cmp initial unit || option_any (some_had (take i hosts)) (unit_at w unit)) || b) (units_of_places (λ b x. is_owned_by (get_or hosts i d) x) w unit)
    ∙ cases (unit_at w unit)
  where
    turned : (a b c : Bool) → ((a || b) || c) ≡ (a || (b || c))
    turned true b c = refl
    turned false b c = refl

    cases : (o : Option UnitBook)
        → ((contains nat_cmp initial unit || option_any (some_had (take i hosts)) o) || option_any (λ (b : UnitBook). list_any (is_owned_by (get_or hosts i d)) b.instances) o)
        ≡ (contains nat_cmp initial unit || option_any (some_had (take (i + 1) hosts)) o)
    cases None = turned (contains nat_cmp initial unit) false false
    cases (Some b) =
        turned (contains nat_cmp initial unit) (some_had (take i hosts) b) (list_any (is_owned_by (get_or hosts i d)) b.instances)
        ∙ ap (λ c. contains nat_cmp initial unit || c) (sym (list_any_more (λ host. list_any (is_owned_by host) b.instances) hosts i d within))

-- ---- the hosts of a user

-- one of the user's hosts had an instance of the workunit exactly if the user had one
hosts_had : (w : World) (account : ℕ) (b : UnitBook) → some_had (places_from 1 (λ (h : HostRow). h.account == account) w.hosts) b ≡ user_had w account b
hosts_had w account b =
    any_of_both is_owned_by hosts b.instances
    ∙ same_any (λ x. list_any (λ host. is_owned_by host x) hosts) (is_of_user w.hosts account) b.instances (λ x. each (host_of x))
  where
    hosts : List ℕ
    hosts = places_from 1 (λ (h : HostRow). h.account == account) w.hosts

    of_account : (o : Option HostRow) → option_any (λ (h : HostRow). h.account == account) o ≡ option_any (λ n. n == account) (option_map (λ (h : HostRow). h.account) o)
    of_account None = refl
    of_account (Some h) = refl

    each : (o : Option ℕ) → list_any (λ host. option_any (λ n. n == host) o) hosts ≡ option_any (λ n. n == account) (option_and_then (account_at w.hosts) o)
    each None = never_any hosts
    each (Some n) = is_listed (λ (h : HostRow). h.account == account) n w.hosts ∙ of_account (nth w.hosts n)

-- the numbers of the rows that pass are the places of the items that pass
numbers_of : {X : Type 0} (row : ℕ → X → Row) (test : Row → Bool) (p : X → Bool) (from : ℕ) (xs : List X) → ((n : ℕ) (x : X) → test (row n x) ≡ p x) → ((n : ℕ) (x : X) → number_of (column (row n x) 0) ≡ n)
    → map number_of (map (λ r. column r 0) (filter test (map (λ e. row e.0 e.1) (enumerate_from from xs)))) ≡ places_from from p xs
numbers_of row test p from [] tells same = refl
numbers_of {X} row test p from (x ∷ xs) tells same =
    ap (λ b. map number_of (map (λ r. column r 0) (cond b (row from x ∷ later) later))) (tells from x) ∙ turn (p x) (numbers_of row test p (from + 1) xs tells same)
  where
    later : List Row
    later = filter test (map (λ (e : ℕ × X). row e.0 e.1) (enumerate_from (from + 1) xs))

    turn : (b : Bool) → map number_of (map (λ r. column r 0) later) ≡ places_from (from + 1) p xs
        → map number_of (map (λ r. column r 0) (cond b (row from x ∷ later) later)) ≡ cond b (from ∷ places_from (from + 1) p xs) (places_from (from + 1) p xs)
    turn true rest = ap₂ ◌∷◌ (same from x) rest
    turn false rest = rest

module _ (db : Database) (w : World) (tell : Tell db w) (account : ℕ) where
  abbrev of_host : ℕ → HostRow → StoredRow
  of_host id h = stored.Host (host_row (length (held_by w id)) (host_credit w id) id h)

  -- the hosts listed of a user are the user's
  hosts_listed : (hosts : List ℕ) → map whole hosts ≡ map (λ row. column row 0) (rows_where db.trees Host (listed.is_of_user account)) → hosts ≡ places_from 1 (λ (h : HostRow). h.account == account) w.hosts
  hosts_listed hosts read =
      let rows = rows_of_list Host host_key (keyed_by_number Host refl) db (contents_of w tell.calls tell.batches) tell.holds of_host w.hosts (λ n. refl) (listed.is_of_user account) in
      sym (map_back whole number_of (λ n. refl) hosts) ∙ ap (map number_of) (read ∙ ap (map (λ row. column row 0)) rows)
      ∙ numbers_of (λ n h. columns_of (of_host n h)) (listed.is_of_user account) (λ (h : HostRow). h.account == account) 1 w.hosts (λ n h. equal_numbers h.account account) (λ n h. refl)

  -- the keys of the set of their workunits are the user's workunits
  pub units_listed : (hosts : List ℕ) (empty units : BTreeSet ℕ) → map whole hosts ≡ map (λ row. column row 0) (rows_where db.trees Host (listed.is_of_user account))
      → empty.keys ≡ [] → IsOrdered nat_cmp units → HasAdded w hosts empty units → units.keys ≡ units_of_user w account
  units_listed hosts empty units read none ordered added =
      keys_are_places (user_had w account) units w.units ordered has ∙ units_are_places (user_had w account) 1 w.units
    where
      had : (o : Option UnitBook) → option_any (some_had hosts) o ≡ option_any (user_had w account) o
      had None = refl
      had (Some b) = ap (λ l. some_had l b) (hosts_listed hosts read) ∙ hosts_had w account b

      has : (unit : ℕ) → contains nat_cmp units unit ≡ option_any (user_had w account) (unit_at w unit)
      has unit = added unit ∙ ap (λ ks. list_any (λ k. is_eq (nat_cmp unit k)) ks || option_any (some_had hosts) (unit_at w unit)) none ∙ had (unit_at w unit)
