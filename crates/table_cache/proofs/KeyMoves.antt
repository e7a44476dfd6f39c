-- The keys of hosts and the names of workunits move with the rows of hosts and workunits.
use Rattle.std.proofs.Common.{◌≡◌, ◌<◌, ◌+◌, ℕ, zero, suc, Bool, true, false, true≢false, cond, eqb, List, [], ◌∷◌, length, Option, Some, None, option_map, refl, sym, subst, ap, ◌∙◌, arith}
use Rattle.std.specs.Prelude.{◌&&◌, ◌==◌, nat_lt, slice_get, IfSome}
use Rattle.std.specs.List.{position_from}
use Rattle.std.specs.Ordering.{nat_cmp}
use Rattle.std.specs.Str.{bytes_eq}
use Rattle.std.proofs.lemmas.Bool.{eqb-true}
use Rattle.std.proofs.lemmas.Bool.Decides.{nat_tests}
use Rattle.std.proofs.lemmas.Option.{same_Some}
use Rattle.sched_book.specs.Places.{nth, option_any, place_where, host_at, unit_at, held_by, host_credit, is_host_of, known_host, unit_named}
use Rattle.sched_book.specs.declared.instance.UnitBook.{UnitBook}
use Rattle.sched_book.specs.declared.rows.HostRow.{HostRow}
use Rattle.sched_book.specs.declared.rows.Workunit.{Workunit}
use Rattle.sched_book.specs.declared.world.World.{World}
use Rattle.sched_book.proofs.PlacesOf.{nth-suc, place_where-is}
use Rattle.table_desk.specs.Columns.{counted_host_at}
use Rattle.table_desk.specs.declared.hosts.CountedHost.{CountedHost}
use Rattle.table_meaning.specs.declared.rows.StoredHost.{StoredHost}
use Rattle.table_meaning.specs.declared.rows.StoredRow.TheVariants as stored
use Rattle.table_meaning.specs.declared.rows.StoredUnit.{StoredUnit}
use Rattle.table_cache.specs.Carrying.{counted_of, with_host}
use Rattle.table_cache.specs.LastNumbers.{AreNonePast, IsPastLast}
use Rattle.table_cache.specs.Keys.{has_key, title_at, with_title, AreFirstUnits, AreKeysOf, AreTitled, IsFirst, IsFirstHost, IsFirstUnit, KeepsKey, KeepsName}
use Rattle.table_cache.specs.RowsRead.{IsWithout}
use Rattle.table_cache.specs.declared.keys.HostKeyRead.{HostKeyRead}
use Rattle.table_cache.specs.declared.rows_read.RowsRead.{RowsRead}

-- ---- the first number that passes

first_by : (p q : ℕ → Bool) (number : ℕ) → ((n : ℕ) → p n ≡ q n) → IsFirst p number → IsFirst q number
first_by p q number same first = (sym (same number) ∙ first.0, λ n less. sym (same n) ∙ first.1 n less)

-- the first one in a list, from any number on
abbrev FirstFrom : {X : Type 0} → (X → Bool) → ℕ → List X → ℕ → Type 0
FirstFrom {X} p m xs n = (i : ℕ) × (n ≡ m + i) × (option_any p (slice_get xs i) ≡ true) × ((k : ℕ) → k < i → option_any p (slice_get xs k) ≡ false)

first_from : {X : Type 0} (p : X → Bool) (m : ℕ) (xs : List X) (n : ℕ) → position_from p m xs ≡ Some n → FirstFrom p m xs n
first_from p m [] n is = absurd cc
first_from {X} p m (y ∷ ys) n is = cases (p y) refl is (first_from p (m + 1) ys n)
  where
    later_too : (i : ℕ) → p y ≡ false → ((k : ℕ) → k < i → option_any p (slice_get ys k) ≡ false) → (k : ℕ) → k < suc i → option_any p (slice_get (y ∷ ys) k) ≡ false
    later_too i fails before zero less = fails
    later_too i fails before (suc k) less = before k (omega (arith, less))

    cases : (b : Bool) → p y ≡ b → cond b (Some m) (position_from p (m + 1) ys) ≡ Some n → (position_from p (m + 1) ys ≡ Some n → FirstFrom p (m + 1) ys n) → FirstFrom p m (y ∷ ys) n
    cases true passes is later = let same : m ≡ n = same_Some m n is in (0, omega (arith, same), passes, λ k less. absurd (omega (arith, less)))
    cases false fails is later = let there = later is in (suc there.0, omega (arith, there.1), there.2, later_too there.0 fails there.3)

from_first : {X : Type 0} (p : X → Bool) (m : ℕ) (xs : List X) (i : ℕ) → option_any p (slice_get xs i) ≡ true → ((k : ℕ) → k < i → option_any p (slice_get xs k) ≡ false) → position_from p m xs ≡ Some (m + i)
from_first p m [] i here before = absurd cc
from_first p m (y ∷ ys) zero here before = ap (λ (b : Bool). cond b (Some m) (position_from p (m + 1) ys)) here ∙ ap Some (let same : m ≡ m + 0 = omega arith in same)
from_first p m (y ∷ ys) (suc i) here before =
    ap (λ (b : Bool). cond b (Some m) (position_from p (m + 1) ys)) (before 0 (omega arith))
    ∙ from_first p (m + 1) ys i here (λ k less. before (suc k) (omega (arith, less)))
    ∙ ap Some (let same : m + 1 + i ≡ m + suc i = omega arith in same)

-- it is at the place where a list has the first that passes
module _ {X : Type 0} (p : X → Bool) (xs : List X) where
  abbrev passes_at : ℕ → Bool
  passes_at k = option_any p (nth xs k)

  first_of_place : (n : ℕ) → place_where p xs ≡ Some n → IsFirst passes_at n
  first_of_place n is =
      let found = first_from p 1 xs n (sym (place_where-is p xs) ∙ is) in
      let at : n ≡ suc found.0 = omega (arith, found.1) in
      (ap passes_at at ∙ ap (option_any p) (nth-suc xs found.0) ∙ found.2, before found.0 at found.3)
    where
      before : (i : ℕ) → n ≡ suc i → ((k : ℕ) → k < i → option_any p (slice_get xs k) ≡ false) → (k : ℕ) → k < n → passes_at k ≡ false
      before i at none zero less = refl
      before i at none (suc k) less = ap (option_any p) (nth-suc xs k) ∙ none k (omega (arith, at, less))

  place_of_first : (n : ℕ) → IsFirst passes_at n → place_where p xs ≡ Some n
  place_of_first zero first = absurd (true≢false (sym first.0))
  place_of_first (suc i) first =
      place_where-is p xs
      ∙ from_first p 1 xs i (sym (ap (option_any p) (nth-suc xs i)) ∙ first.0) (λ k less. sym (ap (option_any p) (nth-suc xs k)) ∙ first.1 (suc k) (omega (arith, less)))
      ∙ ap Some (let same : 1 + i ≡ suc i = omega arith in same)

-- the first one stays so with a number past all that pass
pub first_still : (p q : ℕ → Bool) (last bound number : ℕ) → last < bound → ((n : ℕ) → last < n → p n ≡ false) → ((n : ℕ) → eqb bound n ≡ false → q n ≡ p n) → IsFirst p number → IsFirst q number
first_still p q last bound number past none same first = go (nat_lt last number) refl
  where
    go : (b : Bool) → nat_lt last number ≡ b → IsFirst q number
    go true is =
        let after : last < number = grind (arith, nat_tests, is) in
        absurd (true≢false (sym first.0 ∙ none number after))
    go false is =
        let within : number < bound = grind (arith, nat_tests, is, past) in
        (same number (grind (arith, nat_tests, within)) ∙ first.0, λ n less. same n (grind (arith, nat_tests, less, within)) ∙ first.1 n less)

-- ---- hosts and workunits of a world

module _ (w : World) where
  key_there : (account : ℕ) (cpid : List ℕ) (n : ℕ) → has_key account cpid (counted_host_at w n) ≡ option_any (is_host_of account cpid) (nth w.hosts n)
  key_there account cpid n = go (host_at w n)
    where
      go : (o : Option HostRow) → has_key account cpid (option_map (λ (h : HostRow). record { row = h; held = length (held_by w n); credit = host_credit w n }) o) ≡ option_any (is_host_of account cpid) o
      go None = refl
      go (Some h) = refl

  pub first_host : (account : ℕ) (cpid : List ℕ) (n : ℕ) → known_host w account cpid ≡ Some n → IsFirstHost (counted_host_at w) account cpid n
  first_host account cpid n is =
      first_by (passes_at (is_host_of account cpid) w.hosts) (λ k. has_key account cpid (counted_host_at w k)) n (λ k. sym (key_there account cpid k)) (first_of_place (is_host_of account cpid) w.hosts n is)

  pub host_of_first : (account : ℕ) (cpid : List ℕ) (n : ℕ) → IsFirstHost (counted_host_at w) account cpid n → known_host w account cpid ≡ Some n
  host_of_first account cpid n first =
      place_of_first (is_host_of account cpid) w.hosts n (first_by (λ k. has_key account cpid (counted_host_at w k)) (passes_at (is_host_of account cpid) w.hosts) n (key_there account cpid) first)

  title_there : (name : List ℕ) (n : ℕ) → option_any (λ title. bytes_eq title name) (title_at w n) ≡ option_any (λ (b : UnitBook). bytes_eq b.unit.name name) (nth w.units n)
  title_there name n = go (unit_at w n)
    where
      go : (o : Option UnitBook)
          → option_any (λ title. bytes_eq title name) (option_map (λ (u : Workunit). u.name) (option_map (λ (b : UnitBook). b.unit) o)) ≡ option_any (λ (b : UnitBook). bytes_eq b.unit.name name) o
      go None = refl
      go (Some b) = refl

  pub first_unit : (name : List ℕ) (n : ℕ) → unit_named w name ≡ Some n → IsFirstUnit (title_at w) name n
  first_unit name n is =
      let p = λ (b : UnitBook). bytes_eq b.unit.name name in
      first_by (passes_at p w.units) (λ k. option_any (λ title. bytes_eq title name) (title_at w k)) n (λ k. sym (title_there name k)) (first_of_place p w.units n is)

  pub unit_of_first : (name : List ℕ) (n : ℕ) → IsFirstUnit (title_at w) name n → unit_named w name ≡ Some n
  unit_of_first name n first =
      let p = λ (b : UnitBook). bytes_eq b.unit.name name in
      place_of_first p w.units n (first_by (λ k. option_any (λ title. bytes_eq title name) (title_at w k)) (passes_at p w.units) n (title_there name) first)

-- ---- with the row of a host

module _ (hosts : ℕ → Option CountedHost) (row : StoredHost) (keeps : KeepsKey hosts row) where
  abbrev read : CountedHost
  read = counted_of (stored.Host row)

  same_key : (account : ℕ) (cpid : List ℕ) (n : ℕ) → has_key account cpid (hosts n) ≡ has_key account cpid (with_host hosts (stored.Host row) n)
  same_key account cpid n = go (eqb row.id n) refl
    where
      then : (b : Bool) → eqb row.id n ≡ b → has_key account cpid (with_host hosts (stored.Host row) n) ≡ has_key account cpid (cond b (Some read) (hosts n))
      then b is = ap (λ c. has_key account cpid (cond c (Some read) (hosts n))) is

      of_row : is_host_of account cpid keeps.host.row ≡ is_host_of account cpid read.row
      of_row = λ i. (keeps.account i == account) && bytes_eq (keeps.cpid i) cpid

      go : (b : Bool) → eqb row.id n ≡ b → has_key account cpid (hosts n) ≡ has_key account cpid (with_host hosts (stored.Host row) n)
      go true is = ap (λ m. has_key account cpid (hosts m)) (sym (eqb-true row.id n is)) ∙ ap (has_key account cpid) keeps.is_host ∙ of_row ∙ sym (then true is)
      go false is = sym (then false is)

  pub keys_followed : (keys : RowsRead (List ℕ) HostKeyRead) → AreKeysOf hosts keys → AreKeysOf (with_host hosts (stored.Host row)) keys
  keys_followed keys are = record {
    each = λ cpid k is. first_by (λ n. has_key k.account cpid (hosts n)) (λ n. has_key k.account cpid (with_host hosts (stored.Host row) n)) k.host (same_key k.account cpid) (are.each cpid k is);
  }

-- a new host changes no key
pub keys_still : (hosts : ℕ → Option CountedHost) (row : StoredHost) (last : Option ℕ) → IsPastLast last row.id → IfSome last (AreNonePast hosts) → (keys : RowsRead (List ℕ) HostKeyRead) → AreKeysOf hosts keys
    → AreKeysOf (with_host hosts (stored.Host row)) keys
keys_still hosts row None past none keys are = absurd past
keys_still hosts row (Some last) past none keys are = record {
  each = λ cpid k is.
      first_still (λ n. has_key k.account cpid (hosts n)) (λ n. has_key k.account cpid (with_host hosts (stored.Host row) n)) last row.id k.host past
      (λ n after. ap (has_key k.account cpid) (none n after))
      (λ n other. ap (λ (b : Bool). has_key k.account cpid (cond b (Some (counted_of (stored.Host row))) (hosts n))) other) (are.each cpid k is);
}

-- ---- with the row of a workunit

module _ (titles : ℕ → Option (List ℕ)) (row : StoredUnit) where
  then_titled : (n : ℕ) (b : Bool) → eqb row.id n ≡ b → with_title titles (stored.Unit row) n ≡ cond b (Some row.name) (titles n)
  then_titled n b is = ap (λ c. cond c (Some row.name) (titles n)) is

  pub titles_elsewhere : (n : ℕ) → eqb row.id n ≡ false → with_title titles (stored.Unit row) n ≡ titles n
  titles_elsewhere n other = then_titled n false other

  pub names_followed : KeepsName titles row → (names : RowsRead (List ℕ) ℕ) → AreFirstUnits titles names → AreFirstUnits (with_title titles (stored.Unit row)) names
  names_followed keeps names are = subst (λ (ts : ℕ → Option (List ℕ)). AreFirstUnits ts names) (λ i n. same n (eqb row.id n) refl i) are
    where
      same : (n : ℕ) (b : Bool) → eqb row.id n ≡ b → titles n ≡ with_title titles (stored.Unit row) n
      same n true is = ap titles (sym (eqb-true row.id n is)) ∙ keeps ∙ sym (then_titled n true is)
      same n false is = sym (then_titled n false is)

  -- a new workunit changes no place of a name
  pub names_still : (last : Option ℕ) → IsPastLast last row.id → IfSome last (AreNonePast titles) → (names : RowsRead (List ℕ) ℕ) → AreFirstUnits titles names → AreFirstUnits (with_title titles (stored.Unit row)) names
  names_still None past none names are = absurd past
  names_still (Some last) past none names are = λ name n is.
      first_still (λ m. option_any (λ title. bytes_eq title name) (titles m)) (λ m. option_any (λ title. bytes_eq title name) (with_title titles (stored.Unit row) m)) last row.id n past
      (λ m after. ap (option_any (λ title. bytes_eq title name)) (none m after))
      (λ m other. ap (option_any (λ title. bytes_eq title name)) (then_titled m false other)) (are name n is)

  pub titled_without : (before after : RowsRead ℕ Workunit) → IsWithout nat_cmp before after row.id → AreTitled titles before → AreTitled (with_title titles (stored.Unit row)) after
  titled_without before after without titled n u is =
      let was = without n u is in
      let other : eqb row.id n ≡ false = grind (arith, nat_tests, was.0) in
      then_titled n false other ∙ titled n u was.1
