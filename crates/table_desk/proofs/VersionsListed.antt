-- The numbers of the versions that a statement lists are those of the world's versions of that application and platform. The version that a statement
-- shows is the world's, with its class.
use Rattle.std.proofs.Common.{◌≡◌, ◌⊎◌, ◌≤◌, ℕ, zero, suc, ◌+◌, pos, Bool, true, false, ◌&&◌, ◌||◌, cond, List, [], ◌∷◌, map, filter, fold, find, Option, Some, None, is_some, option_map, refl, sym, ap, ap₂, ◌∙◌, inl, inr, arith, int_eq, true≢false}
use Rattle.std.specs.Prelude.{◌==◌, nat_le, if◌then◌else◌, option_and_then, slice_get, unwrap_or}
use Rattle.std.specs.List.{enumerate_from, list_any, position_from, AllByRecursion}
use Rattle.std.specs.Str.{bytes_eq}
use Rattle.std.proofs.lemmas.Int.{ints}
use Rattle.std.proofs.lemmas.Bool.{cases_Bool, eqb-true, eq-eqb, both_ways}
use Rattle.std.proofs.lemmas.Bool.Decides.{nat_tests}
use Rattle.std.proofs.lemmas.List.Elements.{recursion_from_All}
use Rattle.std.proofs.lemmas.Option.{none-some, same_Some}
use Rattle.std.proofs.lemmas.Slice.Eq.{bytes_eq-Decides}
use Rattle.sqlite_value.specs.declared.keys.Collation.TheVariants.{Binary}
use Rattle.sqlite_value.specs.Order.{Row, bytes, column}
use Rattle.sqlite_schema.specs.Rules.{equal}
use Rattle.sqlite_sql.specs.declared.ops.CompareOp.TheVariants.{Eq}
use Rattle.sqlite_keyed.proofs.ListLemmas.{map-map, map_back}
use Rattle.sqlite_typed.proofs.TestLemmas.{at_ints}
use Rattle.sqlite.specs.Effect.{Database}
use Rattle.sched_book.specs.Desk.{version_by_key}
use Rattle.sched_book.specs.Fits.{newer, newest_version, is_version_for, version_among}
use Rattle.sched_book.specs.Imports.{has_app, is_version}
use Rattle.sched_book.specs.Places.{nth, place_where}
use Rattle.sched_book.proofs.PlacesOf.{nth-suc, place_where-is}
use Rattle.sched_book.specs.declared.rows.App.{App}
use Rattle.sched_book.specs.declared.rows.Version.{Version as Made}
use Rattle.sched_book.specs.declared.world.World.{World}
use Rattle.table_meaning.specs.declared.rows.StoredRow.{StoredRow}
use Rattle.table_meaning.specs.declared.rows.StoredVersionClass.{StoredVersionClass}
use Rattle.table_meaning.specs.declared.rows.StoredRow.TheVariants as stored
use Rattle.table_meaning.specs.declared.tables.TableName.TheVariants.{Version}
use Rattle.table_meaning.specs.Kept.{number_of}
use Rattle.table_meaning.specs.Listings as listed
use Rattle.table_meaning.specs.Listings.{rows_where, is_version_known}
use Rattle.table_meaning.specs.Rows.{version_key, class_key, columns_of, look_up, whole}
use Rattle.table_meaning.specs.Worlds.{contents_of, app_place, version_row, class_row}
use Rattle.table_meaning.proofs.Listings.{keyed_by_number}
use Rattle.table_worlds.proofs.AppsNamed.{named_app}
use Rattle.table_desk.specs.Asked.{Tell}
use Rattle.table_desk.specs.Versions.{greater, greatest}
use Rattle.table_desk.proofs.Found.{equal_texts, no_number, one_number}
use Rattle.table_desk.proofs.Standing.{rows_of_list, first_such}

-- ---- lists

-- what is picked of the items whose rows pass, if each row is tested as its item is
picked : {X Y : Type 0} (row : ℕ → X → Row) (test : Row → Bool) (p : X → Bool) (pick : Row → Y) (of : X → Y) (from : ℕ) (xs : List X)
    → AllByRecursion (λ x. (n : ℕ) → test (row n x) ≡ p x) xs → ((n : ℕ) (x : X) → pick (row n x) ≡ of x)
    → map pick (filter test (map (λ e. row e.0 e.1) (enumerate_from from xs))) ≡ map of (filter p xs)
picked row test p pick of from [] tells same = refl
picked {X} {Y} row test p pick of from (x ∷ xs) tells same =
    ap (λ b. map pick (cond b (row from x ∷ later) later)) (tells.0 from) ∙ turn (p x) (picked row test p pick of (from + 1) xs tells.1 same)
  where
    later : List Row
    later = filter test (map (λ e. row e.0 e.1) (enumerate_from (from + 1) xs))

    turn : (b : Bool) → map pick later ≡ map of (filter p xs) → map pick (cond b (row from x ∷ later) later) ≡ map of (cond b (x ∷ filter p xs) (filter p xs))
    turn true rest = ap₂ ◌∷◌ (same from x) rest
    turn false rest = rest

-- ---- the applications of versions

module _ (w : World) (name : List ℕ) (place : ℕ) (is_place : place_where (λ a. bytes_eq a.name name) w.apps ≡ Some place) where
  place_is : app_place w name ≡ place
  place_is = ap (λ o. unwrap_or o 0) is_place

  -- an application has this place exactly if it has this name
  same_app : (stands : has_app w.apps name ≡ true) (other : List ℕ) → has_app w.apps other ≡ true → (app_place w other == place) ≡ bytes_eq other name
  same_app stands other has = elim (cases_Bool (bytes_eq other name)) [
    | inl same ↦ eq-eqb _ _ (ap (app_place w) ((bytes_eq-Decides other name).0 same) ∙ place_is) ∙ sym same
    | inr apart ↦ elim (cases_Bool (app_place w other == place)) [
      | inl here ↦
          let here_named = named_app w other has in
          let named = named_app w name stands in
          let one : here_named.0 ≡ named.0 = same_Some _ _ (sym here_named.1 ∙ ap (nth w.apps) (eqb-true _ _ here ∙ sym place_is) ∙ named.1) in
          absurd (both_ways _ apart ((bytes_eq-Decides other name).1 (sym here_named.2 ∙ ap (λ (a : App). a.name) one ∙ named.2)))
      | inr there ↦ there ∙ sym apart
    ]
  ]

-- ---- the application of a place and of a name

any_from : {X : Type 0} (p : X → Bool) (from n : ℕ) (xs : List X) → position_from p from xs ≡ Some n → list_any p xs ≡ true
any_from p from n [] is = absurd (none-some _ is)
any_from p from n (x ∷ xs) is = turn (p x) is (any_from p (from + 1) n xs)
  where
    turn : (b : Bool) → cond b (Some from) (position_from p (from + 1) xs) ≡ Some n → (position_from p (from + 1) xs ≡ Some n → list_any p xs ≡ true) → (b || list_any p xs) ≡ true
    turn true here later = refl
    turn false there later = later there

pub place_stands : (apps : List App) (name : List ℕ) (place : ℕ) → place_where (λ a. bytes_eq a.name name) apps ≡ Some place → has_app apps name ≡ true
place_stands apps name place is = any_from (λ a. bytes_eq a.name name) 1 place apps (sym (place_where-is (λ a. bytes_eq a.name name) apps) ∙ is)

-- ---- the newest of some versions

abbrev number : Made → ℕ
number v = v.version_num

-- the version of a number: the best so far if it has the number, or else the first of these that has it
abbrev pick : Option Made → ℕ → List Made → Option Made
pick None n vs = find (λ v. v.version_num == n) vs
pick (Some best) n vs = if best.version_num == n then Some best else find (λ v. v.version_num == n) vs

-- the greatest of a number and others is at least that number
at_least : (best : ℕ) (ns : List ℕ) (most : ℕ) → fold greater (Some best) ns ≡ Some most → best ≤ most
at_least best [] most is = let same : best ≡ most = same_Some _ _ is in omega (arith, same)
at_least best (n ∷ ns) most is = turn (nat_le n best) refl (λ b. at_least b ns most) is
  where
    turn : (c : Bool) → nat_le n best ≡ c → ((b : ℕ) → fold greater (Some b) ns ≡ Some most → b ≤ most) → fold greater (cond c (Some best) (Some n)) ns ≡ Some most → best ≤ most
    turn true le rest is = rest best is
    turn false above rest is = let more = rest n is in grind (arith, nat_tests)

same_picks : (o : Option ℕ) (f g : ℕ → Option Made) → ((n : ℕ) → o ≡ Some n → f n ≡ g n) → option_and_then f o ≡ option_and_then g o
same_picks None f g same = refl
same_picks (Some n) f g same = same n refl

-- the newest of the best so far and some versions is the first one with the greatest number
newest_from : (best : Option Made) (vs : List Made) → fold newer best vs ≡ option_and_then (λ n. pick best n vs) (fold greater (option_map number best) (map number vs))
newest_from None [] = refl
newest_from (Some best) [] = sym (ap (λ c. cond c (Some best) None) (eq-eqb best.version_num best.version_num refl))
newest_from None (v ∷ vs) = newest_from (Some v) vs
newest_from (Some best) (v ∷ vs) = turn (nat_le v.version_num best.version_num) refl (newest_from (Some best) vs) (newest_from (Some v) vs)
  where
    others : ℕ → Option Made
    others n = find (λ v. v.version_num == n) vs

    turn : (c : Bool) → nat_le v.version_num best.version_num ≡ c
        → fold newer (Some best) vs ≡ option_and_then (λ n. pick (Some best) n vs) (fold greater (Some best.version_num) (map number vs))
        → fold newer (Some v) vs ≡ option_and_then (λ n. pick (Some v) n vs) (fold greater (Some v.version_num) (map number vs))
        → fold newer (cond c (Some best) (Some v)) vs ≡ option_and_then (λ n. pick (Some best) n (v ∷ vs)) (fold greater (cond c (Some best.version_num) (Some v.version_num)) (map number vs))
    turn true le kept new =
        kept ∙ same_picks (fold greater (Some best.version_num) (map number vs)) _ _ (λ n is. cases n (at_least best.version_num (map number vs) n is) (best.version_num == n) refl)
      where
        cases : (n : ℕ) → best.version_num ≤ n → (c : Bool) → (best.version_num == n) ≡ c → cond c (Some best) (others n) ≡ cond c (Some best) (cond (v.version_num == n) (Some v) (others n))
        cases n least true here = refl
        cases n least false there =
            let apart : (v.version_num == n) ≡ false = grind (arith, nat_tests) in
            sym (ap (λ d. cond d (Some v) (others n)) apart)
    turn false above kept new =
        new ∙ same_picks (fold greater (Some v.version_num) (map number vs)) _ _ (λ n is. passed n (at_least v.version_num (map number vs) n is))
      where
        passed : (n : ℕ) → v.version_num ≤ n → cond (v.version_num == n) (Some v) (others n) ≡ cond (best.version_num == n) (Some best) (cond (v.version_num == n) (Some v) (others n))
        passed n least =
            let apart : (best.version_num == n) ≡ false = grind (arith, nat_tests) in
            sym (ap (λ d. cond d (Some best) (cond (v.version_num == n) (Some v) (others n))) apart)

-- and there is one exactly if there is a number
some_from : (best : Option Made) (vs : List Made) → is_some (fold newer best vs) ≡ is_some (fold greater (option_map number best) (map number vs))
some_from None [] = refl
some_from (Some best) [] = refl
some_from None (v ∷ vs) = some_from (Some v) vs
some_from (Some best) (v ∷ vs) = turn (nat_le v.version_num best.version_num) (some_from (Some best) vs) (some_from (Some v) vs)
  where
    turn : (c : Bool) → is_some (fold newer (Some best) vs) ≡ is_some (fold greater (Some best.version_num) (map number vs))
        → is_some (fold newer (Some v) vs) ≡ is_some (fold greater (Some v.version_num) (map number vs))
        → is_some (fold newer (cond c (Some best) (Some v)) vs) ≡ is_some (fold greater (cond c (Some best.version_num) (Some v.version_num)) (map number vs))
    turn true kept new = kept
    turn false kept new = new

-- ---- versions of one application and platform

find-passed : (p q : Made → Bool) (vs : List Made) → find q (filter p vs) ≡ find (λ v. p v && q v) vs
find-passed p q [] = refl
find-passed p q (v ∷ vs) = turn (p v) (find-passed p q vs)
  where
    turn : (b : Bool) → find q (filter p vs) ≡ find (λ v. p v && q v) vs → find q (cond b (v ∷ filter p vs) (filter p vs)) ≡ cond (b && q v) (Some v) (find (λ v. p v && q v) vs)
    turn true later = ap (λ o. cond (q v) (Some v) o) later
    turn false later = later

module _ (name platform : List ℕ) where
  abbrev numbers_of : List Made → List ℕ
  numbers_of vs = map number (filter (is_version_for name platform) vs)

  -- the first of them with a number
  abbrev pub of_number : List Made → ℕ → Option Made
  of_number vs n = find (is_version name platform n) vs

  first_of : (n : ℕ) (vs : List Made) → find (λ v. v.version_num == n) (filter (is_version_for name platform) vs) ≡ of_number vs n
  first_of n vs = find-passed (is_version_for name platform) (λ v. v.version_num == n) vs ∙ ap (λ (q : Made → Bool). find q vs) (λ i v. sym (tests v) i)
    where
      tests : (v : Made) → is_version name platform n v ≡ (is_version_for name platform v && (v.version_num == n))
      tests v = grind arith

  -- the newest of them is the first one with the greatest number
  newest_told : (vs : List Made) → newest_version (filter (is_version_for name platform) vs) ≡ option_and_then (of_number vs) (greatest (numbers_of vs))
  newest_told vs = newest_from None (filter (is_version_for name platform) vs) ∙ same_picks (greatest (numbers_of vs)) _ _ (λ n is. first_of n vs)

-- ---- what is listed

module _ (db : Database) (w : World) (tell : Tell db w) (name : List ℕ) (place : ℕ) (is_place : place_where (λ a. bytes_eq a.name name) w.apps ≡ Some place) where
  stands : has_app w.apps name ≡ true
  stands = place_stands w.apps name place is_place

  abbrev NamesApp : Made → Type 0
  NamesApp v = has_app w.apps v.app ≡ true

  all_named : AllByRecursion NamesApp w.versions
  all_named = recursion_from_All NamesApp w.versions tell.readable.versions

  abbrev of_version : ℕ → Made → StoredRow
  of_version n v = stored.Version (version_row w n v)

  same_number : (a b : ℕ) → int_eq (pos a) (pos b) ≡ (a == b)
  same_number a b = grind (arith, ints)

  -- a row is of the application exactly if its version is
  app_tells : (v : Made) → NamesApp v → equal Binary (whole (app_place w v.app)) (whole place) ≡ bytes_eq v.app name
  app_tells v named = at_ints false Eq (pos (app_place w v.app)) (pos place) ∙ same_number (app_place w v.app) place ∙ same_app w name place is_place stands v.app named

  module _ (platform : List ℕ) where
    told_alike : (vs : List Made) → AllByRecursion NamesApp vs
        → AllByRecursion (λ v. (n : ℕ) → listed.is_version_for place platform (columns_of (of_version n v)) ≡ is_version_for name platform v) vs
    told_alike [] all = tt
    told_alike (v ∷ vs) all = (λ n. ap₂ (λ a b. a && b) (app_tells v all.0) (equal_texts v.platform platform), told_alike vs all.1)

    numbers_listed : (numbers : List ℕ) → map whole numbers ≡ map (λ row. column row 3) (rows_where db.trees Version (listed.is_version_for place platform)) → numbers ≡ numbers_of name platform w.versions
    numbers_listed numbers read =
        let rows = rows_of_list Version version_key (keyed_by_number Version refl) db (contents_of w tell.calls tell.batches) tell.holds of_version w.versions (λ n. refl) (listed.is_version_for place platform) in
        let passing = filter (listed.is_version_for place platform) (map (λ (e : ℕ × Made). columns_of (of_version e.0 e.1)) (enumerate_from 1 w.versions)) in
        sym (map_back whole number_of (λ n. refl) numbers) ∙ ap (map number_of) (read ∙ ap (map (λ row. column row 3)) rows)
        ∙ map-map number_of (λ (row : Row). column row 3) passing
        ∙ picked (λ n v. columns_of (of_version n v)) (listed.is_version_for place platform) (is_version_for name platform) (λ row. number_of (column row 3)) number 1 w.versions
        (told_alike w.versions all_named) (λ n v. refl)

    -- the newest version for the platform, and whether there is one
    newest_listed : (numbers : List ℕ) → map whole numbers ≡ map (λ row. column row 3) (rows_where db.trees Version (listed.is_version_for place platform))
        → newest_version (filter (is_version_for name platform) w.versions) ≡ option_and_then (of_number name platform w.versions) (greatest numbers)
    newest_listed numbers read = newest_told name platform w.versions ∙ ap (λ l. option_and_then (of_number name platform w.versions) (greatest l)) (sym (numbers_listed numbers read))

    some_listed : (numbers : List ℕ) → map whole numbers ≡ map (λ row. column row 3) (rows_where db.trees Version (listed.is_version_for place platform))
        → is_some (newest_version (filter (is_version_for name platform) w.versions)) ≡ is_some (greatest numbers)
    some_listed numbers read = some_from None (filter (is_version_for name platform) w.versions) ∙ ap (λ l. is_some (greatest l)) (sym (numbers_listed numbers read))

    -- ---- the version of a number

    module _ (num : ℕ) where
      same_version : (n : ℕ) (v : Made) → NamesApp v → is_version_known place platform num (columns_of (of_version n v)) ≡ is_version name platform num v
      same_version n v named =
          ap₂ (λ a b. a && b) (app_tells v named)
          (ap₂ (λ a b. a && b) (equal_texts v.platform platform) (at_ints false Eq (pos v.version_num) (pos num) ∙ same_number v.version_num num)) ∙ together
        where
          together : (bytes_eq v.app name && (bytes_eq v.platform platform && (v.version_num == num))) ≡ is_version name platform num v
          together = grind arith

      -- Either there is no such version, or it is at a place, and the statement shows that place.
      known : (id : Option ℕ) → option_map whole id ≡ option_map (λ row. column row 0) (slice_get (rows_where db.trees Version (is_version_known place platform num)) 0)
          → ((id ≡ None) × (of_number name platform w.versions num ≡ None))
          ⊎ ((n : ℕ) × (v : Made) × (id ≡ Some n) × (nth w.versions n ≡ Some v) × (of_number name platform w.versions num ≡ Some v) × (is_version name platform num v ≡ true))
      known id read =
          let rows = rows_of_list Version version_key (keyed_by_number Version refl) db (contents_of w tell.calls tell.batches) tell.holds of_version w.versions (λ n. refl) (is_version_known place platform num) in
          let first = first_such (λ (e : ℕ × Made). columns_of (of_version e.0 e.1)) (is_version_known place platform num) (is_version name platform num) NamesApp same_version w.versions all_named in
          let told = read ∙ ap (λ l. option_map (λ row. column row 0) (slice_get l 0)) rows in
          elim first [
            | inl none ↦ inl (no_number id (told ∙ ap (option_map (λ row. column row 0)) none.0), none.2)
            | inr found ↦ inr (found.0, found.1, one_number id found.0 (told ∙ ap (option_map (λ row. column row 0)) found.2), found.4, found.5, found.6)
          ]

      pub version_missing : option_map whole None ≡ option_map (λ row. column row 0) (slice_get (rows_where db.trees Version (is_version_known place platform num)) 0)
          → None ≡ of_number name platform w.versions num
      version_missing read = elim (known None read) [ inl none ↦ sym none.1 | inr found ↦ absurd (none-some _ found.2) ]

      -- it follows from its number and its class
      pub version_found : (id : ℕ) (row : StoredVersionClass) (made : Made) → option_map whole (Some id) ≡ option_map (λ row. column row 0) (slice_get (rows_where db.trees Version (is_version_known place platform num)) 0)
          → Some (columns_of (stored.VersionClass row)) ≡ look_up db.trees (class_key id) → made ≡ record { app = name; platform = platform; version_num = num; class = row.class }
          → Some made ≡ of_number name platform w.versions num
      version_found id row made read classed is = elim (known (Some id) read) [
        | inl none ↦ absurd (none-some _ (sym none.0))
        | inr found ↦
            let at : id ≡ found.0 = same_Some _ _ found.2 in
            let shown = same_Some _ _ (classed ∙ tell.holds.rows (class_key id) ∙ ap (λ o. option_map columns_of (option_map (λ (v : Made). stored.VersionClass (class_row id v)) o)) (ap (nth w.versions) at ∙ found.3)) in
            let class : row.class ≡ found.1.class = ap (λ (r : Row). bytes (column r 1)) shown in
            let app : found.1.app ≡ name = (bytes_eq-Decides found.1.app name).0 (is_app found.1 found.5) in
            let on : found.1.platform ≡ platform = (bytes_eq-Decides found.1.platform platform).0 (is_on found.1 found.5) in
            let numbered : found.1.version_num ≡ num = eqb-true found.1.version_num num (is_numbered found.1 found.5) in
            ap Some (is ∙ (λ i. record { app = sym app i; platform = sym on i; version_num = sym numbered i; class = class i })) ∙ sym found.4
      ]
        where
          is_app : (v : Made) → is_version name platform num v ≡ true → bytes_eq v.app name ≡ true
          is_app v is = grind arith

          is_on : (v : Made) → is_version name platform num v ≡ true → bytes_eq v.platform platform ≡ true
          is_on v is = grind arith

          is_numbered : (v : Made) → is_version name platform num v ≡ true → (v.version_num == num) ≡ true
          is_numbered v is = grind arith

-- ---- an application that does not exist

none_from : {X : Type 0} (p : X → Bool) (from : ℕ) (xs : List X) → position_from p from xs ≡ None → list_any p xs ≡ false
none_from p from [] is = refl
none_from p from (x ∷ xs) is = turn (p x) is (none_from p (from + 1) xs)
  where
    turn : (b : Bool) → cond b (Some from) (position_from p (from + 1) xs) ≡ None → (position_from p (from + 1) xs ≡ None → list_any p xs ≡ false) → (b || list_any p xs) ≡ false
    turn true here later = absurd (none-some _ (sym here))
    turn false there later = later there

no_place : (apps : List App) (name : List ℕ) → place_where (λ a. bytes_eq a.name name) apps ≡ None → has_app apps name ≡ false
no_place apps name is = none_from (λ a. bytes_eq a.name name) 1 apps (sym (place_where-is (λ a. bytes_eq a.name name) apps) ∙ is)

-- the application at a place has the name of an application that exists
pub named_stands : (apps : List App) (n : ℕ) (a : App) → nth apps n ≡ Some a → None ≡ place_where (λ b. bytes_eq b.name a.name) apps → ⊥
named_stands apps n a stands none = true≢false (sym (there apps n stands) ∙ no_place apps a.name (sym none))
  where
    here : (apps : List App) (i : ℕ) → slice_get apps i ≡ Some a → has_app apps a.name ≡ true
    here [] i is = absurd (none-some _ is)
    here (b ∷ bs) zero is = ap (λ c. c || has_app bs a.name) ((bytes_eq-Decides b.name a.name).1 (ap (λ (x : App). x.name) (same_Some _ _ is)))
    here (b ∷ bs) (suc i) is = turn (bytes_eq b.name a.name) (here bs i is)
      where
        turn : (c : Bool) → has_app bs a.name ≡ true → (c || has_app bs a.name) ≡ true
        turn true later = refl
        turn false later = later

    there : (apps : List App) (n : ℕ) → nth apps n ≡ Some a → has_app apps a.name ≡ true
    there apps zero is = absurd (none-some _ is)
    there apps (suc i) is = here apps i (sym (nth-suc apps i) ∙ is)

-- no version is of an application that does not exist
pub no_version : (db : Database) (w : World) → Tell db w → (name platform : List ℕ) (n : ℕ) → None ≡ place_where (λ a. bytes_eq a.name name) w.apps → None ≡ version_by_key w name platform n
no_version db w tell name platform n none = sym (found w.versions (recursion_from_All (λ (v : Made). has_app w.apps v.app ≡ true) w.versions tell.readable.versions))
  where
    found : (vs : List Made) → AllByRecursion (λ v. has_app w.apps v.app ≡ true) vs → find (is_version name platform n) vs ≡ None
    found [] all = refl
    found (v ∷ vs) all = turn (bytes_eq v.app name) refl (found vs all.1)
      where
        turn : (b : Bool) → bytes_eq v.app name ≡ b → find (is_version name platform n) vs ≡ None → cond (is_version name platform n v) (Some v) (find (is_version name platform n) vs) ≡ None
        turn true same later = absurd (true≢false (sym (sym (ap (has_app w.apps) ((bytes_eq-Decides v.app name).0 same)) ∙ all.0) ∙ no_place w.apps name (sym none)))
        turn false other later =
            let not_it : is_version name platform n v ≡ false = grind arith in
            ap (λ c. cond c (Some v) (find (is_version name platform n) vs)) not_it ∙ later

-- ---- platforms in turn

-- the version for the first of some platforms if it has any, or else that for the others
next_platform : (versions : List Made) (name p : List ℕ) (platforms : List (List ℕ)) (best : Option ℕ)
    → newest_version (filter (is_version_for name p) versions) ≡ option_and_then (of_number name p versions) best → is_some (newest_version (filter (is_version_for name p) versions)) ≡ is_some best
    → version_among versions name (p ∷ platforms) ≡ cond (is_some best) (option_and_then (of_number name p versions) best) (version_among versions name platforms)
next_platform versions name p platforms best is some =
    ap (λ b. cond b (newest_version (filter (is_version_for name p) versions)) (version_among versions name platforms)) some
    ∙ ap (λ o. cond (is_some best) o (version_among versions name platforms)) is

-- a platform whose versions are listed, and those after it
pub after_platform : (db : Database) (w : World) (tell : Tell db w) (name : List ℕ) (place : ℕ) → place_where (λ a. bytes_eq a.name name) w.apps ≡ Some place → (left later : List (List ℕ)) (p : List ℕ) → left ≡ p ∷ later
    → (numbers : List ℕ) → map whole numbers ≡ map (λ row. column row 3) (rows_where db.trees Version (listed.is_version_for place p)) → (best : Option ℕ) → best ≡ greatest numbers
    → version_among w.versions name left ≡ cond (is_some best) (option_and_then (of_number name p w.versions) best) (version_among w.versions name later)
after_platform db w tell name place is_place left later p split numbers read best is =
    ap (version_among w.versions name) split
    ∙ next_platform w.versions name p later best
    (newest_listed db w tell name place is_place p numbers read ∙ ap (option_and_then (of_number name p w.versions)) (sym is))
    (some_listed db w tell name place is_place p numbers read ∙ ap is_some (sym is))
