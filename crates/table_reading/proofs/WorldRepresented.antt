-- Rows are those of a sound world exactly if two things hold: its workunits are at their keys with their marks, and the other rows
-- are those of this world.
use Rattle.std.proofs.Common.{◌≡◌, ◌≤◌, ◌<◌, ℕ, zero, suc, ◌+◌, ◌-◌, true, List, [], ◌∷◌, map, filter_map, fold, length, get_or, Option, Some, option_map, All, refl, sym, ap, subst, ◌∙◌, arith}
use Rattle.std.specs.List.{cons_option, range_with_len}
use Rattle.std.specs.Prelude.{slice_get, unwrap_or, option_and_then}
use Rattle.std.proofs.lemmas.Bool.Decides.{nat_tests}
use Rattle.std.proofs.lemmas.Option.{slice_get_within, get_or_from_slice_get}
use Rattle.sqlite.specs.Effect.{Database}
use Rattle.sqlite.proofs.StateLemmas.{is_cached as stands_within}
use Rattle.sqlite.proofs.RunLemmas.{has_got}
use Rattle.sqlite_rules.specs.Lists.{Has}
use Rattle.sqlite_rules.proofs.ListLemmas.{all_has}
use Rattle.sqlite_keyed.proofs.ListLemmas.{all-slice_get}
use Rattle.sched_book.specs.Numbered.{map_from}
use Rattle.sched_book.specs.Limits.{most_instances}
use Rattle.sched_book.specs.Sound.{Sound, IsSoundUnit}
use Rattle.sched_book.specs.declared.instance.Instance.{Instance as Job}
use Rattle.sched_book.specs.declared.instance.UnitBook.{UnitBook}
use Rattle.sched_book.specs.declared.world.World.{World}
use Rattle.table_meaning.specs.declared.rows.StoredInstance.{StoredInstance}
use Rattle.table_meaning.specs.declared.rows.StoredRow.{StoredRow}
use Rattle.table_meaning.specs.declared.rows.StoredRow.TheVariants as stored
use Rattle.table_meaning.specs.declared.tables.TableName.TheVariants as name
use Rattle.table_meaning.specs.Holding.{AreKnown}
use Rattle.table_meaning.specs.Kept.{calls_in, batches_in}
use Rattle.table_meaning.specs.Rows.{RowKey, unit_key, mark_key, instance_key, columns_of, table_of, table_at, row_key_of, look_up}
use Rattle.table_meaning.specs.Worlds.{HoldWorld, unit_row, mark_row, instance_row}
use Rattle.table_meaning.proofs.EachRow.{columns_told}
use Rattle.table_meaning.proofs.RowsHeld.{held_row}
use Rattle.table_worlds.specs.Keys.{row_in, other_row, keyed, numbered}
use Rattle.table_worlds.specs.RowsOf.{AreOtherRows, having, other_rows, rows_of_unit}
use Rattle.table_worlds.specs.declared.keys.NumberedTable.TheVariants as table
use Rattle.table_worlds.specs.declared.keys.WorldKey.{WorldKey}
use Rattle.table_worlds.proofs.ByPlace.{nth_next, all_got}
use Rattle.table_worlds.proofs.ColumnsBack.{one_instance, is_unit_row, is_mark_row, is_instance_row}
use Rattle.table_worlds.proofs.HostTotals.{slice_get-map_from}
use Rattle.table_worlds.proofs.InstanceRows.{own_rows, own_listed, listed_own}
use Rattle.table_worlds.proofs.RowsFound.{found_at_key}
use Rattle.table_worlds.proofs.UnitRowsRead.{length-map_from, written_at}
use Rattle.table_decoding.specs.Decoding.{of_unit, of_mark}
use Rattle.table_decoding.proofs.RowsInOrder.{unit_rows, mark_rows}
use Rattle.table_reading.specs.Counting.{is_numbered, next_number, noted, none_noted}
use Rattle.table_reading.specs.Reading.{AllRows, AreAllRead, AreTyped, Represent, reading_of}
use Rattle.table_reading.specs.Testing.{PassesAt, AreTested, IsFit}
use Rattle.table_reading.specs.declared.counts.UnitCounts.{UnitCounts}
use Rattle.table_reading.specs.declared.rows.Reading.{Reading}
use Rattle.table_reading.proofs.CallsTested.{calls_tested}
use Rattle.table_reading.proofs.CountsNoted.{AreInTurn, AreOfUnits, same_count, same_mark, in_turn_told, was_in_turn, of_units_counted, units_counted, units_without, units_marked, units_told, units_turned, marks_count, marks_told, marks_turned}
use Rattle.table_reading.proofs.KeptRows.{held_by_rows}
use Rattle.table_reading.proofs.UnitsTested.{same_each, one_row}

-- ---- lists

same_rows : (f g : WorldKey → Option StoredRow) (key : ℕ → WorldKey) → ((id : ℕ) → f (key id) ≡ g (key id)) → (ids : List ℕ) → filter_map f (map key ids) ≡ filter_map g (map key ids)
same_rows f g key each [] = refl
same_rows f g key each (id ∷ ids) = ap (λ o. cons_option o (filter_map f (map key ids))) (each id) ∙ ap (λ rows. cons_option (g (key id)) rows) (same_rows f g key each ids)

numbered_within : (cs : List ℕ) (n : ℕ) → is_numbered cs n ≡ true → (1 ≤ n) × (n ≤ length cs)
numbered_within cs n is = (grind (arith, nat_tests, is), grind (arith, nat_tests, is))

numbered_is : (cs : List ℕ) (n : ℕ) → 1 ≤ n → n ≤ length cs → is_numbered cs n ≡ true
numbered_is cs n from until = grind (arith, nat_tests, from, until)

instance_in_row : (x y : StoredInstance) → stored.Instance x ≡ stored.Instance y → x ≡ y
instance_in_row x y e = cc

module _ (db : Database) (known : AreKnown db) (all : AllRows) (read : AreAllRead db.trees all) (typed : AreTyped all) (d : World) (books : List UnitBook) where
  abbrev w : World
  w = having d books

  -- what was noted after the workunits, then after the marks, and then after the instances
  abbrev of_all_units : UnitCounts
  of_all_units = fold noted none_noted all.world.units

  abbrev before : UnitCounts
  before = fold noted of_all_units all.world.marks

  abbrev after : UnitCounts
  after = fold noted before all.world.instances

  abbrev counts : List ℕ
  counts = after.counts

  count_units : length counts ≡ length all.world.units
  count_units =
      let instances : length counts ≡ length before.counts = same_count all.world.instances before typed.instances in
      let marks : length before.counts ≡ length of_all_units.counts = ap length (marks_count all.world.marks of_all_units typed.marks) in
      let units : length of_all_units.counts ≡ 0 + length all.world.units = units_counted all.world.units none_noted typed.units in
      omega (arith, instances, marks, units)

  no_mark : of_all_units.last_mark ≡ 0
  no_mark = units_marked all.world.units none_noted typed.units

  last_mark : after.last_mark ≡ before.last_mark
  last_mark = same_mark all.world.instances before typed.instances

  instances_of_table : (r : StoredRow) → Has all.world.instances r → table_at (row_key_of r) ≡ name.Instance
  instances_of_table r has = let x = is_instance_row r (all_has (λ s. table_of s ≡ name.Instance) all.world.instances r typed.instances has) in ap (λ s. table_at (row_key_of s)) x.1

  -- a row that was read is at its key
  found_at : (r : StoredRow) {q : StoredRow} → r ≡ q → (key : RowKey) → row_key_of r ≡ key → look_up db.trees (row_key_of q) ≡ Some (columns_of q)
      → look_up db.trees key ≡ Some (columns_of r)
  found_at r same key at found =
      subst (λ k. look_up db.trees k ≡ Some (columns_of r)) at (subst (λ s. look_up db.trees (row_key_of s) ≡ Some (columns_of s)) (sym same) found)

  -- ---- if everything was tested

  module _ (fit : IsFit d (reading_of all)) (tested : AreTested db.trees d counts (length counts) books) (beside : AreOtherRows w (other_rows all.world)) where
    -- the workunit at an index passes, with `n` instances
    stands : (i : ℕ) (b : UnitBook) → slice_get books i ≡ Some b → (n : ℕ) × (slice_get counts i ≡ Some n) × PassesAt db.trees d (i + 1) n b
    stands i b is =
        let within = slice_get_within books i b is in
        let n = stands_within counts i (omega (arith, within, tested.all)) in
        (n.0, n.1, tested.each i n.0 b n.1 is)

    instances_counted : (i : ℕ) (b : UnitBook) (n : ℕ) → PassesAt db.trees d (i + 1) n b → length b.instances ≡ n
    instances_counted i b n at = sym (length-map_from (λ k x. instance_row d b (i + 1) (k - 1) x) 1 b.instances) ∙ at.found.instances_at.count

    -- the row of an instance is at its key
    instance_at : (i k n : ℕ) (b : UnitBook) (x : Job) → PassesAt db.trees d (i + 1) n b → slice_get b.instances k ≡ Some x
        → look_up db.trees (instance_key (i + 1) k) ≡ Some (columns_of (stored.Instance (instance_row d b (i + 1) k x)))
    instance_at i k n b x at is =
        at.found.instances_at.at k (instance_row d b (i + 1) k x)
        (slice_get-map_from (λ m y. instance_row d b (i + 1) (m - 1) y) 1 b.instances k
        ∙ ap (option_map (λ (y : Job). instance_row d b (i + 1) (k + 1 - 1) y)) is
        ∙ ap (λ m. Some (instance_row d b (i + 1) m x)) (let same : k + 1 - 1 ≡ k = omega arith in same))

    marks_in_turn : (of_all_units.are_in_turn ≡ true) × AreInTurn mark_key of_all_units.last_mark all.world.marks × (before.last_mark ≡ of_all_units.last_mark + length all.world.marks)
    marks_in_turn = marks_told all.world.marks of_all_units typed.marks (was_in_turn all.world.instances before typed.instances fit.in_turn)

    units_in_turn : AreInTurn unit_key 0 all.world.units
    units_in_turn = (units_told all.world.units none_noted typed.units marks_in_turn.0).1

    count_marks : length all.world.marks ≡ length books
    count_marks =
        let marked : after.last_mark ≡ length counts = fit.marked in
        let all_marks = marks_in_turn.2 in
        omega (arith, marked, all_marks, no_mark, last_mark, tested.all)

    -- if there are as many rows as workunits, and each is at the key of a row of its workunit, they are these rows
    rows_listed : (f : ℕ → UnitBook → StoredRow) (key : ℕ → RowKey) (rows : List StoredRow) → length rows ≡ length books
        → ((i : ℕ) (r : StoredRow) → slice_get rows i ≡ Some r → look_up db.trees (key (i + 1)) ≡ Some (columns_of r))
        → ((i n : ℕ) (b : UnitBook) → PassesAt db.trees d (i + 1) n b → look_up db.trees (key (i + 1)) ≡ Some (columns_of (f (i + 1) b)))
        → rows ≡ map_from 1 f books
    rows_listed f key rows few found here = same_each rows (map_from 1 f books) (few ∙ sym (length-map_from f 1 books)) one
      where
        one : (i : ℕ) (r s : StoredRow) → slice_get rows i ≡ Some r → slice_get (map_from 1 f books) i ≡ Some s → r ≡ s
        one i r s is other =
            let within = slice_get_within rows i r is in
            let b = stands_within books i (omega (arith, within, few)) in
            let at = stands i b.0 b.1 in
            let row : r ≡ f (i + 1) b.0 = columns_told r (f (i + 1) b.0) (one_row _ _ _ (found i r is) (here i at.0 b.0 at.2)) in
            let written : Some (f (i + 1) b.0) ≡ Some s = sym (ap (option_map (f (i + 1))) b.1) ∙ sym (slice_get-map_from f 1 books i) ∙ other in
            row ∙ ap (λ o. unwrap_or o s) written

    unit_found : (i : ℕ) (r : StoredRow) → slice_get all.world.units i ≡ Some r → look_up db.trees (unit_key (i + 1)) ≡ Some (columns_of r)
    unit_found i r is =
        let u = is_unit_row r (all-slice_get (λ q. table_of q ≡ name.Unit) all.world.units i r is typed.units) in
        let has : Has all.world.units (stored.Unit u.0) = subst (Has all.world.units) u.1 (has_got all.world.units i r is) in
        found_at r u.1 (unit_key (i + 1)) (units_in_turn i r is ∙ ap unit_key (let same : i + 0 + 1 ≡ i + 1 = omega arith in same))
        (found_at_key db known (stored.Unit u.0) all.world.units read.world.units has)

    mark_found : (i : ℕ) (r : StoredRow) → slice_get all.world.marks i ≡ Some r → look_up db.trees (mark_key (i + 1)) ≡ Some (columns_of r)
    mark_found i r is =
        let m = is_mark_row r (all-slice_get (λ q. table_of q ≡ name.UnitMark) all.world.marks i r is typed.marks) in
        let has : Has all.world.marks (stored.UnitMark m.0) = subst (Has all.world.marks) m.1 (has_got all.world.marks i r is) in
        found_at r m.1 (mark_key (i + 1)) (marks_in_turn.1 i r is ∙ ap mark_key (let same : i + of_all_units.last_mark + 1 ≡ i + 1 = omega (arith, no_mark) in same))
        (found_at_key db known (stored.UnitMark m.0) all.world.marks read.world.marks has)

    units_listed : all.world.units ≡ filter_map (row_in w) (numbered table.Unit (length books))
    units_listed = rows_listed (of_unit w) unit_key all.world.units (omega (arith, count_units, tested.all)) unit_found (λ i n b at. at.found.unit_at) ∙ sym (unit_rows w)

    marks_listed : all.world.marks ≡ filter_map (row_in w) (numbered table.Mark (length books))
    marks_listed = rows_listed of_mark mark_key all.world.marks count_marks mark_found (λ i n b at. at.found.mark_at) ∙ sym (mark_rows w)

    -- an instance that was read is one of the world's
    of_row : (i : StoredInstance) → Has all.world.instances (stored.Instance i) → Has (own_rows w) (stored.Instance i)
    of_row i there =
        let told = in_turn_told all.world.instances before typed.instances fit.in_turn i there in
        let reached : next_number i.num ≤ get_or counts (i.unit_id - 1) 0 = told.1 in
        let within = numbered_within before.counts i.unit_id told.0 in
        let same : length counts ≡ length before.counts = same_count all.world.instances before typed.instances in
        let index = i.unit_id - 1 in
        let inside : i.unit_id - 1 < length books = omega (arith, within.0, within.1, same, tested.all) in
        let b = stands_within books index inside in
        let at = stands index b.0 b.1 in
        let few : length b.0.instances ≡ at.0 = instances_counted index b.0 at.0 at.2 in
        let most : length b.0.instances ≤ most_instances = at.2.sound.well.few in
        let count : get_or counts (i.unit_id - 1) 0 ≡ at.0 = get_or_from_slice_get counts index at.0 0 at.1 in
        let below : i.num < length b.0.instances = omega (arith, reached, count, few, most) in
        let x = stands_within b.0.instances i.num below in
        let found = found_at_key db known (stored.Instance i) all.world.instances read.world.instances there in
        let unit : i.unit_id ≡ i.unit_id - 1 + 1 = omega (arith, within.0) in
        let row : i ≡ instance_row d b.0 (index + 1) i.num x.0 =
        one_instance i (instance_row d b.0 (index + 1) i.num x.0) (one_row _ _ _ (subst (λ n. look_up db.trees (instance_key n i.num) ≡ Some (columns_of (stored.Instance i))) unit found) (instance_at index i.num at.0 b.0 x.0 at.2 x.1)) in
        subst (λ (j : StoredInstance). Has (own_rows w) (stored.Instance j)) (sym row) (own_listed w index i.num b.0 x.0 b.1 x.1)

    listed : (r : StoredRow) → Has all.world.instances r → Has (own_rows w) r
    listed r has =
        let x = is_instance_row r (all_has (λ q. table_of q ≡ name.Instance) all.world.instances r typed.instances has) in
        subst (Has (own_rows w)) (sym x.1) (of_row x.0 (subst (Has all.world.instances) x.1 has))

    -- and each of the world's instances was read
    among : (r : StoredRow) → Has (own_rows w) r → Has all.world.instances r
    among r own =
        let p = listed_own w r own in
        let at = stands p.1.index p.1.book p.1.book_is in
        let number = p.0.number in
        let found = instance_at p.1.index number at.0 p.1.book p.1.instance at.2 p.1.instance_is in
        let s = held_row db.trees name.Instance all.world.instances read.world.instances instances_of_table (instance_key (p.1.index + 1) number) refl _ found in
        let x = is_instance_row s.0 (all_has (λ q. table_of q ≡ name.Instance) all.world.instances s.0 typed.instances s.1) in
        let same : instance_row d p.1.book (p.1.index + 1) number p.1.instance ≡ x.0 = one_instance _ x.0 (s.2 ∙ ap columns_of x.1) in
        subst (Has all.world.instances) (x.1 ∙ ap stored.Instance (sym same) ∙ sym p.1.row_is) s.1

    books_sound : All (IsSoundUnit d.hosts d.apps) books
    books_sound k e within =
        let b = stands_within books k within in
        subst (IsSoundUnit d.hosts d.apps) (sym (get_or_from_slice_get books k b.0 e b.1)) (stands k b.0 b.1).2.sound

    sound : Sound w
    sound =
        let bound : length counts ≤ 200000 = fit.few in
        let few : length books ≤ 200000 = omega (arith, bound, tested.all) in
        let rows = fit.sound.rows in
        record {
          rows = record {
            settings = rows.settings;
            accounts = rows.accounts;
            apps = rows.apps;
            versions = rows.versions;
            hosts = rows.hosts;
            account_names = rows.account_names;
            app_names = rows.app_names;
            version_names = rows.version_names;
            unit_names = tested.names;
            host_keys = rows.host_keys;
            account_count = rows.account_count;
            app_count = rows.app_count;
            version_count = rows.version_count;
            unit_count = few;
            host_count = rows.host_count;
          };
          units = books_sound;
        }

    pub stand_for : Represent w all
    stand_for = record {
      sound = sound;
      rows = record {
        settings = beside.settings;
        accounts = beside.accounts ∙ same_rows (other_row w) (row_in w) (keyed table.Account) (λ id. refl) (range_with_len 1 (length d.accounts));
        apps = beside.apps ∙ same_rows (other_row w) (row_in w) (keyed table.App) (λ id. refl) (range_with_len 1 (length d.apps));
        versions = beside.versions ∙ same_rows (other_row w) (row_in w) (keyed table.Version) (λ id. refl) (range_with_len 1 (length d.versions));
        classes = beside.classes ∙ same_rows (other_row w) (row_in w) (keyed table.Class) (λ id. refl) (range_with_len 1 (length d.versions));
        units = units_listed;
        marks = marks_listed;
        hosts = beside.hosts ∙ same_rows (other_row w) (row_in w) (keyed table.Host) (λ id. refl) (range_with_len 1 (length d.hosts));
        instances = (listed, among);
      };
      calls = sym (calls_tested w all) ∙ fit.calls;
      batches = fit.imports;
    }

  -- ---- if the rows are those of a sound world

  module _ (stand : Represent w all) where
    holds : HoldWorld db w (calls_in db.trees) (batches_in db.trees)
    holds = held_by_rows db w all known read stand

    units_are : all.world.units ≡ map_from 1 (of_unit w) books
    units_are = stand.rows.units ∙ unit_rows w

    marks_are : all.world.marks ≡ map_from 1 of_mark books
    marks_are = stand.rows.marks ∙ mark_rows w

    count_books : length counts ≡ length books
    count_books = count_units ∙ ap length units_are ∙ length-map_from (of_unit w) 1 books

    rows_turn : (f : ℕ → UnitBook → StoredRow) (key : ℕ → RowKey) (rows : List StoredRow) → rows ≡ map_from 1 f books
        → ((n : ℕ) (b : UnitBook) → row_key_of (f n b) ≡ key n) → AreInTurn key 0 rows
    rows_turn f key rows are of_key i r is =
        let few : length rows ≡ length books = ap length are ∙ length-map_from f 1 books in
        let within = slice_get_within rows i r is in
        let b = stands_within books i (omega (arith, within, few)) in
        let row : Some r ≡ Some (f (i + 1) b.0) = sym is ∙ written_at f rows books i are ∙ ap (option_map (f (i + 1))) b.1 in
        ap (λ o. row_key_of (unwrap_or o r)) row ∙ of_key (i + 1) b.0 ∙ ap key (let same : i + 1 ≡ i + 0 + 1 = omega arith in same)

    marks_turn : (before.are_in_turn ≡ true) × (before.last_mark ≡ of_all_units.last_mark + length all.world.marks)
    marks_turn =
        let units = rows_turn (of_unit w) unit_key all.world.units units_are (λ n b. refl) in
        let marks = rows_turn of_mark mark_key all.world.marks marks_are (λ n b. refl) in
        marks_turned all.world.marks of_all_units typed.marks (units_turned all.world.units none_noted typed.units refl units)
        (subst (λ n. AreInTurn mark_key n all.world.marks) (sym no_mark) marks)

    marked : after.last_mark ≡ length counts
    marked =
        let marks = marks_turn.1 in
        let few : length all.world.marks ≡ length books = ap length marks_are ∙ length-map_from of_mark 1 books in
        omega (arith, marks, few, no_mark, last_mark, count_books)

    -- the instance that a row is of
    abbrev IsOf : StoredInstance → Type 0
    IsOf i = (index : ℕ) × (b : UnitBook) × (slice_get books index ≡ Some b) × (i.unit_id ≡ index + 1) × (i.num < length b.instances)

    instance_of : (i : StoredInstance) → Has all.world.instances (stored.Instance i) → IsOf i
    instance_of i has =
        let p = listed_own w (stored.Instance i) (stand.rows.instances.0 (stored.Instance i) has) in
        let row = instance_in_row i (instance_row w p.1.book (p.1.index + 1) p.0.number p.1.instance) p.1.row_is in
        let number : i.num ≡ p.0.number = ap (λ (x : StoredInstance). x.num) row in
        let within = slice_get_within p.1.book.instances p.0.number p.1.instance p.1.instance_is in
        (p.1.index, p.1.book, p.1.book_is, ap (λ (x : StoredInstance). x.unit_id) row, omega (arith, number, within))

    abbrev most : ℕ → ℕ
    most j = unwrap_or (option_map (λ (b : UnitBook). length b.instances) (slice_get books j)) 0

    of_units : AreOfUnits before.counts all.world.instances
    of_units i has =
        let x = instance_of i has in
        let within = slice_get_within books x.0 x.1 x.2 in
        let same : length counts ≡ length before.counts = same_count all.world.instances before typed.instances in
        numbered_is before.counts i.unit_id (omega (arith, x.3)) (omega (arith, x.3, within, same, count_books))

    counted : (after.are_in_turn ≡ true) × ((j : ℕ) → get_or counts j 0 ≤ most j)
    counted =
        of_units_counted all.world.instances before most typed.instances of_units marks_turn.0
        (λ j.
        let none = units_without all.world.units none_noted typed.units (λ k. refl) j in
        let marks : get_or before.counts j 0 ≡ get_or of_all_units.counts j 0 = ap (λ cs. get_or cs j 0) (marks_count all.world.marks of_all_units typed.marks) in
        omega (arith, marks, none))
        (λ i has.
        let x = instance_of i has in
        let index : i.unit_id - 1 ≡ x.0 = omega (arith, x.3) in
        let count : most (i.unit_id - 1) ≡ length x.1.instances = ap (λ j. most j) index ∙ ap (λ o. unwrap_or (option_map (λ (b : UnitBook). length b.instances) o) 0) x.2 in
        let within = x.4 in
        omega (arith, count, within))

    -- each workunit has as many instances as were counted
    at_least : (i : ℕ) (b : UnitBook) → slice_get books i ≡ Some b → (m : ℕ) → length b.instances ≡ m → length b.instances ≤ get_or counts i 0
    at_least i b is zero none = omega (arith, none)
    at_least i b is (suc k) some =
        let x = stands_within b.instances k (omega (arith, some)) in
        let few : length b.instances ≤ most_instances = (all_got (IsSoundUnit d.hosts d.apps) books i b is stand.sound.units).well.few in
        let has = stand.rows.instances.1 (stored.Instance (instance_row w b (i + 1) k x.0)) (own_listed w i k b x.0 is x.1) in
        let told = (in_turn_told all.world.instances before typed.instances counted.0 (instance_row w b (i + 1) k x.0) has).1 in
        let index : i + 1 - 1 ≡ i = omega arith in
        let reached : next_number k ≤ get_or counts i 0 = subst (λ j. next_number k ≤ get_or counts j 0) index told in
        omega (arith, reached, some, few)

    instances_count : (i n : ℕ) (b : UnitBook) → slice_get counts i ≡ Some n → slice_get books i ≡ Some b → length b.instances ≡ n
    instances_count i n b count is =
        let at : get_or counts i 0 ≡ n = get_or_from_slice_get counts i n 0 count in
        let above : get_or counts i 0 ≤ most i = counted.1 i in
        let bound : most i ≡ length b.instances = ap (λ o. unwrap_or (option_map (λ (c : UnitBook). length c.instances) o) 0) is in
        let below : length b.instances ≤ get_or counts i 0 = at_least i b is (length b.instances) refl in
        omega (arith, at, above, bound, below)

    instance_found : (i k : ℕ) (b : UnitBook) (r : StoredInstance) → slice_get books i ≡ Some b → slice_get (rows_of_unit d (i + 1) b).instances k ≡ Some r → look_up db.trees (instance_key (i + 1) k) ≡ Some (columns_of (stored.Instance r))
    instance_found i k b r is row =
        let few = length-map_from (λ m x. instance_row d b (i + 1) (m - 1) x) 1 b.instances in
        let within = slice_get_within (rows_of_unit d (i + 1) b).instances k r row in
        let x = stands_within b.instances k (omega (arith, few, within)) in
        let written : Some r ≡ Some (instance_row d b (i + 1) k x.0) =
        sym row ∙ slice_get-map_from (λ m y. instance_row d b (i + 1) (m - 1) y) 1 b.instances k
        ∙ ap (option_map (λ (y : Job). instance_row d b (i + 1) (k + 1 - 1) y)) x.1
        ∙ ap (λ m. Some (instance_row d b (i + 1) m x.0)) (let same : k + 1 - 1 ≡ k = omega arith in same) in
        holds.rows (instance_key (i + 1) k)
        ∙ ap (λ o. option_map columns_of (option_and_then (λ (c : UnitBook). option_map (λ (y : Job). stored.Instance (instance_row w c (i + 1) k y)) (slice_get c.instances k)) o)) (nth_next books i ∙ is)
        ∙ ap (λ o. option_map columns_of (option_map (λ (y : Job). stored.Instance (instance_row w b (i + 1) k y)) o)) x.1
        ∙ ap (λ o. option_map (λ (q : StoredInstance). columns_of (stored.Instance q)) o) (sym written)

    pub tested_all : AreTested db.trees d counts (length counts) books
    tested_all = record {
      all = sym count_books;
      each = λ i n b count is. record {
        sound = all_got (IsSoundUnit d.hosts d.apps) books i b is stand.sound.units;
        found = record {
          unit_at = holds.rows (unit_key (i + 1)) ∙ ap (λ o. option_map columns_of (option_map (λ (c : UnitBook). stored.Unit (unit_row w (i + 1) c)) o)) (nth_next books i ∙ is);
          mark_at = holds.rows (mark_key (i + 1)) ∙ ap (λ o. option_map columns_of (option_map (λ (c : UnitBook). stored.UnitMark (mark_row (i + 1) c)) o)) (nth_next books i ∙ is);
          instances_at = record {
            count = length-map_from (λ k x. instance_row d b (i + 1) (k - 1) x) 1 b.instances ∙ instances_count i n b count is;
            at = λ k r row. instance_found i k b r is row;
          };
        };
      };
      names = stand.sound.rows.unit_names;
    }

    pub rows_are : AreOtherRows w (other_rows all.world)
    rows_are = record {
      settings = stand.rows.settings;
      accounts = stand.rows.accounts ∙ sym (same_rows (other_row w) (row_in w) (keyed table.Account) (λ id. refl) (range_with_len 1 (length d.accounts)));
      apps = stand.rows.apps ∙ sym (same_rows (other_row w) (row_in w) (keyed table.App) (λ id. refl) (range_with_len 1 (length d.apps)));
      versions = stand.rows.versions ∙ sym (same_rows (other_row w) (row_in w) (keyed table.Version) (λ id. refl) (range_with_len 1 (length d.versions)));
      classes = stand.rows.classes ∙ sym (same_rows (other_row w) (row_in w) (keyed table.Class) (λ id. refl) (range_with_len 1 (length d.versions)));
      hosts = stand.rows.hosts ∙ sym (same_rows (other_row w) (row_in w) (keyed table.Host) (λ id. refl) (range_with_len 1 (length d.hosts)));
    }

    sound_without : d.units ≡ [] → Sound d
    sound_without none =
        let rows = stand.sound.rows in
        let empty : length d.units ≡ 0 = ap length none in
        record {
          rows = record {
            settings = rows.settings;
            accounts = rows.accounts;
            apps = rows.apps;
            versions = rows.versions;
            hosts = rows.hosts;
            account_names = rows.account_names;
            app_names = rows.app_names;
            version_names = rows.version_names;
            unit_names = λ i j e lt within. absurd (omega (arith, within, empty));
            host_keys = rows.host_keys;
            account_count = rows.account_count;
            app_count = rows.app_count;
            version_count = rows.version_count;
            unit_count = omega (arith, empty);
            host_count = rows.host_count;
          };
          units = λ k e within. absurd (omega (arith, within, empty));
        }

    pub is_fit : d.units ≡ [] → IsFit d (reading_of all)
    is_fit none = record {
      sound = sound_without none;
      in_turn = counted.0;
      few = let few : length books ≤ 200000 = stand.sound.rows.unit_count in omega (arith, few, count_books);
      marked = marked;
      calls = calls_tested w all ∙ stand.calls;
      imports = stand.batches;
    }

-- ---- the same for a reading, which keeps less than the rows

module _ (db : Database) (known : AreKnown db) (all : AllRows) (read : AreAllRead db.trees all) (typed : AreTyped all) (r : Reading) (is : r ≡ reading_of all) (d : World) (books : List UnitBook) where
  pub stand_read : IsFit d r → AreTested db.trees d r.units.counts (length r.units.counts) books → AreOtherRows (having d books) r.rows → Represent (having d books) all
  stand_read =
      subst (λ (q : Reading). IsFit d q → AreTested db.trees d q.units.counts (length q.units.counts) books → AreOtherRows (having d books) q.rows → Represent (having d books) all) (sym is)
      (stand_for db known all read typed d books)

  module _ (stand : Represent (having d books) all) where
    pub fit_read : d.units ≡ [] → IsFit d r
    fit_read none = subst (IsFit d) (sym is) (is_fit db known all read typed d books stand none)

    pub tested_read : AreTested db.trees d r.units.counts (length r.units.counts) books
    tested_read = subst (λ (q : Reading). AreTested db.trees d q.units.counts (length q.units.counts) books) (sym is) (tested_all db known all read typed d books stand)

    pub beside_read : AreOtherRows (having d books) r.rows
    beside_read = subst (λ (q : Reading). AreOtherRows (having d books) q.rows) (sym is) (rows_are db known all read typed d books stand)
