-- Workunits at their keys: there is at most one list of them, and each is tested after those before it.
use Rattle.std.proofs.Common.{◌≡◌, ◌≢◌, ◌<◌, ◌⊎◌, ℕ, zero, suc, ◌+◌, ◌-◌, Bool, true, false, ◌||◌, List, [], ◌∷◌, ◌++◌, map, length, get_or, Option, Some, Ok, Err, OnOk, refl, sym, ap, subst, ◌∙◌, arith, inl, inr, true≢false}
use Rattle.std.specs.List.{list_any}
use Rattle.std.specs.declared.result.Result.{Result}
use Rattle.std.specs.Prelude.{slice_get, unwrap_or, replicate}
use Rattle.std.specs.Str.{bytes_eq}
use Rattle.std.proofs.lemmas.List.{append_assoc, append-nil, length_push}
use Rattle.std.proofs.lemmas.List.Folds.{list_any-append, list_any_at, Any-from_list_any}
use Rattle.std.proofs.lemmas.List.Quantifiers.{all_pairs_push}
use Rattle.std.proofs.lemmas.Option.{none-some, slice_get_within, get_or_from_slice_get}
use Rattle.std.proofs.lemmas.Slice.Eq.{bytes_eq-Decides}
use Rattle.sqlite_trees.specs.Tree.{Trees}
use Rattle.sqlite_value.specs.Order.{Row}
use Rattle.sched_book.specs.Numbered.{map_from}
use Rattle.sched_book.specs.Sound.{IsSoundUnit}
use Rattle.sched_book.specs.declared.instance.Instance.{Instance as Job}
use Rattle.sched_book.specs.declared.instance.UnitBook.{UnitBook}
use Rattle.sched_book.specs.declared.rows.App.{App}
use Rattle.sched_book.specs.declared.world.World.{World}
use Rattle.table_meaning.specs.declared.rows.StoredInstance.{StoredInstance}
use Rattle.table_meaning.specs.declared.rows.StoredRow.TheVariants as stored
use Rattle.table_meaning.specs.Rows.{columns_of, instance_key, look_up}
use Rattle.table_meaning.specs.Worlds.{instance_row}
use Rattle.table_meaning.proofs.ByComputing.{or_false}
use Rattle.table_worlds.specs.ReadBack.{unit_in, job_in}
use Rattle.table_worlds.specs.RowsOf.{having, rows_of_unit}
use Rattle.table_worlds.specs.Totals.{with_unit, with_units, totals_of}
use Rattle.table_worlds.specs.declared.totals.Total.{Total}
use Rattle.table_worlds.specs.declared.unit_rows.UnitRows.{UnitRows}
use Rattle.table_worlds.proofs.ColumnsBack.{one_unit, one_mark, one_instance}
use Rattle.table_worlds.proofs.ReadBack.{unit_back, job_back}
use Rattle.table_worlds.proofs.TotalsCounted.{unit_more, no_unit_left, all_counted}
use Rattle.table_reading.specs.Testing.{AreInstancesFound, AreFound, HasGap, PassesAt, AreTested, has_name}
use Rattle.texts.specs.declared.seen_set.SeenSet.{SeenSet}
use Rattle.sqlite.proofs.StateLemmas.{is_cached as stands_within}

-- ---- lists by index

pub same_each : {X : Type 0} (xs ys : List X) → length xs ≡ length ys → ((k : ℕ) (x y : X) → slice_get xs k ≡ Some x → slice_get ys k ≡ Some y → x ≡ y) → xs ≡ ys
same_each [] [] few each = refl
same_each [] (y ∷ ys) few each = absurd (omega (arith, few))
same_each (x ∷ xs) [] few each = absurd (omega (arith, few))
same_each (x ∷ xs) (y ∷ ys) few each =
    let first = each 0 x y refl refl in
    let rest = same_each xs ys (omega (arith, few)) (λ k. each (suc k)) in
    λ i. first i ∷ rest i

got_more : {X : Type 0} (xs : List X) (x : X) (j : ℕ) (y : X) → slice_get (xs ++ x ∷ []) j ≡ Some y → (slice_get xs j ≡ Some y) ⊎ ((j ≡ length xs) × (x ≡ y))
got_more [] x zero y is = inr (refl, ap (λ o. unwrap_or o x) is)
got_more [] x (suc j) y is = absurd (none-some y is)
got_more (z ∷ xs) x zero y is = inl is
got_more (z ∷ xs) x (suc j) y is = elim (got_more xs x j y is) [ inl before ↦ inl before | inr last ↦ inr (ap suc last.0, last.1) ]

pub one_row : (r s : Row) (o : Option Row) → o ≡ Some r → o ≡ Some s → r ≡ s
one_row r s o first other = ap (λ p. unwrap_or p r) (sym first ∙ other)

-- ---- instances at their keys

pub found_more : (trees : Trees) (id n : ℕ) (rows : List StoredInstance) (row : StoredInstance) → AreInstancesFound trees id n rows → look_up trees (instance_key id n) ≡ Some (columns_of (stored.Instance row)) → AreInstancesFound trees id (n + 1) (rows ++ row ∷ [])
found_more trees id n rows row found here = record {
  count = length_push rows row ∙ ap (λ m. m + 1) found.count;
  at = λ k i is. elim (got_more rows row k i is) [
    | inl before ↦ found.at k i before
    | inr last ↦
        let at : n ≡ k = sym found.count ∙ sym last.0 in
        subst (λ m. look_up trees (instance_key id m) ≡ Some (columns_of (stored.Instance i))) at (subst (λ (x : StoredInstance). look_up trees (instance_key id n) ≡ Some (columns_of (stored.Instance x))) last.1 here)
  ];
}

-- ---- one workunit at its key

module _ (trees : Trees) (id n : ℕ) where
  -- rows at the same keys are the same
  pub one_found : (rows others : UnitRows) → AreFound trees id n rows → AreFound trees id n others → rows ≡ others
  one_found rows others found also =
      let unit = one_unit rows.unit others.unit (one_row _ _ _ found.unit_at also.unit_at) in
      let instances = same_each rows.instances others.instances (found.instances_at.count ∙ sym also.instances_at.count)
      (λ k x y here there. one_instance x y (one_row _ _ _ (found.instances_at.at k x here) (also.instances_at.at k y there))) in
      let mark = one_mark rows.mark others.mark (one_row _ _ _ found.mark_at also.mark_at) in
      λ i. record { unit = unit i; mark = mark i; instances = instances i }

  module _ (w : World) (b : UnitBook) (stands : PassesAt trees w id n b) where
    -- so each of its keys has a row
    pub has_no_gap : HasGap trees id n → ⊥
    has_no_gap (inl (inl none)) = none-some _ (sym none ∙ stands.found.unit_at)
    has_no_gap (inl (inr none)) = none-some _ (sym none ∙ stands.found.mark_at)
    has_no_gap (inr gap) =
        let found = stands.found.instances_at in
        let count : length (rows_of_unit w id b).instances ≡ n = found.count in
        let row = stands_within (rows_of_unit w id b).instances gap.0 (omega (arith, gap.1, count)) in
        none-some _ (sym gap.2 ∙ found.at gap.0 row.0 row.1)

-- a workunit is read back from its rows
jobs_back : (w : World) (b : UnitBook) (id m : ℕ) (xs : List Job) → map (λ (i : StoredInstance). job_in (columns_of (stored.Instance i))) (map_from m (λ n x. instance_row w b id (n - 1) x) xs) ≡ xs
jobs_back w b id m [] = refl
jobs_back w b id m (x ∷ xs) =
    let first = job_back w b id (m - 1) x in
    let rest = jobs_back w b id (m + 1) xs in
    λ i. first i ∷ rest i

book_back : (w : World) (id : ℕ) (b : UnitBook) → IsSoundUnit w.hosts w.apps b → (rows : UnitRows) → rows ≡ rows_of_unit w id b
    → record { unit = unit_in w.apps (columns_of (stored.Unit rows.unit)) (columns_of (stored.UnitMark rows.mark)); instances = map (λ (i : StoredInstance). job_in (columns_of (stored.Instance i))) rows.instances } ≡ b
book_back w id b sound rows are =
    let unit = ap (λ (r : UnitRows). unit_in w.apps (columns_of (stored.Unit r.unit)) (columns_of (stored.UnitMark r.mark))) are ∙ unit_back w.apps w refl id b sound.well.app in
    let instances = ap (λ (r : UnitRows). map (λ (i : StoredInstance). job_in (columns_of (stored.Instance i))) r.instances) are ∙ jobs_back w b id 1 b.instances in
    λ i. record { unit = unit i; instances = instances i }

pub one_standing : (trees : Trees) (w : World) (id n : ℕ) (b c : UnitBook) → PassesAt trees w id n b → PassesAt trees w id n c → b ≡ c
one_standing trees w id n b c stands also =
    let rows = rows_of_unit w id b in
    sym (book_back w id b stands.sound rows refl) ∙ book_back w id c also.sound rows (one_found trees id n rows (rows_of_unit w id c) stands.found also.found)

-- ---- workunits in turn

-- the names that were seen are those of the workunits
abbrev pub AreNames : SeenSet (List ℕ) → List UnitBook → Type 0
AreNames names books = (name : List ℕ) → has_name names name ≡ list_any (λ (b : UnitBook). bytes_eq name b.unit.name) books

-- what was counted of hosts, and then the other workunits, is all
abbrev pub AreCounted : List App → List Total → List UnitBook → List Total → Type 0
AreCounted apps before books now = (more : List UnitBook) → map_from 1 (with_units apps more) now ≡ map_from 1 (with_units apps (books ++ more)) before

or_turned : (a b : Bool) → (a || b) ≡ (b || a)
or_turned true true = refl
or_turned true false = refl
or_turned false true = refl
or_turned false false = refl

pub names_more : (names next : SeenSet (List ℕ)) (books : List UnitBook) (b : UnitBook) → AreNames names books → ((other : List ℕ) → has_name next other ≡ (bytes_eq other b.unit.name || has_name names other)) → AreNames next (books ++ b ∷ [])
names_more names next books b are seen name =
    seen name
    ∙ ap (λ (s : Bool). bytes_eq name b.unit.name || s) (are name)
    ∙ or_turned (bytes_eq name b.unit.name) (list_any (λ (a : UnitBook). bytes_eq name a.unit.name) books)
    ∙ ap (λ (s : Bool). list_any (λ (a : UnitBook). bytes_eq name a.unit.name) books || s) (sym (or_false (bytes_eq name b.unit.name)))
    ∙ sym (list_any-append (λ (a : UnitBook). bytes_eq name a.unit.name) books (b ∷ []))

pub counted_more : (apps : List App) (before now next : List Total) (books : List UnitBook) (b : UnitBook) → AreCounted apps before books now → next ≡ map_from 1 (with_unit apps b) now → AreCounted apps before (books ++ b ∷ []) next
counted_more apps before now next books b are made more =
    unit_more apps b more now next made ∙ are (b ∷ more) ∙ ap (λ (bs : List UnitBook). map_from 1 (with_units apps bs) before) (sym (append_assoc books (b ∷ []) more))

pub counted_all : (apps : List App) (before now : List Total) (books : List UnitBook) → AreCounted apps before books now → now ≡ map_from 1 (with_units apps books) before
counted_all apps before now books are = sym (no_unit_left apps now) ∙ are [] ∙ ap (λ (bs : List UnitBook). map_from 1 (with_units apps bs) before) (append-nil books)

-- counted from zero over all workunits, the totals are those of the world with them
pub counted_from : (w : World) (books : List UnitBook) (n : ℕ) (before after : List Total) → n ≡ length w.hosts → before ≡ replicate n (record { held = 0; credit = 0 })
    → after ≡ map_from 1 (with_units w.apps books) before → after ≡ totals_of (having w books)
counted_from w books n before after count none made =
    made ∙ ap (map_from 1 (with_units w.apps books)) (none ∙ ap (λ m. replicate m (record { held = 0; credit = 0 })) count) ∙ all_counted (having w books)

module _ (trees : Trees) (w : World) (counts : List ℕ) where
  -- one more, whose name no workunit before it has
  pub tested_more : (i n : ℕ) (books : List UnitBook) (b : UnitBook) (names : SeenSet (List ℕ)) → AreTested trees w counts i books → slice_get counts i ≡ Some n → PassesAt trees w (i + 1) n b
      → AreNames names books → has_name names b.unit.name ≡ false → AreTested trees w counts (i + 1) (books ++ b ∷ [])
  tested_more i n books b names tested count stands are new = record {
    all = length_push books b ∙ ap (λ m. m + 1) tested.all;
    each = λ j m c counted is. elim (got_more books b j c is) [
      | inl before ↦ tested.each j m c counted before
      | inr last ↦
          let at : j ≡ i = last.0 ∙ tested.all in
          let same : n ≡ m = ap (λ o. unwrap_or o n) (sym count ∙ ap (slice_get counts) (sym at) ∙ counted) in
          subst (λ k. PassesAt trees w (k + 1) m c) (sym at) (subst (λ k. PassesAt trees w (i + 1) k c) same (subst (λ (a : UnitBook). PassesAt trees w (i + 1) n a) last.1 stands))
    ];
    names = all_pairs_push (λ (a c : UnitBook). a.unit.name ≢ c.unit.name) books b tested.names
        (λ k d lt same. true≢false (sym (list_any_at (λ (a : UnitBook). bytes_eq b.unit.name a.unit.name) books k d lt ((bytes_eq-Decides b.unit.name (get_or books k d).unit.name).1 (sym same))) ∙ sym (are b.unit.name) ∙ new));
  }

  module _ (others : List UnitBook) (stand : AreTested trees w counts (length counts) others) where
    -- the workunit at an index passes
    pub stands_next : (i n : ℕ) → slice_get counts i ≡ Some n → (b : UnitBook) × (slice_get others i ≡ Some b) × PassesAt trees w (i + 1) n b
    stands_next i n count =
        let within = slice_get_within counts i n count in
        let b = stands_within others i (omega (arith, within, stand.all)) in
        (b.0, b.1, stand.each i n b.0 count b.1)

    -- so its name was not seen among those before it
    pub name_is_new : (i n : ℕ) (books : List UnitBook) (b : UnitBook) (names : SeenSet (List ℕ)) → AreTested trees w counts i books → slice_get counts i ≡ Some n → slice_get others i ≡ Some b → AreNames names books
        → has_name names b.unit.name ≡ true → ⊥
    name_is_new i n books b names tested count is are came =
        let within = slice_get_within counts i n count in
        let found = Any-from_list_any (λ (a : UnitBook). bytes_eq b.unit.name a.unit.name) books (sym (are b.unit.name) ∙ came) in
        let j = found.0 in
        let a = found.1 in
        let before : j < i = omega (arith, found.2, tested.all) in
        let here : slice_get books j ≡ Some a = let at = stands_within books j found.2 in at.1 ∙ ap Some (sym (get_or_from_slice_get books j at.0 a at.1) ∙ found.3) in
        let other = stands_within others j (omega (arith, before, within, stand.all)) in
        let one = stands_within counts j (omega (arith, before, within)) in
        let same : a ≡ other.0 = one_standing trees w (j + 1) one.0 a other.0 (tested.each j one.0 a one.1 here) (stand.each j one.0 other.0 one.1 other.1) in
        let name : b.unit.name ≡ a.unit.name = (bytes_eq-Decides b.unit.name a.unit.name).0 found.4 in
        let first : get_or others j b ≡ other.0 = get_or_from_slice_get others j other.0 b other.1 in
        let later : get_or others i b ≡ b = get_or_from_slice_get others i b b is in
        stand.names j i b before (slice_get_within others i b is)
        (ap (λ (c : UnitBook). c.unit.name) first ∙ ap (λ (c : UnitBook). c.unit.name) (sym same) ∙ sym name ∙ ap (λ (c : UnitBook). c.unit.name) (sym later))

  -- there is one list of them
  pub one_list : (books others : List UnitBook) → AreTested trees w counts (length counts) books → AreTested trees w counts (length counts) others → books ≡ others
  one_list books others stand also =
      same_each books others (stand.all ∙ sym also.all)
      (λ k b c is there.
      let within = slice_get_within books k b is in
      let n = stands_within counts k (omega (arith, within, stand.all)) in
      one_standing trees w (k + 1) n.0 b c (stand.each k n.0 b n.1 is) (also.each k n.0 c n.1 there))

-- ---- several clauses of one call together

pub on_ok_each : {A E : Type 0} (r : Result A E) (P Q R S : Type 0) → (P → Q → R → S) → OnOk r P → OnOk r Q → OnOk r R → OnOk r S
on_ok_each (Ok x) P Q R S f p q s = f p q s
on_ok_each (Err e) P Q R S f p q s = tt
