-- What is noted of the rows of workunits, marks and instances says how many there are of each.
use Rattle.std.proofs.Common.{◌≡◌, ◌≢◌, ◌≤◌, ◌<◌, ◌⊎◌, ℕ, zero, suc, ◌+◌, ◌-◌, max, Bool, true, false, cond, not, ◌&&◌, ◌==◌, nat_le, List, [], ◌∷◌, ◌++◌, fold, length, get_or, Some, refl, sym, ap, subst, ◌∙◌, arith, inl, inr, true≢false}
use Rattle.std.specs.List.{AllByRecursion}
use Rattle.std.specs.Prelude.{slice_get}
use Rattle.std.proofs.lemmas.Bool.{and_parts, and_from, both_ways, cases_Bool}
use Rattle.std.proofs.lemmas.Bool.Decides.{Decides-eqb, nat_tests}
use Rattle.std.proofs.lemmas.List.{length-set, length_push, get_or-set_same, get_or-set_other}
use Rattle.std.proofs.lemmas.Option.{none-some}
use Rattle.sqlite_rules.specs.Lists.{Has}
use Rattle.table_meaning.specs.declared.rows.StoredInstance.{StoredInstance}
use Rattle.table_meaning.specs.declared.rows.StoredUnit.{StoredUnit}
use Rattle.table_meaning.specs.declared.rows.StoredUnitMark.{StoredUnitMark}
use Rattle.table_meaning.specs.declared.rows.StoredRow.{StoredRow}
use Rattle.table_meaning.specs.declared.rows.StoredRow.TheVariants as stored
use Rattle.table_meaning.specs.declared.tables.TableName.TheVariants as name
use Rattle.table_meaning.specs.Rows.{RowKey, table_of, row_key_of, unit_key, mark_key}
use Rattle.table_worlds.proofs.ColumnsBack.{is_unit_row, is_mark_row, is_instance_row}
use Rattle.table_reading.specs.Counting.{is_numbered, next_number, counted, noted}
use Rattle.table_reading.specs.declared.counts.UnitCounts.{UnitCounts}

-- ---- one more instance

one_place : (i j : ℕ) → (i ≡ j) ⊎ (i ≢ j)
one_place i j = elim (cases_Bool (i == j)) [
  | inl same ↦ inl ((Decides-eqb i j).0 same)
  | inr other ↦ inr (λ same. both_ways _ other ((Decides-eqb i j).1 same))
]

past_end : (xs : List ℕ) (j : ℕ) → length xs ≤ j → get_or xs j 0 ≡ 0
past_end [] j past = refl
past_end (x ∷ xs) zero past = absurd (omega (arith, past))
past_end (x ∷ xs) (suc j) past = past_end xs j (omega (arith, past))

-- what an instance adds to the count at an index
module _ (counts : List ℕ) (unit number : ℕ) where
  pub count_grows : (j : ℕ) → get_or counts j 0 ≤ get_or (counted counts unit number) j 0
  count_grows j = elim (one_place (unit - 1) j) [
    | inr other ↦ let same : get_or (counted counts unit number) j 0 ≡ get_or counts j 0 = get_or-set_other counts (unit - 1) j _ 0 (λ same. other (sym same)) in omega (arith, same)
    | inl here ↦ at_place j here
  ]
    where
      at_place : (j : ℕ) → unit - 1 ≡ j → get_or counts j 0 ≤ get_or (counted counts unit number) j 0
      at_place j here = elim (cases_Bool (nat_le (length counts) j)) [
        | inl past ↦ let none : get_or counts j 0 ≡ 0 = past_end counts j (grind (arith, nat_tests, past)) in omega (arith, none)
        | inr before ↦
            let within : unit - 1 < length counts = grind (arith, nat_tests, before, here) in
            let set = get_or-set_same counts (unit - 1) (max (get_or counts (unit - 1) 0) (next_number number)) 0 within in
            let set_j : get_or (counted counts unit number) j 0 ≡ max (get_or counts j 0) (next_number number) =
            subst (λ k. get_or (counted counts unit number) k 0 ≡ max (get_or counts k 0) (next_number number)) here set in
            omega (arith, set_j)
      ]

  pub count_reaches : is_numbered counts unit ≡ true → next_number number ≤ get_or (counted counts unit number) (unit - 1) 0
  count_reaches is =
      let within : unit - 1 < length counts = grind (arith, nat_tests, is) in
      let set = get_or-set_same counts (unit - 1) (max (get_or counts (unit - 1) 0) (next_number number)) 0 within in
      omega (arith, set)

  pub count_bounded : (most : ℕ → ℕ) → ((j : ℕ) → get_or counts j 0 ≤ most j) → next_number number ≤ most (unit - 1) → is_numbered counts unit ≡ true → (j : ℕ) → get_or (counted counts unit number) j 0 ≤ most j
  count_bounded most before bound is j = elim (one_place (unit - 1) j) [
    | inr other ↦
        let same : get_or (counted counts unit number) j 0 ≡ get_or counts j 0 = get_or-set_other counts (unit - 1) j _ 0 (λ same. other (sym same)) in
        let was = before j in
        omega (arith, same, was)
    | inl here ↦
        let within : unit - 1 < length counts = grind (arith, nat_tests, is) in
        let set = get_or-set_same counts (unit - 1) (max (get_or counts (unit - 1) 0) (next_number number)) 0 within in
        let was = before (unit - 1) in
        subst (λ k. get_or (counted counts unit number) k 0 ≤ most k) here (omega (arith, set, was, bound))
  ]

-- ---- instances

abbrev AreInstances : List StoredRow → Type 0
AreInstances rows = AllByRecursion (λ r. table_of r ≡ name.Instance) rows

-- each instance is of one of the counted workunits
abbrev pub AreOfUnits : List ℕ → List StoredRow → Type 0
AreOfUnits counts rows = (i : StoredInstance) → Has rows (stored.Instance i) → is_numbered counts i.unit_id ≡ true

same_numbers : (cs ds : List ℕ) → length cs ≡ length ds → (n : ℕ) → is_numbered cs n ≡ is_numbered ds n
same_numbers cs ds same n = ap (λ m. not (n == 0) && nat_le n m) same

one_noted : (c : UnitCounts) (i : StoredInstance) → is_numbered c.counts i.unit_id ≡ true → noted c (stored.Instance i) ≡ record c { counts = counted c.counts i.unit_id i.num }
one_noted c i is = ap (λ b. cond b (record c { counts = counted c.counts i.unit_id i.num }) (record c { are_in_turn = false })) is

none_of : (c : UnitCounts) (i : StoredInstance) → is_numbered c.counts i.unit_id ≡ false → noted c (stored.Instance i) ≡ record c { are_in_turn = false }
none_of c i is = ap (λ b. cond b (record c { counts = counted c.counts i.unit_id i.num }) (record c { are_in_turn = false })) is

-- once out of turn, always out of turn
stays_out : (rows : List StoredRow) (c : UnitCounts) → AreInstances rows → c.are_in_turn ≡ false → (fold noted c rows).are_in_turn ≡ false
stays_out [] c typed out = out
stays_out (r ∷ rows) c typed out =
    let i = is_instance_row r typed.0 in
    stays_out rows (noted c r) typed.1 (ap (λ s. (noted c s).are_in_turn) i.1 ∙ go (is_numbered c.counts i.0.unit_id) i.0 refl)
  where
    go : (b : Bool) (i : StoredInstance) → is_numbered c.counts i.unit_id ≡ b → (noted c (stored.Instance i)).are_in_turn ≡ false
    go true i is = ap (λ (d : UnitCounts). d.are_in_turn) (one_noted c i is) ∙ out
    go false i is = ap (λ (d : UnitCounts). d.are_in_turn) (none_of c i is)

-- the number of workunits is unchanged
pub same_count : (rows : List StoredRow) (c : UnitCounts) → AreInstances rows → length (fold noted c rows).counts ≡ length c.counts
same_count [] c typed = refl
same_count (r ∷ rows) c typed =
    let i = is_instance_row r typed.0 in
    same_count rows (noted c r) typed.1 ∙ ap (λ s. length (noted c s).counts) i.1 ∙ go (is_numbered c.counts i.0.unit_id) i.0 refl
  where
    go : (b : Bool) (i : StoredInstance) → is_numbered c.counts i.unit_id ≡ b → length (noted c (stored.Instance i)).counts ≡ length c.counts
    go true i is = ap (λ (d : UnitCounts). length d.counts) (one_noted c i is) ∙ length-set c.counts (i.unit_id - 1) _
    go false i is = ap (λ (d : UnitCounts). length d.counts) (none_of c i is)

grows : (rows : List StoredRow) (c : UnitCounts) → AreInstances rows → (j : ℕ) → get_or c.counts j 0 ≤ get_or (fold noted c rows).counts j 0
grows [] c typed j = omega arith
grows (r ∷ rows) c typed j =
    let i = is_instance_row r typed.0 in
    let first : get_or c.counts j 0 ≤ get_or (noted c r).counts j 0 = subst (λ s. get_or c.counts j 0 ≤ get_or (noted c s).counts j 0) (sym i.1) (go (is_numbered c.counts i.0.unit_id) i.0 refl) in
    let later = grows rows (noted c r) typed.1 j in
    omega (arith, first, later)
  where
    go : (b : Bool) (i : StoredInstance) → is_numbered c.counts i.unit_id ≡ b → get_or c.counts j 0 ≤ get_or (noted c (stored.Instance i)).counts j 0
    go true i is = subst (λ (d : UnitCounts). get_or c.counts j 0 ≤ get_or d.counts j 0) (sym (one_noted c i is)) (count_grows c.counts i.unit_id i.num j)
    go false i is = subst (λ (d : UnitCounts). get_or c.counts j 0 ≤ get_or d.counts j 0) (sym (none_of c i is)) (let same : get_or c.counts j 0 ≤ get_or c.counts j 0 = omega arith in same)

-- if all is in turn, each instance is of a workunit and is counted
pub in_turn_told : (rows : List StoredRow) (c : UnitCounts) → AreInstances rows → (fold noted c rows).are_in_turn ≡ true → (i : StoredInstance) → Has rows (stored.Instance i)
    → (is_numbered c.counts i.unit_id ≡ true) × (next_number i.num ≤ get_or (fold noted c rows).counts (i.unit_id - 1) 0)
in_turn_told [] c typed turn i has = absurd has
in_turn_told (r ∷ rows) c typed turn i (inl here) = go (is_numbered c.counts i.unit_id) refl
  where
    go : (b : Bool) → is_numbered c.counts i.unit_id ≡ b → (is_numbered c.counts i.unit_id ≡ true) × (next_number i.num ≤ get_or (fold noted (noted c r) rows).counts (i.unit_id - 1) 0)
    go true is =
        let now : next_number i.num ≤ get_or (noted c r).counts (i.unit_id - 1) 0 =
        subst (λ s. next_number i.num ≤ get_or (noted c s).counts (i.unit_id - 1) 0) here
        (subst (λ (d : UnitCounts). next_number i.num ≤ get_or d.counts (i.unit_id - 1) 0) (sym (one_noted c i is)) (count_reaches c.counts i.unit_id i.num is)) in
        let later = grows rows (noted c r) typed.1 (i.unit_id - 1) in
        (is, omega (arith, now, later))
    go false is =
        let out : (noted c r).are_in_turn ≡ false = ap (λ s. (noted c s).are_in_turn) (sym here) ∙ ap (λ (d : UnitCounts). d.are_in_turn) (none_of c i is) in
        absurd (true≢false (sym turn ∙ stays_out rows (noted c r) typed.1 out))
in_turn_told (r ∷ rows) c typed turn i (inr later) =
    let rest = in_turn_told rows (noted c r) typed.1 turn i later in
    (sym (same_numbers (noted c r).counts c.counts (same_count (r ∷ []) c (typed.0, tt)) i.unit_id) ∙ rest.0, rest.1)

-- all was in turn before them
pub was_in_turn : (rows : List StoredRow) (c : UnitCounts) → AreInstances rows → (fold noted c rows).are_in_turn ≡ true → c.are_in_turn ≡ true
was_in_turn rows c typed turn = go c.are_in_turn refl
  where
    go : (b : Bool) → c.are_in_turn ≡ b → c.are_in_turn ≡ true
    go true is = is
    go false is = absurd (true≢false (sym turn ∙ stays_out rows c typed is))

-- if each instance is of a workunit, all is in turn, and no count exceeds a bound of the numbers
pub of_units_counted : (rows : List StoredRow) (c : UnitCounts) (most : ℕ → ℕ) → AreInstances rows → AreOfUnits c.counts rows → c.are_in_turn ≡ true → ((j : ℕ) → get_or c.counts j 0 ≤ most j)
    → ((i : StoredInstance) → Has rows (stored.Instance i) → next_number i.num ≤ most (i.unit_id - 1)) → ((fold noted c rows).are_in_turn ≡ true) × ((j : ℕ) → get_or (fold noted c rows).counts j 0 ≤ most j)
of_units_counted [] c most typed of_units turn before bound = (turn, before)
of_units_counted (r ∷ rows) c most typed of_units turn before bound =
    let i = is_instance_row r typed.0 in
    let has : Has (r ∷ rows) (stored.Instance i.0) = inl (sym i.1) in
    let is = of_units i.0 has in
    let now : noted c r ≡ record c { counts = counted c.counts i.0.unit_id i.0.num } = ap (noted c) i.1 ∙ one_noted c i.0 is in
    of_units_counted rows (noted c r) most typed.1
    (λ k later. same_numbers (noted c r).counts c.counts (same_count (r ∷ []) c (typed.0, tt)) k.unit_id ∙ of_units k (inr later))
    (ap (λ (d : UnitCounts). d.are_in_turn) now ∙ turn)
    (λ j. subst (λ (d : UnitCounts). get_or d.counts j 0 ≤ most j) (sym now) (count_bounded c.counts i.0.unit_id i.0.num most before (bound i.0 has) is j))
    (λ k later. bound k (inr later))

-- the last mark is unchanged
pub same_mark : (rows : List StoredRow) (c : UnitCounts) → AreInstances rows → (fold noted c rows).last_mark ≡ c.last_mark
same_mark [] c typed = refl
same_mark (r ∷ rows) c typed =
    let i = is_instance_row r typed.0 in
    same_mark rows (noted c r) typed.1 ∙ ap (λ s. (noted c s).last_mark) i.1 ∙ go (is_numbered c.counts i.0.unit_id) i.0 refl
  where
    go : (b : Bool) (i : StoredInstance) → is_numbered c.counts i.unit_id ≡ b → (noted c (stored.Instance i)).last_mark ≡ c.last_mark
    go true i is = ap (λ (d : UnitCounts). d.last_mark) (one_noted c i is)
    go false i is = ap (λ (d : UnitCounts). d.last_mark) (none_of c i is)

-- ---- workunits

abbrev AreUnits : List StoredRow → Type 0
AreUnits rows = AllByRecursion (λ r. table_of r ≡ name.Unit) rows

zero_more : (xs : List ℕ) (j : ℕ) → get_or xs j 0 ≡ 0 → get_or (xs ++ 0 ∷ []) j 0 ≡ 0
zero_more [] zero is = refl
zero_more [] (suc j) is = refl
zero_more (x ∷ xs) zero is = is
zero_more (x ∷ xs) (suc j) is = zero_more xs j is

-- the rows have the keys of the numbers after `before`, in turn
abbrev pub AreInTurn : (ℕ → RowKey) → ℕ → List StoredRow → Type 0
AreInTurn key before rows = (i : ℕ) (r : StoredRow) → slice_get rows i ≡ Some r → row_key_of r ≡ key (i + before + 1)

-- more workunits are counted, with no instance yet
pub units_counted : (rows : List StoredRow) (c : UnitCounts) → AreUnits rows → length (fold noted c rows).counts ≡ length c.counts + length rows
units_counted [] c typed = omega arith
units_counted (r ∷ rows) c typed =
    let u = is_unit_row r typed.0 in
    let later = units_counted rows (noted c r) typed.1 in
    let one : length (noted c r).counts ≡ length c.counts + 1 = ap (λ s. length (noted c s).counts) u.1 ∙ length_push c.counts 0 in
    omega (arith, later, one)

pub units_without : (rows : List StoredRow) (c : UnitCounts) → AreUnits rows → ((j : ℕ) → get_or c.counts j 0 ≡ 0) → (j : ℕ) → get_or (fold noted c rows).counts j 0 ≡ 0
units_without [] c typed none j = none j
units_without (r ∷ rows) c typed none j =
    let u = is_unit_row r typed.0 in
    units_without rows (noted c r) typed.1 (λ k. ap (λ s. get_or (noted c s).counts k 0) u.1 ∙ zero_more c.counts k (none k)) j

-- workunits do not change the last mark
pub units_marked : (rows : List StoredRow) (c : UnitCounts) → AreUnits rows → (fold noted c rows).last_mark ≡ c.last_mark
units_marked [] c typed = refl
units_marked (r ∷ rows) c typed =
    let u = is_unit_row r typed.0 in
    units_marked rows (noted c r) typed.1 ∙ ap (λ s. (noted c s).last_mark) u.1

-- they are in turn exactly if that is noted
pub units_told : (rows : List StoredRow) (c : UnitCounts) → AreUnits rows → (fold noted c rows).are_in_turn ≡ true → (c.are_in_turn ≡ true) × AreInTurn unit_key (length c.counts) rows
units_told [] c typed turn = (turn, λ i r is. absurd (none-some r is))
units_told (r ∷ rows) c typed turn =
    let u = is_unit_row r typed.0 in
    let later = units_told rows (noted c r) typed.1 turn in
    let here : (c.are_in_turn && (u.0.id == length c.counts + 1)) ≡ true = sym (ap (λ s. (noted c s).are_in_turn) u.1) ∙ later.0 in
    let parts = and_parts c.are_in_turn (u.0.id == length c.counts + 1) here in
    let one : length (noted c r).counts ≡ length c.counts + 1 = ap (λ s. length (noted c s).counts) u.1 ∙ length_push c.counts 0 in
    (parts.0, λ i s is. at i s is u.0 u.1 ((Decides-eqb u.0.id (length c.counts + 1)).0 parts.1) one later.1)
  where
    at : (i : ℕ) (s : StoredRow) → slice_get (r ∷ rows) i ≡ Some s → (u : StoredUnit) → r ≡ stored.Unit u → u.id ≡ length c.counts + 1 → length (noted c r).counts ≡ length c.counts + 1
        → AreInTurn unit_key (length (noted c r).counts) rows → row_key_of s ≡ unit_key (i + length c.counts + 1)
    at zero s is u unit id one rest =
        let same : r ≡ s = some_same is in
        ap row_key_of (sym same ∙ unit) ∙ ap unit_key (let number : u.id ≡ 0 + length c.counts + 1 = omega (arith, id) in number)
      where
        some_same : Some r ≡ Some s → r ≡ s
        some_same e = cc
    at (suc i) s is u unit id one rest = rest i s is ∙ ap unit_key (let number : i + length (noted c r).counts + 1 ≡ suc i + length c.counts + 1 = omega (arith, one) in number)

pub units_turned : (rows : List StoredRow) (c : UnitCounts) → AreUnits rows → c.are_in_turn ≡ true → AreInTurn unit_key (length c.counts) rows → (fold noted c rows).are_in_turn ≡ true
units_turned [] c typed turn are = turn
units_turned (r ∷ rows) c typed turn are =
    let u = is_unit_row r typed.0 in
    let key : unit_key u.0.id ≡ unit_key (0 + length c.counts + 1) = sym (ap row_key_of u.1) ∙ are 0 r refl in
    let id : u.0.id ≡ length c.counts + 1 = same_number u.0.id (0 + length c.counts + 1) key ∙ (let one : 0 + length c.counts + 1 ≡ length c.counts + 1 = omega arith in one) in
    let one : length (noted c r).counts ≡ length c.counts + 1 = ap (λ s. length (noted c s).counts) u.1 ∙ length_push c.counts 0 in
    units_turned rows (noted c r) typed.1
    (ap (λ s. (noted c s).are_in_turn) u.1 ∙ and_from _ _ turn ((Decides-eqb u.0.id (length c.counts + 1)).1 id))
    (λ i s is. are (suc i) s is ∙ ap unit_key (let number : suc i + length c.counts + 1 ≡ i + length (noted c r).counts + 1 = omega (arith, one) in number))
  where
    same_number : (n m : ℕ) → unit_key n ≡ unit_key m → n ≡ m
    same_number n m e = cc

-- ---- marks

abbrev AreMarks : List StoredRow → Type 0
AreMarks rows = AllByRecursion (λ r. table_of r ≡ name.UnitMark) rows

-- marks count no instance
pub marks_count : (rows : List StoredRow) (c : UnitCounts) → AreMarks rows → (fold noted c rows).counts ≡ c.counts
marks_count [] c typed = refl
marks_count (r ∷ rows) c typed =
    let m = is_mark_row r typed.0 in
    marks_count rows (noted c r) typed.1 ∙ ap (λ s. (noted c s).counts) m.1

-- if all is in turn, the marks are, and the last one has the number of them all
pub marks_told : (rows : List StoredRow) (c : UnitCounts) → AreMarks rows → (fold noted c rows).are_in_turn ≡ true
    → (c.are_in_turn ≡ true) × AreInTurn mark_key c.last_mark rows × ((fold noted c rows).last_mark ≡ c.last_mark + length rows)
marks_told [] c typed turn = (turn, (λ i r is. absurd (none-some r is)), omega arith)
marks_told (r ∷ rows) c typed turn =
    let m = is_mark_row r typed.0 in
    let later = marks_told rows (noted c r) typed.1 turn in
    let here : (c.are_in_turn && (m.0.unit_id == c.last_mark + 1)) ≡ true = sym (ap (λ s. (noted c s).are_in_turn) m.1) ∙ later.0 in
    let parts = and_parts c.are_in_turn (m.0.unit_id == c.last_mark + 1) here in
    let id : m.0.unit_id ≡ c.last_mark + 1 = (Decides-eqb m.0.unit_id (c.last_mark + 1)).0 parts.1 in
    let one : (noted c r).last_mark ≡ c.last_mark + 1 = ap (λ s. (noted c s).last_mark) m.1 ∙ id in
    let last = later.2 in
    (parts.0, (λ i s is. at i s is m.0 m.1 id one later.1), omega (arith, one, last))
  where
    at : (i : ℕ) (s : StoredRow) → slice_get (r ∷ rows) i ≡ Some s → (m : StoredUnitMark) → r ≡ stored.UnitMark m → m.unit_id ≡ c.last_mark + 1
        → (noted c r).last_mark ≡ c.last_mark + 1 → AreInTurn mark_key (noted c r).last_mark rows → row_key_of s ≡ mark_key (i + c.last_mark + 1)
    at zero s is m mark id one rest =
        ap row_key_of (sym (some_same is) ∙ mark) ∙ ap mark_key (let number : m.unit_id ≡ 0 + c.last_mark + 1 = omega (arith, id) in number)
      where
        some_same : Some r ≡ Some s → r ≡ s
        some_same e = cc
    at (suc i) s is m mark id one rest = rest i s is ∙ ap mark_key (let number : i + (noted c r).last_mark + 1 ≡ suc i + c.last_mark + 1 = omega (arith, one) in number)

-- and if the marks are in turn, all is
pub marks_turned : (rows : List StoredRow) (c : UnitCounts) → AreMarks rows → c.are_in_turn ≡ true → AreInTurn mark_key c.last_mark rows
    → ((fold noted c rows).are_in_turn ≡ true) × ((fold noted c rows).last_mark ≡ c.last_mark + length rows)
marks_turned [] c typed turn are = (turn, omega arith)
marks_turned (r ∷ rows) c typed turn are =
    let m = is_mark_row r typed.0 in
    let key : mark_key m.0.unit_id ≡ mark_key (0 + c.last_mark + 1) = sym (ap row_key_of m.1) ∙ are 0 r refl in
    let id : m.0.unit_id ≡ c.last_mark + 1 = same_number m.0.unit_id (0 + c.last_mark + 1) key ∙ (let one : 0 + c.last_mark + 1 ≡ c.last_mark + 1 = omega arith in one) in
    let one : (noted c r).last_mark ≡ c.last_mark + 1 = ap (λ s. (noted c s).last_mark) m.1 ∙ id in
    let later = marks_turned rows (noted c r) typed.1
    (ap (λ s. (noted c s).are_in_turn) m.1 ∙ and_from _ _ turn ((Decides-eqb m.0.unit_id (c.last_mark + 1)).1 id))
    (λ i s is. are (suc i) s is ∙ ap mark_key (let number : suc i + c.last_mark + 1 ≡ i + (noted c r).last_mark + 1 = omega (arith, one) in number)) in
    let last = later.1 in
    (later.0, omega (arith, one, last))
  where
    same_number : (n m : ℕ) → mark_key n ≡ mark_key m → n ≡ m
    same_number n m e = cc
