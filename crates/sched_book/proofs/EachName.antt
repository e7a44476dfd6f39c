-- The first element of each text: by index, in order, one for each text.
use Rattle.std.proofs.Common.{◌≡◌, ◌≢◌, ◌⊎◌, inl, inr, ℕ, zero, suc, ◌<◌, Bool, true, false, cond, List, [], ◌∷◌, map, Some, None, sym, refl, ap, ◌∙◌, arith}
use Rattle.std.specs.Prelude.{◌||◌, filter_map, slice_get, All, AllPairs, Contains}
use Rattle.std.specs.List.{cons_option, list_any}
use Rattle.std.specs.Str.{bytes_eq}
use Rattle.std.proofs.lemmas.Bool.{or_parts}
use Rattle.std.proofs.lemmas.List.Elements.{All-nil, All-cons, All-map, All-weaker, All-contains}
use Rattle.std.proofs.lemmas.List.Kept.{AllPairs-cons}
use Rattle.std.proofs.lemmas.Slice.Eq.{bytes_eq-Decides}
use Rattle.std.proofs.lemmas.Cmp.{nat_list_eq_equiv}
use Rattle.rpc_records.specs.declared.request.Report.{Report}
use Rattle.sched_book.specs.Reports.{first_of_each}
use Rattle.sched_book.specs.PlaceLaws.{IsFirstWithText, AreFirstOfEach, FirstReportsAreOfEachName, FirstNamesAreOfEachName}
use Rattle.sched_book.proofs.Newest.{front_of, behind, in_front, none_in_nothing}
use Rattle.sched_book.proofs.Rising.{RisesFrom, rises_lower, rises_next, rises_in_pairs, pairs_nil}

each_next : (is : List ℕ) → All (λ i. Contains (map suc is) (suc i)) is
each_next [] = All-nil (λ i. Contains [] (suc i))
each_next (i ∷ is) =
    All-cons (λ j. Contains (map suc (i ∷ is)) (suc j)) i is (front_of (suc i) (map suc is))
    (All-weaker (λ j. Contains (map suc is) (suc j)) (λ j. Contains (map suc (i ∷ is)) (suc j))
    (λ j there. behind (suc i) (map suc is) (suc j) there) is (each_next is))

among_next : (is : List ℕ) (i : ℕ) → Contains is i → Contains (map suc is) (suc i)
among_next is i there = All-contains (λ j. Contains (map suc is) (suc j)) is i (each_next is) there

at_next : {X : Type 0} (x : X) (xs : List X) (is : List ℕ) → filter_map (slice_get (x ∷ xs)) (map suc is) ≡ filter_map (slice_get xs) is
at_next x xs [] = refl
at_next x xs (i ∷ is) = ap (cons_option (slice_get xs i)) (at_next x xs is)

-- the same, without the texts that were seen
record IsFirstBeyond {X : Type 0} (text : X → List ℕ) (seen : List (List ℕ)) (xs : List X) (index : ℕ) : Type 0 where
  first : IsFirstWithText text xs index
  unseen : list_any (bytes_eq (text first.element)) seen ≡ false

record AreBeyond {X : Type 0} (text : X → List ℕ) (seen : List (List ℕ)) (xs firsts : List X) : Type 0 where
  indices : List ℕ
  rises : RisesFrom 0 indices
  each : All (IsFirstBeyond text seen xs) indices
  none_missed : (i : ℕ) → IsFirstBeyond text seen xs i → Contains indices i
  are : firsts ≡ filter_map (slice_get xs) indices

-- one element in front
module _ {X : Type 0} (text : X → List ℕ) (x : X) (xs : List X) (seen : List (List ℕ)) where
  -- what is first without some texts is still first one index later, if its text differs from the element's
  further : (more : List (List ℕ)) (i : ℕ) (f : IsFirstBeyond text more xs i) → (text x ≡ text f.first.element → ⊥)
      → list_any (bytes_eq (text f.first.element)) seen ≡ false → IsFirstBeyond text seen (x ∷ xs) (suc i)
  further more i f other unseen = record {
    first = record { element = f.first.element; stands = f.first.stands; new_text = new_text };
    unseen = unseen;
  }
    where
      new_text : (before : ℕ) (y : X) → before < suc i → slice_get (x ∷ xs) before ≡ Some y → text y ≢ text f.first.element
      new_text zero y less is = λ same. other (ap text (let here : x ≡ y = cc in here) ∙ same)
      new_text (suc before) y less is = f.first.new_text before y (omega arith) is

  nearer : (more : List (List ℕ)) (i : ℕ) (f : IsFirstBeyond text seen (x ∷ xs) (suc i))
      → list_any (bytes_eq (text f.first.element)) more ≡ false → IsFirstBeyond text more xs i
  nearer more i f unseen = record {
    first = record {
      element = f.first.element;
      stands = f.first.stands;
      new_text = λ before y less is. f.first.new_text (suc before) y (omega arith) is;
    };
    unseen = unseen;
  }

  -- the element's text was seen
  passed : (firsts : List X) → list_any (bytes_eq (text x)) seen ≡ true → AreBeyond text seen xs firsts → AreBeyond text seen (x ∷ xs) firsts
  passed firsts was rest = record {
    indices = map suc rest.indices;
    rises = rises_lower 0 1 (map suc rest.indices) (omega arith) (rises_next 0 rest.indices rest.rises);
    each =
        All-map (IsFirstBeyond text seen (x ∷ xs)) suc rest.indices
        (All-weaker (IsFirstBeyond text seen xs) (λ i. IsFirstBeyond text seen (x ∷ xs) (suc i))
        (λ i f. further seen i f (λ same. apart (text f.first.element) same f.unseen) f.unseen) rest.indices rest.each);
    none_missed = missed;
    are = rest.are ∙ sym (at_next x xs rest.indices);
  }
    where
      apart : (s : List ℕ) → text x ≡ s → list_any (bytes_eq s) seen ≡ false → ⊥
      apart s same unseen = let never : true ≡ false = sym was ∙ ap (λ t. list_any (bytes_eq t) seen) same ∙ unseen in absurd cc

      missed : (i : ℕ) → IsFirstBeyond text seen (x ∷ xs) i → Contains (map suc rest.indices) i
      missed zero f = absurd (apart (text f.first.element) (ap text (let is : Some x ≡ Some f.first.element = f.first.stands in let here : x ≡ f.first.element = cc in here)) f.unseen)
      missed (suc i) f = among_next rest.indices i (rest.none_missed i (nearer seen i f f.unseen))

  -- the element's text is new
  kept : (firsts : List X) → list_any (bytes_eq (text x)) seen ≡ false → AreBeyond text (text x ∷ seen) xs firsts
      → AreBeyond text seen (x ∷ xs) (x ∷ firsts)
  kept firsts was_not rest = record {
    indices = 0 ∷ map suc rest.indices;
    rises = (omega arith, rises_next 0 rest.indices rest.rises);
    each =
        All-cons (IsFirstBeyond text seen (x ∷ xs)) 0 (map suc rest.indices) here
        (All-map (IsFirstBeyond text seen (x ∷ xs)) suc rest.indices
        (All-weaker (IsFirstBeyond text (text x ∷ seen) xs) (λ i. IsFirstBeyond text seen (x ∷ xs) (suc i)) later rest.indices rest.each));
    none_missed = missed;
    are = ap (λ ys. x ∷ ys) (rest.are ∙ sym (at_next x xs rest.indices));
  }
    where
      here : IsFirstBeyond text seen (x ∷ xs) 0
      here = record {
        first = record { element = x; stands = refl; new_text = λ before y less is. absurd (omega arith) };
        unseen = was_not;
      }

      later : (i : ℕ) → IsFirstBeyond text (text x ∷ seen) xs i → IsFirstBeyond text seen (x ∷ xs) (suc i)
      later i f =
          let parts = or_parts (bytes_eq (text f.first.element) (text x)) (list_any (bytes_eq (text f.first.element)) seen) f.unseen in
          further (text x ∷ seen) i f
          (λ same. (let never : true ≡ false = sym (nat_list_eq_equiv.refl (text f.first.element)) ∙ ap (bytes_eq (text f.first.element)) (sym same) ∙ parts.0 in absurd cc))
          parts.1

      missed : (i : ℕ) → IsFirstBeyond text seen (x ∷ xs) i → Contains (0 ∷ map suc rest.indices) i
      missed zero f = front_of 0 (map suc rest.indices)
      missed (suc i) f =
          behind 0 (map suc rest.indices) (suc i)
          (among_next rest.indices i
          (rest.none_missed i
          (nearer (text x ∷ seen) i f
          (new (bytes_eq (text f.first.element) (text x)) refl (list_any (bytes_eq (text f.first.element)) seen) f.unseen))))
        where
          new : (b : Bool) → bytes_eq (text f.first.element) (text x) ≡ b → (c : Bool) → c ≡ false → (b || c) ≡ false
          new false is c unseen = unseen
          new true is c unseen =
              absurd (f.first.new_text 0 x (omega arith) refl (sym ((bytes_eq-Decides (text f.first.element) (text x)).0 is)))

are_beyond : {X : Type 0} (text : X → List ℕ) (seen : List (List ℕ)) (xs : List X) → AreBeyond text seen xs (first_of_each text seen xs)
are_beyond text seen [] = record {
  indices = [];
  rises = tt;
  each = All-nil (IsFirstBeyond text seen []);
  none_missed = λ i f. (let never : None ≡ Some f.first.element = f.first.stands in absurd cc);
  are = refl;
}
are_beyond {X} text seen (x ∷ xs) = cases (list_any (bytes_eq (text x)) seen) refl (are_beyond text seen xs) (are_beyond text (text x ∷ seen) xs)
  where
    cases : (b : Bool) → list_any (bytes_eq (text x)) seen ≡ b → AreBeyond text seen xs (first_of_each text seen xs)
        → AreBeyond text (text x ∷ seen) xs (first_of_each text (text x ∷ seen) xs)
        → AreBeyond text seen (x ∷ xs) (cond b (first_of_each text seen xs) (x ∷ first_of_each text (text x ∷ seen) xs))
    cases true is skip take_on = passed text x xs seen (first_of_each text seen xs) is skip
    cases false is skip take_on = kept text x xs seen (first_of_each text (text x ∷ seen) xs) is take_on

-- each text was seen, or one of the first ones has it
each_text : {X : Type 0} (text : X → List ℕ) (seen : List (List ℕ)) (xs : List X) (x : X) → Contains xs x
    → (list_any (bytes_eq (text x)) seen ≡ true) ⊎ ((first : X) × Contains (first_of_each text seen xs) first × (text first ≡ text x))
each_text text seen [] x there = absurd (none_in_nothing x there)
each_text {X} text seen (y ∷ ys) x there =
    cases (list_any (bytes_eq (text y)) seen) refl (in_front y ys x there) (each_text text seen ys x) (each_text text (text y ∷ seen) ys x)
  where
    Has : List X → Type 0
    Has firsts = (first : X) × Contains firsts first × (text first ≡ text x)

    rest : List X
    rest = first_of_each text (text y ∷ seen) ys

    of_later : (b : Bool) → bytes_eq (text x) (text y) ≡ b → (b || list_any (bytes_eq (text x)) seen) ≡ true
        → (list_any (bytes_eq (text x)) seen ≡ true) ⊎ Has (y ∷ rest)
    of_later true is was = inr (y, front_of y rest, sym ((bytes_eq-Decides (text x) (text y)).0 is))
    of_later false is was = inl was

    cases : (b : Bool) → list_any (bytes_eq (text y)) seen ≡ b → (y ≡ x) ⊎ Contains ys x
        → (Contains ys x → (list_any (bytes_eq (text x)) seen ≡ true) ⊎ Has (first_of_each text seen ys))
        → (Contains ys x → (list_any (bytes_eq (text x)) (text y ∷ seen) ≡ true) ⊎ Has rest)
        → (list_any (bytes_eq (text x)) seen ≡ true) ⊎ Has (cond b (first_of_each text seen ys) (y ∷ rest))
    cases true is (inl same) skip take_on = inl (ap (λ z. list_any (bytes_eq (text z)) seen) (sym same) ∙ is)
    cases true is (inr later) skip take_on = skip later
    cases false is (inl same) skip take_on = inr (y, front_of y rest, ap text same)
    cases false is (inr later) skip take_on = elim (take_on later) [
      | inl was ↦ of_later (bytes_eq (text x) (text y)) refl was
      | inr has ↦ inr (has.0, behind y rest has.0 has.1, has.2)
    ]

-- none of the first ones has a text that was seen, and no two have the same text
unseen : {X : Type 0} (text : X → List ℕ) (seen : List (List ℕ)) (xs : List X)
    → All (λ y. list_any (bytes_eq (text y)) seen ≡ false) (first_of_each text seen xs)
unseen text seen [] = All-nil (λ y. list_any (bytes_eq (text y)) seen ≡ false)
unseen {X} text seen (x ∷ xs) = cases (list_any (bytes_eq (text x)) seen) refl (unseen text seen xs) (unseen text (text x ∷ seen) xs)
  where
    Unseen : List (List ℕ) → X → Type 0
    Unseen texts y = list_any (bytes_eq (text y)) texts ≡ false

    cases : (b : Bool) → list_any (bytes_eq (text x)) seen ≡ b → All (Unseen seen) (first_of_each text seen xs)
        → All (Unseen (text x ∷ seen)) (first_of_each text (text x ∷ seen) xs)
        → All (Unseen seen) (cond b (first_of_each text seen xs) (x ∷ first_of_each text (text x ∷ seen) xs))
    cases true is skip take_on = skip
    cases false is skip take_on =
        All-cons (Unseen seen) x (first_of_each text (text x ∷ seen) xs) is
        (All-weaker (Unseen (text x ∷ seen)) (Unseen seen)
        (λ y new. (or_parts (bytes_eq (text y) (text x)) (list_any (bytes_eq (text y)) seen) new).1)
        (first_of_each text (text x ∷ seen) xs) take_on)

once : {X : Type 0} (text : X → List ℕ) (seen : List (List ℕ)) (xs : List X) → AllPairs (λ x y. text x ≢ text y) (first_of_each text seen xs)
once text seen [] = pairs_nil (λ x y. text x ≢ text y)
once {X} text seen (x ∷ xs) = cases (list_any (bytes_eq (text x)) seen) (once text seen xs) (once text (text x ∷ seen) xs)
  where
    rest : List X
    rest = first_of_each text (text x ∷ seen) xs

    other : (y : X) → list_any (bytes_eq (text y)) (text x ∷ seen) ≡ false → text x ≢ text y
    other y new same =
        let apart = (or_parts (bytes_eq (text y) (text x)) (list_any (bytes_eq (text y)) seen) new).0 in
        let never : true ≡ false = sym (nat_list_eq_equiv.refl (text y)) ∙ ap (bytes_eq (text y)) (sym same) ∙ apart in
        absurd cc

    cases : (b : Bool) → AllPairs (λ x y. text x ≢ text y) (first_of_each text seen xs) → AllPairs (λ x y. text x ≢ text y) rest
        → AllPairs (λ x y. text x ≢ text y) (cond b (first_of_each text seen xs) (x ∷ rest))
    cases true skip take_on = skip
    cases false skip take_on =
        AllPairs-cons (λ x y. text x ≢ text y) x rest
        (All-weaker (λ y. list_any (bytes_eq (text y)) (text x ∷ seen) ≡ false) (λ y. text x ≢ text y) other rest (unseen text (text x ∷ seen) xs))
        take_on

are_first_of_each : {X : Type 0} (text : X → List ℕ) (xs : List X) → AreFirstOfEach text xs (first_of_each text [] xs)
are_first_of_each text xs =
    let beyond = are_beyond text [] xs in
    record {
      indices = beyond.indices;
      rising = rises_in_pairs 0 beyond.indices beyond.rises;
      each = All-weaker (IsFirstBeyond text [] xs) (IsFirstWithText text xs) (λ i f. f.first) beyond.indices beyond.each;
      none_missed = λ i f. beyond.none_missed i (record { first = f; unseen = refl });
      are = beyond.are;
      each_text = λ x there. elim (each_text text [] xs x there) [ inl never ↦ absurd cc | inr has ↦ has ];
      once = once text [] xs;
    }

pub first_reports_are_of_each_name : FirstReportsAreOfEachName
first_reports_are_of_each_name reports = are_first_of_each (λ (r : Report). r.name) reports

pub first_names_are_of_each_name : FirstNamesAreOfEachName
first_names_are_of_each_name names = are_first_of_each (λ name. name) names
