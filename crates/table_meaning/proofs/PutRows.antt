-- A row put into a tree: its number is free, and so is its key once the row that had the key is removed.
use Rattle.std.proofs.Common.{◌≡◌, ◌⊎◌, ℕ, ℤ, Bool, true, false, not, cond, List, [], ◌∷◌, map, filter, find, Some, refl, sym, ap, subst, ◌∙◌, inl, inr, Ordering, Less, Equal, Greater, is_eq, IsTrue, true≢false}
use Rattle.std.specs.List.{AllByRecursion}
use Rattle.std.specs.Ordering.{match_ordering, ordering_reverse}
use Rattle.std.proofs.lemmas.Bool.{cases_Bool, both_ways, false_from_ne_true, not-true}
use Rattle.std.proofs.lemmas.Cmp.{tied_itself}
use Rattle.sqlite_value.specs.declared.value.Value.TheVariants.{Int}
use Rattle.sqlite_value.specs.Order.{Row, column, value_cmp}
use Rattle.sqlite_value.specs.Keys.{plain, later}
use Rattle.sqlite_value.specs.declared.keys.Order.{Order}
use Rattle.sqlite_value.proofs.OrderLemmas.{value_cmp_total}
use Rattle.sqlite_trees.specs.declared.store.Shape.TheVariants.{Table as TableTree}
use Rattle.sqlite_trees.specs.Tree.{rowid, IsTable, put_row, has_rowid, without_rowid}
use Rattle.sqlite_trees.specs.View.{IsShaped, is_int}
use Rattle.sqlite_trees.proofs.TreeLemmas.{IsTable-put_row, all-put_row}
use Rattle.sqlite_schema.specs.Rules.{agree}
use Rattle.sqlite_rules.specs.Lists.{Has}
use Rattle.sqlite_rules.specs.Edit.{is_taken}
use Rattle.sqlite_rules.proofs.KeyLemmas.{agree_back, agree_chain}
use Rattle.sqlite_rules.proofs.ListLemmas.{all_has, all_from, has_filtered}
use Rattle.sqlite_rules.proofs.TableLemmas.{put_has}
use Rattle.sqlite_rules.proofs.PlaceLemmas.{tied_same}
use Rattle.sqlite_keyed.proofs.ListLemmas.{none_from_any, ascending-filter, all-filter, filter_none}
use Rattle.table_meaning.specs.Holding.{AreApart}

-- ---- look-ups

find_put : (p : Row → Bool) (n : Row) (xs : List Row) → AllByRecursion (λ x. is_eq (value_cmp (rowid x) (rowid n)) ≡ false) xs
    → (p n ≡ true → AllByRecursion (λ x. p x ≡ false) xs) → find p (put_row n xs) ≡ cond (p n) (Some n) (find p xs)
find_put p n [] free none = refl
find_put p n (x ∷ xs) free none = go (value_cmp (rowid x) (rowid n)) free.0 (p n) refl none (find_put p n xs free.1 (λ here. (none here).1))
  where
    go : (o : Ordering) → is_eq o ≡ false → (b : Bool) → p n ≡ b → (p n ≡ true → AllByRecursion (λ y. p y ≡ false) (x ∷ xs)) → find p (put_row n xs) ≡ cond (p n) (Some n) (find p xs)
        → find p (match_ordering o (x ∷ put_row n xs) (n ∷ xs) (n ∷ x ∷ xs)) ≡ cond (p n) (Some n) (find p (x ∷ xs))
    go Less e true here other more = rw (here, (other here).0) (rw here at more)
    go Less e false here other more = rw here (ap (λ l. cond (p x) (Some x) l) (rw here at more))
    go Equal e b here other more = absurd (true≢false e)
    go Greater e b here other more = refl

find_filtered : (p q : Row → Bool) (xs : List Row) → ((x : Row) → Has xs x → q x ≡ false → p x ≡ false) → find p (filter q xs) ≡ find p xs
find_filtered p q [] skips = refl
find_filtered p q (x ∷ xs) skips = go (q x) refl (find_filtered p q xs (λ y has. skips y (inr has)))
  where
    go : (b : Bool) → q x ≡ b → find p (filter q xs) ≡ find p xs → find p (cond b (x ∷ filter q xs) (filter q xs)) ≡ find p (x ∷ xs)
    go true e more = ap (λ l. cond (p x) (Some x) l) more
    go false e more = rw (skips x (inl refl) e) more

-- whether a row agrees depends only on its columns at the places
pub agree_from : (o : Order) (places others slots : List ℕ) (a b key : Row) → map (column a) places ≡ map (column b) others → agree o places a slots key ≡ agree o others b slots key
agree_from o [] [] slots a b key same = go slots
  where
    go : (slots : List ℕ) → agree o [] a slots key ≡ agree o [] b slots key
    go [] = refl
    go (s ∷ slots) = refl
agree_from o [] (q ∷ others) slots a b key same = cc
agree_from o (p ∷ places) [] slots a b key same = cc
agree_from o (p ∷ places) (q ∷ others) [] a b key same = refl
agree_from o (p ∷ places) (q ∷ others) (s ∷ slots) a b key same =
    let head : column a p ≡ column b q = cc in
    let tail : map (column a) places ≡ map (column b) others = cc in
    rw (head, agree_from (later o) places others slots a b key tail)

-- ---- the tree after a put

-- The rows are the rest of those before, with the new row. The removed rows had its key.
pub record Puts (places : List ℕ) (xs ys : List Row) (n : Row) : Type 0 where
  pub left : List Row
  pub put : ys ≡ put_row n left
  pub free : AllByRecursion (λ x. is_eq (value_cmp (rowid x) (rowid n)) ≡ false) left
  pub apart : (x : Row) → Has left x → agree plain places x places n ≡ false
  pub was : (x : Row) → Has left x → Has xs x
  pub found : (p : Row → Bool) → ((x : Row) → agree plain places x places n ≡ true → p x ≡ false) → find p left ≡ find p xs
  pub shaped : IsShaped TableTree left
  pub numbered : is_int (rowid n) ≡ true

module _ (places : List ℕ) (xs ys : List Row) (n : Row) (puts : Puts places xs ys n) where
  pub find_puts : (slots : List ℕ) (key : Row)
      → find (λ r. agree plain places r slots key) ys ≡ cond (agree plain places n slots key) (Some n) (find (λ r. agree plain places r slots key) xs)
  find_puts slots key =
      let p = λ (r : Row). agree plain places r slots key in
      let none = λ (here : p n ≡ true). all_from (λ x. p x ≡ false) puts.left (λ x has. false_from_ne_true _ (λ there.
      both_ways _ (puts.apart x has) (agree_chain plain places slots places x key n there (agree_back plain places slots n key here)))) in
      ap (find p) puts.put ∙ find_put p n puts.left puts.free none ∙ last (p n) refl
    where
      last : (b : Bool) → agree plain places n slots key ≡ b
          → cond (agree plain places n slots key) (Some n) (find (λ r. agree plain places r slots key) puts.left) ≡ cond (agree plain places n slots key) (Some n) (find (λ r. agree plain places r slots key) xs)
      last true here = rw here
      last false here =
          rw here (puts.found (λ r. agree plain places r slots key) (λ x same. false_from_ne_true _ (λ there.
          both_ways _ here (agree_chain plain places places slots n x key (agree_back plain places places x n same) there))))

  pub puts_shaped : IsShaped TableTree ys
  puts_shaped = subst (IsShaped TableTree) (sym puts.put) (IsTable-put_row n puts.left puts.shaped.0, all-put_row (λ r. IsTrue (is_int (rowid r))) n puts.left puts.numbered puts.shaped.1)

  -- each row is the new one, or was there before
  puts_left : (x : Row) → Has ys x → (x ≡ n) ⊎ Has puts.left x
  puts_left x has = put_has n puts.left x (subst (λ l. Has l x) puts.put has)

  pub puts_from : (x : Row) → Has ys x → (x ≡ n) ⊎ Has xs x
  puts_from x has = elim (puts_left x has) [ inl new ↦ inl new | inr left ↦ inr (puts.was x left) ]

  pub puts_apart : AreApart places xs → AreApart places ys
  puts_apart old a b is_a is_b same = go (puts_left a is_a) (puts_left b is_b)
    where
      go : (a ≡ n) ⊎ Has puts.left a → (b ≡ n) ⊎ Has puts.left b → a ≡ b
      go (inl p) (inl q) = p ∙ sym q
      go (inl p) (inr q) = absurd (both_ways _ (puts.apart b q) (agree_back plain places places n b (subst (λ x. agree plain places x places b ≡ true) p same)))
      go (inr p) (inl q) = absurd (both_ways _ (puts.apart a p) (subst (λ x. agree plain places a places x ≡ true) q same))
      go (inr p) (inr q) = old a b (puts.was a p) (puts.was b q) same

-- ---- if no row had the key

pub added : (places : List ℕ) (xs : List Row) (n : Row) → IsShaped TableTree xs → is_int (rowid n) ≡ true → is_taken xs n ≡ false → ((x : Row) → Has xs x → agree plain places x places n ≡ false)
    → Puts places xs (put_row n xs) n
added places xs n shaped numbered free apart =
    record { left = xs; put = refl; free = none_from_any _ xs free; apart = apart; was = λ x has. has; found = λ p skips. refl; shaped = shaped; numbered = numbered }

-- ---- if a row had it

equal_is : (o : Ordering) → is_eq o ≡ true → o ≡ Equal
equal_is Less h = absurd (cc)
equal_is Equal h = refl
equal_is Greater h = absurd (cc)

module _ (places : List ℕ) (xs : List Row) (r : Row) (id : ℤ) (shaped : IsShaped TableTree xs) (there : Has xs r) (numbered : rowid r ≡ Int id) where
  itself : has_rowid id r ≡ true
  itself = ap (λ v. is_eq (value_cmp v (Int id))) numbered ∙ ap is_eq (tied_itself value_cmp_total (Int id))

  only_it : (x : Row) → Has xs x → has_rowid id x ≡ true → x ≡ r
  only_it x has same = tied_same xs x r shaped.0 has there (ap (value_cmp (rowid x)) numbered ∙ equal_is _ same)

  pub replaced : (n : Row) → is_int (rowid n) ≡ true → is_taken (without_rowid id xs) n ≡ false → AreApart places xs → agree plain places r places n ≡ true
      → Puts places xs (put_row n (without_rowid id xs)) n
  replaced n is_number free alone same = record {
    left = without_rowid id xs;
    put = refl;
    free = none_from_any _ (without_rowid id xs) free;
    apart = λ x has.
        let kept = has_filtered (λ y. not (has_rowid id y)) xs x has in
        false_from_ne_true _ (λ also.
        let one = alone x r kept.0 there (agree_chain plain places places places x n r also (agree_back plain places places r n same)) in
        both_ways _ (not-true _ kept.1) (subst (λ y. has_rowid id y ≡ true) (sym one) itself));
    was = λ x has. (has_filtered (λ y. not (has_rowid id y)) xs x has).0;
    found = λ p skips. find_filtered p (λ y. not (has_rowid id y)) xs (λ x has gone.
        let one = only_it x has (back (has_rowid id x) gone) in
        skips x (subst (λ y. agree plain places y places n ≡ true) (sym one) same));
    shaped = (ascending-filter _ (λ y. not (has_rowid id y)) xs shaped.0, all-filter _ (λ y. not (has_rowid id y)) xs shaped.1);
    numbered = is_number;
  }
    where
      back : (b : Bool) → not b ≡ false → b ≡ true
      back true h = refl
      back false h = absurd (true≢false h)

  -- a test that compares the number finds exactly that row
  pub only : (test : Row → Bool) → ((x : Row) → Has xs x → test x ≡ is_eq (value_cmp (rowid x) (rowid r))) → filter test xs ≡ r ∷ []
  only test compares = only_in xs shaped.0 (λ x has. compares x has) there
    where
      only_in : (ys : List Row) → IsTable ys → ((x : Row) → Has ys x → test x ≡ is_eq (value_cmp (rowid x) (rowid r))) → Has ys r → filter test ys ≡ r ∷ []
      only_in [] up tests has = absurd has
      only_in (y ∷ ys) up tests (inl same) =
          let here : test y ≡ true = tests y (inl refl) ∙ ap (λ z. is_eq (value_cmp (rowid y) (rowid z))) same ∙ ap is_eq (tied_itself value_cmp_total (rowid y)) in
          let none = all_from (λ z. test z ≡ false) ys (λ z has. tests z (inr has) ∙ ap is_eq (value_cmp_total.antisymm (rowid z) (rowid r)
          ∙ ap ordering_reverse (ap (λ w. value_cmp (rowid w) (rowid z)) same ∙ all_has _ ys z up.0 has))) in
          rw (here, filter_none test ys none) (ap (λ z. z ∷ []) (sym same))
      only_in (y ∷ ys) up tests (inr later) =
          let here : test y ≡ false = tests y (inl refl) ∙ ap is_eq (all_has _ ys r up.0 later) in
          rw here (only_in ys up.1 (λ x has. tests x (inr has)) later)

  -- and so does a test that no other row passes
  pub only_passing : (test : Row → Bool) → test r ≡ true → ((x : Row) → Has xs x → test x ≡ true → x ≡ r) → filter test xs ≡ r ∷ []
  only_passing test passes single = only test (λ x has. elim (cases_Bool (test x)) [
    | inl here ↦ here ∙ sym (ap (λ y. is_eq (value_cmp (rowid y) (rowid r))) (single x has here) ∙ ap is_eq (tied_itself value_cmp_total (rowid r)))
    | inr other ↦ other ∙ sym (false_from_ne_true _ (λ same. both_ways _ other (ap test (tied_same xs x r shaped.0 has there (equal_is _ same)) ∙ passes)))
  ])
