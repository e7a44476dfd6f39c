-- Lists with the same members, tests of the results of a function, and the results of a partial function along a list.
use Rattle.std.proofs.Common.{◌≡◌, ◌⊎◌, Bool, true, false, ◌&&◌, cond, List, [], ◌∷◌, ◌++◌, map, filter, flat_map, find, Option, Some, None, option_map, refl, sym, ap, ap₂, subst, ◌∙◌, inl, inr, IsPermutation}
use Rattle.std.specs.Prelude.{filter_map}
use Rattle.std.specs.List.{AllByRecursion, cons_option}
use Rattle.std.proofs.lemmas.List.Sorted.{IsPermutation-refl, IsPermutation-cons, IsPermutation-sym, IsPermutation-trans, IsPermutation-middle}
use Rattle.sqlite_trees.specs.Tree.{IsAscending}
use Rattle.sqlite_rules.specs.Lists.{Has}
use Rattle.sqlite_rules.proofs.ListLemmas.{all_has, all_from, has_left, has_right, has_either}

-- ---- the same members

abbrev pub AreDistinct : {X : Type 0} → List X → Type 0
AreDistinct = IsAscending (λ a b. a ≡ b → ⊥)

module _ {X : Type 0} where
  split : (xs : List X) (x : X) → Has xs x → (before after : List X) × (xs ≡ before ++ x ∷ after)
  split [] x has = absurd has
  split (y ∷ xs) x (inl same) = ([], xs, ap (λ z. z ∷ xs) (sym same))
  split (y ∷ xs) x (inr later) = let more = split xs x later in (y ∷ more.0, more.1, ap (λ l. y ∷ l) more.2)

  has_around : (before after : List X) (x z : X) → Has (before ++ after) z → Has (before ++ x ∷ after) z
  has_around before after x z has = elim (has_either before after z has) [ inl left ↦ has_left before (x ∷ after) z left | inr right ↦ has_right before (x ∷ after) z (inr right) ]

  without : (before after : List X) (x : X) → AreDistinct (before ++ x ∷ after) → AreDistinct (before ++ after) × ((z : X) → Has (before ++ after) z → z ≡ x → ⊥)
  without [] after x apart = (apart.1, λ z has same. all_has (λ b. x ≡ b → ⊥) after z apart.0 has (sym same))
  without (b ∷ before) after x apart =
      let more = without before after x apart.1 in
      let from_b = λ (z : X) (has : Has (before ++ x ∷ after) z). all_has (λ c. b ≡ c → ⊥) (before ++ x ∷ after) z apart.0 has in (
        (all_from (λ c. b ≡ c → ⊥) (before ++ after) (λ z has. from_b z (has_around before after x z has)), more.0),
        λ z has same. elim has [ inl here ↦ from_b x (has_right before (x ∷ after) x (inl refl)) (sym here ∙ same) | inr later ↦ more.1 z later same ],
      )

  pub same_members : (xs ys : List X) → AreDistinct xs → AreDistinct ys → ((x : X) → Has xs x → Has ys x) → ((x : X) → Has ys x → Has xs x) → IsPermutation xs ys
  same_members [] [] p q there back = IsPermutation-refl []
  same_members [] (y ∷ ys) p q there back = absurd (back y (inl refl))
  same_members (x ∷ xs) ys p q there back =
      let s = split ys x (there x (inl refl)) in
      let left = without s.0 s.1 x (subst AreDistinct s.2 q) in
      let rest = same_members xs (s.0 ++ s.1) p.1 left.0
      (λ z has. among s.0 s.1 z (all_has (λ c. x ≡ c → ⊥) xs z p.0 has) (has_either s.0 (x ∷ s.1) z (subst (λ l. Has l z) s.2 (there z (inr has)))))
      (λ z has. elim (back z (subst (λ l. Has l z) (sym s.2) (has_around s.0 s.1 x z has))) [ inl same ↦ absurd (left.1 z has same) | inr later ↦ later ]) in
      subst (IsPermutation (x ∷ xs)) (sym s.2) (IsPermutation-trans _ _ _ (IsPermutation-cons x _ _ rest) (IsPermutation-sym _ _ (IsPermutation-middle s.0 x s.1)))
    where
      among : (before after : List X) (z : X) → (x ≡ z → ⊥) → Has before z ⊎ Has (x ∷ after) z → Has (before ++ after) z
      among before after z apart (inl left) = has_left before after z left
      among before after z apart (inr (inl same)) = absurd (apart (sym same))
      among before after z apart (inr (inr right)) = has_right before after z right

-- two lists that rise by one order and have the same members are equal
module _ {X : Type 0} (R : X → X → Type 0) (never : (a b : X) → R a b → R b a → ⊥) where
  behind_first : (x : X) (xs ys : List X) → AllByRecursion (R x) xs → ((z : X) → Has xs z → Has (x ∷ ys) z) → (z : X) → Has xs z → Has ys z
  behind_first x xs ys above there z has = elim (there z has) [
    | inl same ↦ let itself : R x x = subst (R x) same (all_has (R x) xs z above has) in absurd (never x x itself itself)
    | inr later ↦ later
  ]

  same_first : (x y : X) (xs ys : List X) → AllByRecursion (R x) xs → AllByRecursion (R y) ys → Has (y ∷ ys) x → Has (x ∷ xs) y → x ≡ y
  same_first x y xs ys above other (inl same) back = same
  same_first x y xs ys above other (inr there) (inl same) = sym same
  same_first x y xs ys above other (inr there) (inr back) = absurd (never x y (all_has (R x) xs y above back) (all_has (R y) ys x other there))

  pub one_ascending : (xs ys : List X) → IsAscending R xs → IsAscending R ys → ((z : X) → Has xs z → Has ys z) → ((z : X) → Has ys z → Has xs z) → xs ≡ ys
  one_ascending [] [] up other there back = refl
  one_ascending [] (y ∷ ys) up other there back = absurd (back y (inl refl))
  one_ascending (x ∷ xs) [] up other there back = absurd (there x (inl refl))
  one_ascending (x ∷ xs) (y ∷ ys) up other there back =
      let same = same_first x y xs ys up.0 other.0 (there x (inl refl)) (back y (inl refl)) in
      let on = behind_first x xs ys up.0 (λ z has. subst (λ w. Has (w ∷ ys) z) (sym same) (there z (inr has))) in
      let off = behind_first y ys xs other.0 (λ z has. subst (λ w. Has (w ∷ xs) z) same (back z (inr has))) in
      ap₂ ◌∷◌ same (one_ascending xs ys up.1 other.1 on off)

-- ---- tests, and the results of a function

pub filter-passed : {X : Type 0} (p q : X → Bool) (xs : List X) → filter (λ x. q x && p x) xs ≡ filter p (filter q xs)
filter-passed p q [] = refl
filter-passed p q (x ∷ xs) = turn (q x) (filter-passed p q xs)
  where
    turn : (b : Bool) → filter (λ y. q y && p y) xs ≡ filter p (filter q xs) → cond (b && p x) (x ∷ filter (λ y. q y && p y) xs) (filter (λ y. q y && p y) xs) ≡ filter p (cond b (x ∷ filter q xs) (filter q xs))
    turn true later = ap (λ l. cond (p x) (x ∷ l) l) later
    turn false later = later

pub kept_for_each : {X Y : Type 0} (p : X → Bool) (f : X → Y) (xs : List X) → flat_map (λ x. cond (p x) (f x ∷ []) []) xs ≡ map f (filter p xs)
kept_for_each p f [] = refl
kept_for_each p f (x ∷ xs) =
    elim (p x) as (λ b. cond b (f x ∷ []) [] ++ flat_map (λ y. cond (p y) (f y ∷ []) []) xs ≡ map f (cond b (x ∷ filter p xs) (filter p xs)))
    [ true ↦ ap (λ l. f x ∷ l) (kept_for_each p f xs) | false ↦ kept_for_each p f xs ]

pub map-filter_map : {X Y Z : Type 0} (f : Y → Z) (h : X → Option Y) (xs : List X) → map f (filter_map h xs) ≡ filter_map (λ x. option_map f (h x)) xs
map-filter_map f h [] = refl
map-filter_map f h (x ∷ xs) = turn (h x) (map-filter_map f h xs)
  where
    turn : (o : Option _) → map f (filter_map h xs) ≡ filter_map (λ y. option_map f (h y)) xs → map f (cons_option o (filter_map h xs)) ≡ cons_option (option_map f o) (filter_map (λ y. option_map f (h y)) xs)
    turn None later = later
    turn (Some y) later = ap (λ l. f y ∷ l) later

pub find-map : {X Y : Type 0} (f : X → Y) (p : Y → Bool) (q : X → Bool) → ((x : X) → p (f x) ≡ q x) → (xs : List X) → find p (map f xs) ≡ option_map f (find q xs)
find-map f p q same [] = refl
find-map f p q same (x ∷ xs) = ap (λ b. cond b (Some (f x)) (find p (map f xs))) (same x) ∙ turn (q x) (find-map f p q same xs)
  where
    turn : (b : Bool) → find p (map f xs) ≡ option_map f (find q xs) → cond b (Some (f x)) (find p (map f xs)) ≡ option_map f (cond b (Some x) (find q xs))
    turn true later = refl
    turn false later = later

-- ---- the results of a partial function along a list

module _ {X Y : Type 0} (h : X → Option Y) where
  pub has_given : (xs : List X) (x : X) (y : Y) → Has xs x → h x ≡ Some y → Has (filter_map h xs) y
  has_given [] x y has is = absurd has
  has_given (z ∷ xs) x y (inl same) is = let here : h z ≡ Some y = ap h (sym same) ∙ is in rw here (inl refl)
  has_given (z ∷ xs) x y (inr later) is = turn (h z) (has_given xs x y later is)
    where
      turn : (o : Option Y) → Has (filter_map h xs) y → Has (cons_option o (filter_map h xs)) y
      turn None has = has
      turn (Some w) has = inr has

  pub given_by : (xs : List X) (y : Y) → Has (filter_map h xs) y → (x : X) × Has xs x × (h x ≡ Some y)
  given_by [] y has = absurd has
  given_by (z ∷ xs) y has = turn (h z) refl has (given_by xs y)
    where
      turn : (o : Option Y) → h z ≡ o → Has (cons_option o (filter_map h xs)) y → (Has (filter_map h xs) y → (x : X) × Has xs x × (h x ≡ Some y)) → (x : X) × Has (z ∷ xs) x × (h x ≡ Some y)
      turn None is there more = let found = more there in (found.0, inr found.1, found.2)
      turn (Some w) is (inl same) more = (z, inl refl, is ∙ ap Some (sym same))
      turn (Some w) is (inr there) more = let found = more there in (found.0, inr found.1, found.2)

  each_given : (P : X → Type 0) (Q : Y → Type 0) → ((x : X) (y : Y) → P x → h x ≡ Some y → Q y) → (xs : List X) → AllByRecursion P xs → AllByRecursion Q (filter_map h xs)
  each_given P Q gives xs all = all_from Q (filter_map h xs) (λ y has. let from = given_by xs y has in gives from.0 y (all_has P xs from.0 all from.1) from.2)

  pub ascending-filter_map : (R : X → X → Type 0) (S : Y → Y → Type 0) → ((a b : X) (y z : Y) → R a b → h a ≡ Some y → h b ≡ Some z → S y z) → (xs : List X) → IsAscending R xs → IsAscending S (filter_map h xs)
  ascending-filter_map R S gives [] up = tt
  ascending-filter_map R S gives (x ∷ xs) up = turn (h x) refl (ascending-filter_map R S gives xs up.1)
    where
      turn : (o : Option Y) → h x ≡ o → IsAscending S (filter_map h xs) → IsAscending S (cons_option o (filter_map h xs))
      turn None is more = more
      turn (Some y) is more = (each_given (R x) (S y) (λ b z r got. gives x b y z r is got) xs up.0, more)

  -- a test of the results, as a test of the arguments
  pub filter-filter_map : (p : Y → Bool) (q : X → Bool) → ((x : X) (y : Y) → h x ≡ Some y → p y ≡ q x) → (xs : List X) → filter p (filter_map h xs) ≡ filter_map h (filter q xs)
  filter-filter_map p q same [] = refl
  filter-filter_map p q same (x ∷ xs) = turn (h x) refl (q x) refl (filter-filter_map p q same xs)
    where
      turn : (o : Option Y) → h x ≡ o → (b : Bool) → q x ≡ b → filter p (filter_map h xs) ≡ filter_map h (filter q xs)
          → filter p (cons_option o (filter_map h xs)) ≡ filter_map h (cond b (x ∷ filter q xs) (filter q xs))
      turn None is true passes more = rw is more
      turn None is false passes more = more
      turn (Some y) is true passes more = let here : p y ≡ true = same x y is ∙ passes in rw (is, here) (ap (λ l. y ∷ l) more)
      turn (Some y) is false passes more = let here : p y ≡ false = same x y is ∙ passes in rw here more

  -- what is shown of the results, if there is one for each argument
  pub shown_for_each : {Z : Type 0} (f : Y → Z) (g : X → Z) (q : X → Bool) → ((x : X) → q x ≡ true → (y : Y) × (h x ≡ Some y) × (f y ≡ g x)) → (xs : List X) → map f (filter_map h (filter q xs)) ≡ map g (filter q xs)
  shown_for_each f g q each [] = refl
  shown_for_each f g q each (x ∷ xs) = turn (q x) refl (shown_for_each f g q each xs)
    where
      turn : (b : Bool) → q x ≡ b → map f (filter_map h (filter q xs)) ≡ map g (filter q xs) → map f (filter_map h (cond b (x ∷ filter q xs) (filter q xs))) ≡ map g (cond b (x ∷ filter q xs) (filter q xs))
      turn false is more = more
      turn true is more = let got = each x is in rw (got.1, got.2) (ap (λ l. g x ∷ l) more)
