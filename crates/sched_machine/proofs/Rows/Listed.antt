-- Facts about each element of a list and about each two: by the element at each index, and after one element is changed.
use Rattle.std.proofs.Common.{◌≡◌, ℕ, zero, suc, ◌+◌, ◌-◌, ◌<◌, Bool, true, false, cond, eqb, List, [], ◌∷◌, map, get_or, All, AllPairs, Some, None, slice_get, option_map, sym, refl, ap, ◌∙◌, subst, arith}
use Rattle.std.specs.Prelude.{◌||◌}
use Rattle.std.specs.List.{list_any, position_from}
use Rattle.std.proofs.lemmas.List.Elements.{All-cons, All-head, All-tail}
use Rattle.std.proofs.lemmas.List.Kept.{AllPairs-cons}
use Rattle.std.proofs.lemmas.Option.{slice_get-get_or, slice_get_within, get_or_from_slice_get, slice_get-map}
use Rattle.std.proofs.lemmas.Bool.{or_parts}
use Rattle.sched_book.specs.Places.{nth, place_where}
use Rattle.sched_book.specs.Reports.{modify_at, modify_nth}
use Rattle.sched_book.proofs.PlacesOf.{nth-suc, place_where-is, found_from, FoundFrom}
use Rattle.sched_book.proofs.ByPlace.{all_get}
use Rattle.sched_book.proofs.Rising.{pairs_head, pairs_tail}
use Rattle.sched_machine.proofs.OptionParts.{mapped_by}

-- a fact about each element, and about each two, by index
pub all_from : {X : Type 0} (P : X → Type 0) (xs : List X) → ((i : ℕ) (x : X) → slice_get xs i ≡ Some x → P x) → All P xs
all_from P xs each k d within = each k (get_or xs k d) (slice_get-get_or xs k d within)

pub pairs_from : {X : Type 0} (R : X → X → Type 0) (xs : List X)
    → ((i j : ℕ) (x y : X) → i < j → slice_get xs i ≡ Some x → slice_get xs j ≡ Some y → R x y) → AllPairs R xs
pairs_from R xs each i j d less within =
    each i j (get_or xs i d) (get_or xs j d) less (slice_get-get_or xs i d (omega arith)) (slice_get-get_or xs j d within)

pub pairs_get : {X : Type 0} (R : X → X → Type 0) (xs : List X) (i j : ℕ) (x y : X) → AllPairs R xs → i < j
    → slice_get xs i ≡ Some x → slice_get xs j ≡ Some y → R x y
pairs_get R xs i j x y all less here there =
    let first : get_or xs i x ≡ x = get_or_from_slice_get xs i x x here in
    let second : get_or xs j x ≡ y = get_or_from_slice_get xs j y x there in
    subst (λ z. R z y) first (subst (R (get_or xs i x)) second (all i j x less (slice_get_within xs j y there)))

-- the same under a function
pub pairs_map : {X Y : Type 0} (f : X → Y) (R : Y → Y → Type 0) (xs : List X) → AllPairs (λ a b. R (f a) (f b)) xs → AllPairs R (map f xs)
pairs_map f R xs all =
    pairs_from R (map f xs) (λ i j x y less here there.
    let a = mapped_by f (slice_get xs i) x (sym (slice_get-map f xs i) ∙ here) in
    let b = mapped_by f (slice_get xs j) y (sym (slice_get-map f xs j) ∙ there) in
    subst (λ z. R z y) a.2 (subst (R (f a.0)) b.2 (pairs_get (λ c d. R (f c) (f d)) xs i j a.0 b.0 all less a.1 b.1)))

pub pairs_of_map : {X Y : Type 0} (f : X → Y) (R : Y → Y → Type 0) (xs : List X) → AllPairs R (map f xs) → AllPairs (λ a b. R (f a) (f b)) xs
pairs_of_map f R xs all =
    pairs_from (λ a b. R (f a) (f b)) xs (λ i j x y less here there. pairs_get R (map f xs) i j (f x) (f y) all less
    (slice_get-map f xs i ∙ ap (option_map f) here) (slice_get-map f xs j ∙ ap (option_map f) there))

-- after one element is changed, if the change keeps the fact
pub all_changed : {X : Type 0} (P : X → Type 0) (f : X → X) (xs : List X) (n : ℕ) → All P xs
    → ((x : X) → slice_get xs n ≡ Some x → P x → P (f x)) → All P (modify_at f xs n)
all_changed P f [] n all keeps = all
all_changed P f (x ∷ xs) zero all keeps = All-cons P (f x) xs (keeps x refl (All-head P x xs all)) (All-tail P x xs all)
all_changed P f (x ∷ xs) (suc n) all keeps =
    All-cons P x (modify_at f xs n) (All-head P x xs all) (all_changed P f xs n (All-tail P x xs all) keeps)

pub pairs_changed : {X : Type 0} (R : X → X → Type 0) (f : X → X) (xs : List X) (n : ℕ) → AllPairs R xs
    → ((x : X) → slice_get xs n ≡ Some x → (k : ℕ) (z : X) → slice_get xs k ≡ Some z → (R z x → R z (f x)) × (R x z → R (f x) z))
    → AllPairs R (modify_at f xs n)
pairs_changed R f [] n all keeps = all
pairs_changed R f (x ∷ xs) zero all keeps =
    AllPairs-cons R (f x) xs
    (all_from (R (f x)) xs (λ i z there. (keeps x refl (suc i) z there).1 (all_get (R x) xs i z (pairs_head R x xs all) there)))
    (pairs_tail R x xs all)
pairs_changed R f (x ∷ xs) (suc n) all keeps =
    AllPairs-cons R x (modify_at f xs n)
    (all_changed (R x) f xs n (pairs_head R x xs all) (λ y is before. (keeps y is zero x refl).0 before))
    (pairs_changed R f xs n (pairs_tail R x xs all) (λ y is k z there. keeps y is (suc k) z there))

pub all_changed_nth : {X : Type 0} (P : X → Type 0) (f : X → X) (xs : List X) (n : ℕ) → All P xs
    → ((x : X) → nth xs n ≡ Some x → P x → P (f x)) → All P (modify_nth f xs n)
all_changed_nth {X} P f xs n all keeps = cases (eqb n 0) keeps
  where
    cases : (b : Bool) → ((x : X) → cond b None (slice_get xs (n - 1)) ≡ Some x → P x → P (f x)) → All P (cond b xs (modify_at f xs (n - 1)))
    cases true keeps = all
    cases false keeps = all_changed P f xs (n - 1) all keeps

pub pairs_changed_nth : {X : Type 0} (R : X → X → Type 0) (f : X → X) (xs : List X) (n : ℕ) → AllPairs R xs
    → ((x : X) → nth xs n ≡ Some x → (z : X) → (R z x → R z (f x)) × (R x z → R (f x) z)) → AllPairs R (modify_nth f xs n)
pairs_changed_nth {X} R f xs n all keeps = cases (eqb n 0) keeps
  where
    cases : (b : Bool) → ((x : X) → cond b None (slice_get xs (n - 1)) ≡ Some x → (z : X) → (R z x → R z (f x)) × (R x z → R (f x) z))
        → AllPairs R (cond b xs (modify_at f xs (n - 1)))
    cases true keeps = all
    cases false keeps = pairs_changed R f xs (n - 1) all (λ x is k z there. keeps x is z)

-- a change that does not affect the test does not change whether any passes
pub any_changed : {X : Type 0} (p : X → Bool) (f : X → X) (xs : List X) (n : ℕ) → ((x : X) → slice_get xs n ≡ Some x → p (f x) ≡ p x)
    → list_any p (modify_at f xs n) ≡ list_any p xs
any_changed p f [] n same = refl
any_changed p f (x ∷ xs) zero same = ap (λ b. b || list_any p xs) (same x refl)
any_changed p f (x ∷ xs) (suc n) same = ap (λ b. p x || b) (any_changed p f xs n same)

-- if no element passes, each fails
pub none_any : {X : Type 0} (p : X → Bool) (xs : List X) → list_any p xs ≡ false → (i : ℕ) (x : X) → slice_get xs i ≡ Some x → p x ≡ false
none_any p [] none i x there = absurd cc
none_any p (y ∷ ys) none zero x there = let same : y ≡ x = cc in ap p (sym same) ∙ (or_parts (p y) (list_any p ys) none).0
none_any p (y ∷ ys) none (suc i) x there = none_any p ys (or_parts (p y) (list_any p ys) none).1 i x there

pub place_found : {X : Type 0} (p : X → Bool) (xs : List X) (n : ℕ) → place_where p xs ≡ Some n → (x : X) × (nth xs n ≡ Some x) × (p x ≡ true)
place_found p xs n is =
    let found : FoundFrom p 1 xs n = found_from p 1 xs n (sym (place_where-is p xs) ∙ is) in
    let same : n ≡ suc found.0 = omega (arith, found.2) in
    (found.1, ap (nth xs) same ∙ nth-suc xs found.0 ∙ found.3, found.4)

missing_from : {X : Type 0} (p : X → Bool) (m : ℕ) (xs : List X) → position_from p m xs ≡ None → (i : ℕ) (x : X) → slice_get xs i ≡ Some x → p x ≡ false
missing_from p m [] none i x there = absurd cc
missing_from p m (y ∷ ys) none i x there = cases (p y) refl none i there (missing_from p (m + 1) ys)
  where
    cases : (b : Bool) → p y ≡ b → cond b (Some m) (position_from p (m + 1) ys) ≡ None → (i : ℕ) → slice_get (y ∷ ys) i ≡ Some x
        → (position_from p (m + 1) ys ≡ None → (j : ℕ) (z : _) → slice_get ys j ≡ Some z → p z ≡ false) → p x ≡ false
    cases true is none i there later = absurd cc
    cases false is none zero there later = let same : y ≡ x = cc in ap p (sym same) ∙ is
    cases false is none (suc i) there later = later none i x there

pub place_missing : {X : Type 0} (p : X → Bool) (xs : List X) → place_where p xs ≡ None → (i : ℕ) (x : X) → slice_get xs i ≡ Some x → p x ≡ false
place_missing p xs none = missing_from p 1 xs (sym (place_where-is p xs) ∙ none)
