-- Names are split into the parts that they were made of.
use Rattle.std.proofs.Common.{◌≡◌, ◌≢◌, ℕ, suc, ◌+◌, ◌-◌, ◌*◌, ◌/◌, ◌%◌, ◌<◌, ◌≤◌, Bool, true, false, cond, eqb, not, List, [], ◌∷◌, ◌++◌, length, take, drop, get_or, sym, refl, ap, ◌∙◌, subst, arith, zero-add, add-one, length-append, Option, Some, None}
use Rattle.std.specs.Prelude.{◌&&◌, decimal, option_map}
use Rattle.std.specs.Prelude.{nat_le}
use Rattle.std.specs.Char.{is_ascii_digit}
use Rattle.std.specs.Fmt.{digits}
use Rattle.std.specs.List.{list_all, list_any, before_last, after_last, range_with_len}
use Rattle.std.specs.Str.{bytes_eq}
use Rattle.std.proofs.Common.{inl, inr, reverse}
use Rattle.std.specs.List.{suffix_len}
use Rattle.std.proofs.lemmas.Bool.{eqb-true, and_parts, cases_lt, not-true, not-false}
use Rattle.std.proofs.lemmas.Fmt.{decimal_digit}
use Rattle.std.proofs.lemmas.List.{take-append-drop, drop_more, get_or-reverse, length-reverse}
use Rattle.std.proofs.lemmas.List.Sums.{prefix_len_passes, prefix_len_stops}
use Rattle.std.proofs.lemmas.List.Folds.{list_any_at, list_all_at}
use Rattle.std.proofs.lemmas.List.FromFn.{get_or-range_with_len, length-range_with_len}
use Rattle.std.proofs.lemmas.Slice.Eq.{bytes_eq-Decides}
use borrow.Author.Tests.{eq-eqb, leb-true}
use Rattle.sched_book.specs.Names.{instance_name, small_number}
use Rattle.sched_book.specs.Laws.{MadeNamesAreSplit, SplitNamesAreMade}
use Rattle.sched_book.proofs.SplitNames.{is_underscore, no_underscore, name_parts-at}

-- a test that holds of each number below n
below : (p : ℕ → Bool) (n k : ℕ) → list_all p (range_with_len 0 n) ≡ true → k < n → p k ≡ true
below p n k all within = cases (p k) refl
  where
    read : get_or (range_with_len 0 n) k 0 ≡ k
    read = get_or-range_with_len 0 n k 0 within ∙ zero-add k

    inside : k < length (range_with_len 0 n)
    inside = subst (λ m. k < m) (sym (length-range_with_len 0 n)) within

    cases : (b : Bool) → p k ≡ b → b ≡ true
    cases true is = refl
    cases false is =
        let fails : list_all p (range_with_len 0 n) ≡ false = list_all_at p (range_with_len 0 n) k 0 inside (ap p read ∙ is) in
        let never : true ≡ false = sym all ∙ fails in
        absurd cc

-- whether a text was read as this number
is_number : Option ℕ → ℕ → Bool
is_number None n = false
is_number (Some m) n = eqb m n

number_is : (o : Option ℕ) (n : ℕ) → is_number o n ≡ true → o ≡ Some n
unfolding is_number
number_is None n h = absurd cc
number_is (Some m) n h = ap (λ k. Some k) (eqb-true m n h)

-- the text of a number below 100 is read as that number, and has no underscore
reads_back : ℕ → Bool
reads_back n = not (list_any is_underscore (decimal n)) && is_number (small_number (decimal n)) n

all_read_back : list_all reads_back (range_with_len 0 100) ≡ true
unfolding digits reads_back is_number
all_read_back = refl

read_back : (n : ℕ) → n < 100 → (list_any is_underscore (decimal n) ≡ false) × (small_number (decimal n) ≡ Some n)
unfolding reads_back
read_back n small =
    let parts = and_parts (not (list_any is_underscore (decimal n))) (is_number (small_number (decimal n)) n) (below reads_back 100 n all_read_back small) in
    (not-true _ parts.0, number_is (small_number (decimal n)) n parts.1)

-- the elements before, at and after the middle of a list
at_middle : (xs : List ℕ) (y : ℕ) (zs : List ℕ) → get_or (xs ++ y ∷ zs) (length xs) 0 ≡ y
at_middle [] y zs = refl
at_middle (x ∷ xs) y zs = at_middle xs y zs

before_middle : (xs zs : List ℕ) → take (length xs) (xs ++ zs) ≡ xs
before_middle [] zs = refl
before_middle (x ∷ xs) zs = ap (λ ys. x ∷ ys) (before_middle xs zs)

after_middle : (xs : List ℕ) (y : ℕ) (zs : List ℕ) → drop (suc (length xs)) (xs ++ y ∷ zs) ≡ zs
after_middle [] y zs = refl
after_middle (x ∷ xs) y zs = after_middle xs y zs

none_among : (zs : List ℕ) → list_any is_underscore zs ≡ false → (k : ℕ) → k < length zs → get_or zs k 0 ≢ 95
none_among zs none k inside is =
    let some : list_any is_underscore zs ≡ true = list_any_at is_underscore zs k 0 inside (eq-eqb (get_or zs k 0) 95 is) in
    let never : true ≡ false = sym some ∙ none in
    absurd cc

pub made_names_are_split : MadeNamesAreSplit
made_names_are_split unit number small =
    let text = decimal number in
    let back = read_back number small in
    let rest : drop (length unit + 1) (unit ++ 95 ∷ text) ≡ text = ap (λ n. drop n (unit ++ 95 ∷ text)) (add-one (length unit)) ∙ after_middle unit 95 text in
    let clear : (k : ℕ) → k < length (drop (length unit + 1) (unit ++ 95 ∷ text)) → get_or (drop (length unit + 1) (unit ++ 95 ∷ text)) k 0 ≢ 95 =
    subst (λ zs. (k : ℕ) → k < length zs → get_or zs k 0 ≢ 95) (sym rest) (none_among text back.0) in
    name_parts-at (unit ++ 95 ∷ text) (length unit) (let long : length (unit ++ 95 ∷ text) ≡ length unit + length (95 ∷ text) = length-append unit (95 ∷ text) in omega arith)
    (at_middle unit 95 text) clear
    ∙ ap (λ xs. option_map (λ n. (xs, n)) (small_number (drop (length unit + 1) (unit ++ 95 ∷ text)))) (before_middle unit (95 ∷ text))
    ∙ ap (λ zs. option_map (λ n. (unit, n)) (small_number zs)) rest
    ∙ ap (option_map (λ n. (unit, n))) back.1

-- the two digits of a number from 10 to 99
two_digits : ℕ → Bool
two_digits k = bytes_eq (decimal (10 + k)) ((48 + (10 + k) / 10) ∷ (48 + (10 + k) % 10) ∷ [])

all_two_digits : list_all two_digits (range_with_len 0 90) ≡ true
unfolding digits two_digits
all_two_digits = refl

decimal-two : (a b : ℕ) → 1 ≤ a → a ≤ 9 → b ≤ 9 → decimal (10 * a + b) ≡ (48 + a) ∷ (48 + b) ∷ []
unfolding two_digits
decimal-two a b low high small =
    let k = 10 * a + b - 10 in
    let within : k < 90 = omega arith in
    let whole : 10 + k ≡ 10 * a + b = omega arith in
    let told : decimal (10 + k) ≡ (48 + (10 + k) / 10) ∷ (48 + (10 + k) % 10) ∷ [] =
    (bytes_eq-Decides (decimal (10 + k)) ((48 + (10 + k) / 10) ∷ (48 + (10 + k) % 10) ∷ [])).0 (below two_digits 90 k all_two_digits within) in
    let tens : (10 + k) / 10 ≡ a = omega arith in
    let ones : (10 + k) % 10 ≡ b = omega arith in
    sym (ap decimal whole) ∙ told ∙ ap (λ n. (48 + n) ∷ (48 + (10 + k) % 10) ∷ []) tens ∙ ap (λ n. (48 + a) ∷ (48 + n) ∷ []) ones

-- a text that is read as a small number is that number's text
abbrev IsTextOf : List ℕ → ℕ → Type 0
IsTextOf text n = (text ≡ decimal n) × (n < 100)

one_digit : (c n : ℕ) (b : Bool) → is_ascii_digit c ≡ b → cond b (Some (c - 48)) None ≡ Some n → IsTextOf (c ∷ []) n
one_digit c n true is told =
    let range = and_parts (nat_le 48 c) (nat_le c 57) is in
    let low : 48 ≤ c = leb-true 48 c range.0 in
    let high : c ≤ 57 = leb-true c 57 range.1 in
    let value : c - 48 ≡ n = cc in
    let small : n < 10 = omega arith in
    let whole : c ≡ 48 + n = omega arith in
    (ap (λ m. m ∷ []) whole ∙ sym (decimal_digit n small), omega arith)
one_digit c n false is told = absurd cc

two_read : (c d n : ℕ) (b : Bool) → (nat_le 49 c && is_ascii_digit c && is_ascii_digit d) ≡ b
    → cond b (Some (10 * (10 * 0 + (c - 48)) + (d - 48))) None ≡ Some n → IsTextOf (c ∷ d ∷ []) n
two_read c d n true is told =
    let parts = and_parts (nat_le 49 c && is_ascii_digit c) (is_ascii_digit d) is in
    let first = and_parts (nat_le 49 c) (is_ascii_digit c) parts.0 in
    let first_range = and_parts (nat_le 48 c) (nat_le c 57) first.1 in
    let second = and_parts (nat_le 48 d) (nat_le d 57) parts.1 in
    let low : 49 ≤ c = leb-true 49 c first.0 in
    let high : c ≤ 57 = leb-true c 57 first_range.1 in
    let low_ones : 48 ≤ d = leb-true 48 d second.0 in
    let high_ones : d ≤ 57 = leb-true d 57 second.1 in
    let value : 10 * (10 * 0 + (c - 48)) + (d - 48) ≡ n = cc in
    let whole : 10 * (c - 48) + (d - 48) ≡ n = omega arith in
    let tens : 48 + (c - 48) ≡ c = omega arith in
    let ones : 48 + (d - 48) ≡ d = omega arith in
    let text : decimal (10 * (c - 48) + (d - 48)) ≡ (48 + (c - 48)) ∷ (48 + (d - 48)) ∷ [] =
    decimal-two (c - 48) (d - 48) (omega arith) (omega arith) (omega arith) in
    (sym (sym (ap decimal whole) ∙ text ∙ ap (λ m. m ∷ (48 + (d - 48)) ∷ []) tens ∙ ap (λ m. c ∷ m ∷ []) ones), omega arith)
two_read c d n false is told = absurd cc

small_number_is : (text : List ℕ) (n : ℕ) → small_number text ≡ Some n → IsTextOf text n
small_number_is [] n told = absurd cc
small_number_is (c ∷ []) n told = one_digit c n (is_ascii_digit c) refl told
small_number_is (c ∷ d ∷ []) n told = two_read c d n (nat_le 49 c && is_ascii_digit c && is_ascii_digit d) refl told
small_number_is (c ∷ d ∷ e ∷ more) n told = absurd cc

-- a name with an underscore is what comes before the last one, the underscore, and what comes after it
split_by : (s : List ℕ) (r : ℕ) → r < length s → get_or s (length s - 1 - r) 0 ≡ 95 → s ≡ take (length s - r - 1) s ++ 95 ∷ drop (length s - r) s
split_by s r within is =
    let k = length s - r - 1 in
    let inside : k < length s = omega arith in
    let here : get_or s k 0 ≡ 95 = ap (λ n. get_or s n 0) (let same : length s - r - 1 ≡ length s - 1 - r = omega arith in same) ∙ is in
    let next : k + 1 ≡ length s - r = omega arith in
    sym (take-append-drop k s)
    ∙ ap (λ zs. take k s ++ zs) (drop_more s k 0 inside)
    ∙ ap (λ c. take k s ++ c ∷ drop (k + 1) s) here
    ∙ ap (λ n. take k s ++ 95 ∷ drop n s) next

around_last : (s : List ℕ) → list_any is_underscore s ≡ true → s ≡ before_last is_underscore s ++ 95 ∷ after_last is_underscore s
around_last s any = elim (cases_lt (suffix_len other s) (length s)) [
  | inl within ↦ split_by s (suffix_len other s) within (stop within)
  | inr past ↦ absurd (let never : true ≡ false = sym any ∙ no_underscore s (nowhere past) in cc)
]
  where
    other : ℕ → Bool
    other c = not (is_underscore c)

    stop : suffix_len other s < length s → get_or s (length s - 1 - suffix_len other s) 0 ≡ 95
    stop within =
        let fails : other (get_or (reverse s) (suffix_len other s) 0) ≡ false =
        prefix_len_stops other (reverse s) 0 (subst (λ m. suffix_len other s < m) (sym (length-reverse s)) within) in
        eqb-true _ 95 (not-false _ (ap other (sym (get_or-reverse s (suffix_len other s) 0 within)) ∙ fails))

    nowhere : length s ≤ suffix_len other s → (i : ℕ) → i < length s → get_or s i 0 ≢ 95
    nowhere past i inside is =
        let k = length s - 1 - i in
        let back : length s - 1 - k ≡ i = omega arith in
        let passes : other (get_or (reverse s) k 0) ≡ true = prefix_len_passes other (reverse s) k 0 (omega arith) in
        let read : get_or (reverse s) k 0 ≡ get_or s i 0 = get_or-reverse s k 0 (omega arith) ∙ ap (λ n. get_or s n 0) back in
        let never : true ≡ false = sym passes ∙ ap other (read ∙ is) in
        cc

pub split_names_are_made : SplitNamesAreMade
split_names_are_made name unit number told = cases (list_any is_underscore name) refl told
  where
    front : List ℕ
    front = before_last is_underscore name

    back : List ℕ
    back = after_last is_underscore name

    joined : list_any is_underscore name ≡ true → (o : Option ℕ) → small_number back ≡ o → option_map {U = List ℕ × ℕ} (λ n. (front, n)) o ≡ Some (unit, number)
        → (name ≡ instance_name unit number) × (number < 100)
    joined any None read is = absurd cc
    joined any (Some n) read is =
        let pair : ◌≡◌ {A = List ℕ × ℕ} (front, n) (unit, number) = cc in
        let same_unit : front ≡ unit = ap (λ x. x.0) pair in
        let same_number : n ≡ number = ap (λ x. x.1) pair in
        let text = small_number_is back number (read ∙ ap (λ m. Some m) same_number) in
        (around_last name any ∙ ap (λ xs. xs ++ 95 ∷ back) same_unit ∙ ap (λ zs. unit ++ 95 ∷ zs) text.0, text.1)

    cases : (b : Bool) → list_any is_underscore name ≡ b → cond b (option_map {U = List ℕ × ℕ} (λ n. (front, n)) (small_number back)) None ≡ Some (unit, number)
        → (name ≡ instance_name unit number) × (number < 100)
    cases true any is = joined any (small_number back) refl is
    cases false any is = absurd cc
