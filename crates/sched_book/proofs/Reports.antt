-- The good reports of a workunit, and the leader of their shortest front, by the steps of a loop.
use Rattle.std.proofs.Common.{◌≡◌, ℕ, ◌+◌, ◌<◌, ◌≤◌, Bool, true, false, cond, List, [], ◌∷◌, length, take, drop, get_or, Option, sym, refl, ap, ◌∙◌, arith}
use Rattle.std.specs.Prelude.{count_by, fold, is_some, nat_le}
use Rattle.std.specs.List.{prefix_len}
use Rattle.std.proofs.lemmas.List.Edits.{length-insert}
use Rattle.std.proofs.lemmas.List.Sums.{sum_by-cons, prefix_len-le-length}
use Rattle.std.proofs.lemmas.List.{drop_all, drop_more, take_more, take_all}
use Rattle.sched_book.specs.Count.{tells_success, place_of, numbers_from, put_by, good, leader, first_leader}
use Rattle.sched_book.specs.declared.instance.Instance.{Instance}
use Rattle.sched_book.specs.declared.rows.Agreement.{Agreement}

-- the good reports, if those below i were inserted already
unfoldable pub put_from : List Instance → List ℕ → ℕ → List ℕ
put_from xs reports i = fold (put_by (place_of xs)) reports (numbers_from i (λ x. tells_success x.report) (drop i xs))

pub put_from-none : (xs : List Instance) → put_from xs [] 0 ≡ good xs
unfolding put_from
put_from-none xs = refl

put_step : (xs : List Instance) (reports : List ℕ) (i : ℕ) (x : Instance) → i < length xs → x ≡ get_or xs i x
    → put_from xs reports i
    ≡ fold (put_by (place_of xs)) reports (numbers_from i (λ x. tells_success x.report) (x ∷ drop (i + 1) xs))
unfolding put_from
put_step xs reports i x within is =
    ap (λ ys. fold (put_by (place_of xs)) reports (numbers_from i (λ x. tells_success x.report) ys))
    (drop_more xs i x within ∙ ap (λ y. y ∷ drop (i + 1) xs) (sym is))

pub put_from-success : (xs : List Instance) (reports : List ℕ) (i : ℕ) (x : Instance) → i < length xs → x ≡ get_or xs i x
    → tells_success x.report ≡ true → put_from xs reports i ≡ put_from xs (put_by (place_of xs) reports i) (i + 1)
unfolding put_from
put_from-success xs reports i x within is success =
    let rest = numbers_from (i + 1) (λ x. tells_success x.report) (drop (i + 1) xs) in
    put_step xs reports i x within is
    ∙ ap (λ (b : Bool). fold (put_by (place_of xs)) reports (cond b (i ∷ rest) rest)) success

pub put_from-other : (xs : List Instance) (reports : List ℕ) (i : ℕ) (x : Instance) → i < length xs → x ≡ get_or xs i x
    → tells_success x.report ≡ false → put_from xs reports i ≡ put_from xs reports (i + 1)
unfolding put_from
put_from-other xs reports i x within is other =
    let rest = numbers_from (i + 1) (λ x. tells_success x.report) (drop (i + 1) xs) in
    put_step xs reports i x within is
    ∙ ap (λ (b : Bool). fold (put_by (place_of xs)) reports (cond b (i ∷ rest) rest)) other

pub put_from-all : (xs : List Instance) (reports : List ℕ) (i : ℕ) → length xs ≤ i → put_from xs reports i ≡ reports
unfolding put_from
put_from-all xs reports i past =
    ap (λ ys. fold (put_by (place_of xs)) reports (numbers_from i (λ x. tells_success x.report) ys)) (drop_all i xs past)

-- the leader of the shortest front that has one, among fronts at least k long
unfoldable pub leader_from : Agreement → List Instance → ℕ → List ℕ → ℕ → Option ℕ
leader_from a xs enough reports k = first_leader a xs enough (take k reports) (drop k reports)

pub leader_from-is : (a : Agreement) (xs : List Instance) (enough : ℕ) (reports : List ℕ) (k : ℕ)
    → leader_from a xs enough reports k ≡ first_leader a xs enough (take k reports) (drop k reports)
unfolding leader_from
leader_from-is a xs enough reports k = refl

leader_step : (a : Agreement) (xs : List Instance) (enough : ℕ) (reports : List ℕ) (k : ℕ) → k < length reports
    → leader_from a xs enough reports k
    ≡ cond (is_some (leader a xs enough (take k reports))) (leader a xs enough (take k reports)) (leader_from a xs enough reports (k + 1))
unfolding leader_from
leader_step a xs enough reports k within =
    let front = take k reports in
    ap (first_leader a xs enough front) (drop_more reports k 0 within)
    ∙ ap (λ longer. cond (is_some (leader a xs enough front)) (leader a xs enough front) (first_leader a xs enough longer (drop (k + 1) reports)))
    (sym (take_more reports k 0 within))

pub leader_from-here : (a : Agreement) (xs : List Instance) (enough : ℕ) (reports : List ℕ) (k : ℕ) → k < length reports
    → is_some (leader a xs enough (take k reports)) ≡ true
    → leader_from a xs enough reports k ≡ leader a xs enough (take k reports)
leader_from-here a xs enough reports k within found =
    leader_step a xs enough reports k within
    ∙ ap (λ (b : Bool). cond b (leader a xs enough (take k reports)) (leader_from a xs enough reports (k + 1))) found

pub leader_from-later : (a : Agreement) (xs : List Instance) (enough : ℕ) (reports : List ℕ) (k : ℕ) → k < length reports
    → is_some (leader a xs enough (take k reports)) ≡ false
    → leader_from a xs enough reports k ≡ leader_from a xs enough reports (k + 1)
leader_from-later a xs enough reports k within none =
    leader_step a xs enough reports k within
    ∙ ap (λ (b : Bool). cond b (leader a xs enough (take k reports)) (leader_from a xs enough reports (k + 1))) none

pub leader_from-last : (a : Agreement) (xs : List Instance) (enough : ℕ) (reports : List ℕ) (k : ℕ) → length reports ≤ k
    → leader_from a xs enough reports k ≡ leader a xs enough reports
unfolding leader_from
leader_from-last a xs enough reports k past =
    ap (first_leader a xs enough (take k reports)) (drop_all k reports past) ∙ ap (leader a xs enough) (take_all k reports past)

-- there are as many good reports as judged successes
length_numbers : (n : ℕ) (p : Instance → Bool) (xs : List Instance) → length (numbers_from n p xs) ≡ count_by p xs
length_numbers n p [] = refl
length_numbers n p (x ∷ xs) = cases (p x) (length_numbers (n + 1) p xs) ∙ sym (sum_by-cons (λ y. cond {A = ℕ} (p y) 1 0) x xs)
  where
    cases : (b : Bool) → length (numbers_from (n + 1) p xs) ≡ count_by p xs
        → length (cond b (n ∷ numbers_from (n + 1) p xs) (numbers_from (n + 1) p xs)) ≡ cond {A = ℕ} b 1 0 + count_by p xs
    cases true rest = omega arith
    cases false rest = omega arith

length_put : (key : ℕ → ℕ) (is ns : List ℕ) → length (fold (put_by key) is ns) ≡ length is + length ns
length_put key is [] = omega arith
length_put key is (n ∷ ns) =
    let front : ℕ = prefix_len (λ j. nat_le (key j) (key n)) is in
    let rest : length (fold (put_by key) (put_by key is n) ns) ≡ length (put_by key is n) + length ns = length_put key (put_by key is n) ns in
    let one : length (put_by key is n) ≡ length is + 1 = length-insert is front n (prefix_len-le-length (λ j. nat_le (key j) (key n)) is) in
    omega arith

pub length_good : (xs : List Instance) → length (good xs) ≡ count_by (λ x. tells_success x.report) xs
length_good xs =
    let put : length (good xs) ≡ length (numbers_from 0 (λ x. tells_success x.report) xs) =
    (let whole : length (good xs) ≡ 0 + length (numbers_from 0 (λ x. tells_success x.report) xs) =
    length_put (place_of xs) [] (numbers_from 0 (λ x. tells_success x.report) xs) in omega arith) in
    put ∙ length_numbers 0 (λ x. tells_success x.report) xs

-- for the loop that puts the good reports in order
pub ruleset put_steps = (put_from-none, put_from-success, put_from-other, put_from-all)
