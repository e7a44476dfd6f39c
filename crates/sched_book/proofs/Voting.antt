-- What ballots say of good reports: their votes, and which report leads.
use Rattle.std.proofs.Common.{◌≡◌, ◌⊎◌, inl, inr, ⊎_elim, true≢false, ℕ, ◌+◌, ◌<◌, ◌≤◌, Bool, true, false, cond, List, [], ◌∷◌, ◌++◌, length, take, drop, map, get_or, Option, None, Some, sym, refl, ap, ◌∙◌, arith}
use Rattle.std.specs.Prelude.{◌==◌, ◌||◌, ℤ, pos, ◌-ℤ◌, nat_abs, count_by, fold, find, max, nat_le, option_map, is_some}
use Rattle.std.specs.Bool.{one_answer}
use Rattle.std.specs.Int.{from_bool}
use Rattle.std.specs.List.{All}
use Rattle.std.specs.Str.{bytes_eq}
use Rattle.std.proofs.lemmas.Bool.{lt-leb}
use Rattle.std.proofs.lemmas.Bool.Decides.{Decides-eqb}
use Rattle.std.proofs.lemmas.List.{get_or-append-add, get_or-drop, length-map, length-take, map_more, take_all}
use Rattle.std.proofs.lemmas.List.Elements.{All-head, All-tail, All-same, All-map}
use Rattle.std.proofs.lemmas.List.Folds.{fold-map}
use Rattle.std.proofs.lemmas.List.Sums.{fold_push, sum_by-cons, sum_by_more, count_by-le-length}
use Rattle.std.proofs.lemmas.Simd.{map-map}
use Rattle.std.proofs.lemmas.Int.{ints}
use Rattle.std.proofs.lemmas.Option.{none-some}
use Rattle.std.proofs.lemmas.Slice.Eq.{bytes_eq-Decides}
use borrow.Author.Tests.{le-leb}
use Rattle.sched_book.specs.Alike.{first_alike}
use Rattle.sched_book.specs.Ballots.{stands_for, agree_by, agrees_with, ballot_of, voted, ballots_at, most_votes, leader_by}
use Rattle.sched_book.specs.Count.{agree, output_of, votes, leader, first_leader}
use Rattle.sched_book.specs.Limits.{distance_of}
use Rattle.sched_book.specs.Near.{number_in}
use Rattle.sched_book.proofs.FirstAlike.{first_alike-has, same_first}
use Rattle.sched_book.proofs.Reports.{leader_from, leader_from-is, leader_from-here, leader_from-later, leader_from-last}
use Rattle.sched_book.specs.WholeNumbers.{whole_number, are_within}
use Rattle.sched_book.specs.declared.ballots.Ballot.{Ballot}
use Rattle.sched_book.specs.declared.instance.Instance.{Instance}
use Rattle.sched_book.specs.declared.rows.Agreement.{Agreement}
use Rattle.sched_book.specs.declared.rows.Agreement.TheVariants.{Exact, Within}

-- what stands for a ballot past the last
abbrev pub unset : Ballot
unset = record { number = 0; first = 0; value = None; votes = 0 }

as_cond : (b : Bool) → from_bool b ≡ cond {A = ℕ} b 1 0
as_cond true = refl
as_cond false = refl

-- equal numbers are within any distance
pub near : (d : ℕ) (m : ℤ) → are_within d (Some m) (Some m) ≡ true
near d m =
    let none : m -ℤ m ≡ pos 0 = omega (arith, ints) in
    ap (λ z. nat_le (nat_abs z) d) none ∙ le-leb 0 d (omega arith)

-- texts are compared as the reports that stand for them
agree_is : (a : Agreement) (x y : List ℕ) (i j : ℕ) → ((number_in a x ≡ None) ⊎ (number_in a y ≡ None) → (i == j) ≡ bytes_eq x y)
    → agree_by (distance_of a) i (number_in a x) j (number_in a y) ≡ agree a x y
agree_is Exact x y i j texts = texts (inl refl)
agree_is (Within d) x y i j texts = cases (whole_number x) (whole_number y) (bytes_eq x y) refl refl refl
  where
    cases : (m n : Option ℤ) (same : Bool) → whole_number x ≡ m → whole_number y ≡ n → bytes_eq x y ≡ same
        → agree_by d i m j n ≡ bytes_eq x y || are_within d m n
    cases None n false left right is = texts (inl left) ∙ is ∙ sym (ap (λ (b : Bool). b || false) is)
    cases None n true left right is = texts (inl left) ∙ is ∙ sym (ap (λ (b : Bool). b || false) is)
    cases (Some m) None false left right is = texts (inr right) ∙ is ∙ sym (ap (λ (b : Bool). b || false) is)
    cases (Some m) None true left right is = texts (inr right) ∙ is ∙ sym (ap (λ (b : Bool). b || false) is)
    cases (Some m) (Some n) false left right is = sym (ap (λ (b : Bool). b || are_within d (Some m) (Some n)) is)
    cases (Some m) (Some n) true left right is =
        let texts : x ≡ y = (bytes_eq-Decides x y).0 is in
        let both : Some m ≡ Some n = sym left ∙ ap whole_number texts ∙ right in
        ap (λ o. are_within d (Some m) o) (sym both) ∙ near d m ∙ sym (ap (λ (b : Bool). b || are_within d (Some m) (Some n)) is)

-- ---- Agreement is symmetric, and each output agrees with itself

same_texts : (x y : List ℕ) → bytes_eq x y ≡ bytes_eq y x
same_texts x y =
    one_answer (bytes_eq x y) (bytes_eq y x) (bytes_eq-Decides x y)
    (λ same. sym ((bytes_eq-Decides y x).0 same), λ same. (bytes_eq-Decides y x).1 (sym same))

same_distance : (d : ℕ) (m n : Option ℤ) → are_within d m n ≡ are_within d n m
same_distance d None None = refl
same_distance d None (Some n) = refl
same_distance d (Some m) None = refl
same_distance d (Some m) (Some n) =
    let apart : nat_abs (m -ℤ n) ≡ nat_abs (n -ℤ m) = omega (arith, ints) in
    ap (λ z. nat_le z d) apart

agrees_back : (a : Agreement) (x y : List ℕ) → agree a x y ≡ agree a y x
agrees_back Exact x y = same_texts x y
agrees_back (Within d) x y =
    ap (λ (b : Bool). b || are_within d (whole_number x) (whole_number y)) (same_texts x y)
    ∙ ap (λ (b : Bool). bytes_eq y x || b) (same_distance d (whole_number x) (whole_number y))

agrees_itself : (a : Agreement) (x : List ℕ) → agree a x x ≡ true
agrees_itself Exact x = (bytes_eq-Decides x x).1 refl
agrees_itself (Within d) x = ap (λ (b : Bool). b || are_within d (whole_number x) (whole_number x)) ((bytes_eq-Decides x x).1 refl)

-- ---- A loop that counts one vote

-- the most votes, once a ballot was added
pub most_adds : (ballots : List Ballot) (last : Ballot) (most : ℕ) → most ≡ most_votes ballots → max most last.votes ≡ most_votes (ballots ++ last ∷ [])
most_adds ballots last most is =
    ap (λ m. max m last.votes) is ∙ sym (fold_push (λ (m : ℕ) (b : Ballot). max m b.votes) 0 ballots last)

module _ (d : ℕ) (voter : Ballot) (ballots now : List Ballot) (i : ℕ) (within : i < length ballots)
    (counted : now ≡ map (voted d voter) (take i ballots) ++ drop i ballots) (before : Ballot) (at : before ≡ get_or now i before) where
  -- the next ballot is as it was
  untouched : before ≡ get_or ballots i before
  untouched =
      let front = map (voted d voter) (take i ballots) in
      let long : length front ≡ i = length-map (take i ballots) (voted d voter) ∙ omega (arith, length-take i ballots) in
      let place : i ≡ length front + 0 = omega (arith, long) in
      let rest : i + 0 ≡ i = omega arith in
      at
      ∙ ap (λ l. get_or l i before) counted
      ∙ ap (λ k. get_or (front ++ drop i ballots) k before) place
      ∙ get_or-append-add front (drop i ballots) 0 before
      ∙ get_or-drop i ballots 0 before
      ∙ ap (λ k. get_or ballots k before) rest

  pub one_more_agrees : (agreed : ℕ) (agree_too : Bool) → agreed ≡ count_by (agrees_with d voter) (take i ballots)
      → agree_too ≡ agrees_with d voter before → agreed + from_bool agree_too ≡ count_by (agrees_with d voter) (take (i + 1) ballots)
  one_more_agrees agreed agree_too so_far is =
      ap (λ n. n + from_bool agree_too) so_far
      ∙ ap (λ n. count_by (agrees_with d voter) (take i ballots) + n)
      (as_cond agree_too ∙ ap (λ (b : Bool). cond {A = ℕ} b 1 0) (is ∙ ap (agrees_with d voter) untouched))
      ∙ sym (sum_by_more (λ b. cond (agrees_with d voter b) 1 0) ballots i before within)

  pub most_so_far : (most : ℕ) (after : Ballot) → most ≡ most_votes (map (voted d voter) (take i ballots)) → after ≡ voted d voter before
      → max most after.votes ≡ most_votes (map (voted d voter) (take (i + 1) ballots))
  most_so_far most after so_far is =
      most_adds (map (voted d voter) (take i ballots)) after most so_far
      ∙ ap (λ b. most_votes (map (voted d voter) (take i ballots) ++ b ∷ [])) (is ∙ ap (voted d voter) untouched)
      ∙ ap most_votes (sym (map_more (voted d voter) ballots i before within))

-- ---- Which report stands for one

module _ (a : Agreement) (xs : List Instance) (reports : List ℕ) where
  standing : (i : ℕ) (o : Option ℤ) → number_in a (output_of xs i) ≡ o → stands_for a xs reports i ≡ cond (is_some o) i (first_alike xs reports i)
  standing i o is = ap (λ v. cond (is_some v) i (first_alike xs reports i)) is

  -- reports whose outputs differ are two
  two : (i j : ℕ) (x y : List ℕ) → output_of xs i ≡ x → output_of xs j ≡ y → bytes_eq x y ≡ false → (i == j) ≡ bytes_eq x y
  two i j x y left right differ =
      one_answer (i == j) (bytes_eq x y) (Decides-eqb i j) (
        λ same. absurd (true≢false (sym same ∙ differ)),
        λ same. (bytes_eq-Decides x y).1 (sym left ∙ ap (output_of xs) same ∙ right),
      )

  -- a text and a whole number differ
  no_number : (x y : List ℕ) (m : ℤ) → number_in a x ≡ None → number_in a y ≡ Some m → bytes_eq x y ≡ false
  no_number x y m left right = cases (bytes_eq x y) refl
    where
      cases : (b : Bool) → bytes_eq x y ≡ b → b ≡ false
      cases false is = refl
      cases true is = absurd (none-some m (sym left ∙ ap (number_in a) ((bytes_eq-Decides x y).0 is) ∙ right))

  -- outputs are compared by the reports that stand for them, if one of the two is compared as a text
  pub same_standing : (n i v : ℕ) → n < length reports → v ≡ get_or reports n 0
      → (number_in a (output_of xs i) ≡ None) ⊎ (number_in a (output_of xs v) ≡ None)
      → (stands_for a xs reports i == stands_for a xs reports v) ≡ bytes_eq (output_of xs i) (output_of xs v)
  same_standing n i v within at one = cases (number_in a (output_of xs i)) (number_in a (output_of xs v)) refl refl one
    where
      both : (o p : Option ℤ) → number_in a (output_of xs i) ≡ o → number_in a (output_of xs v) ≡ p
          → (stands_for a xs reports i == stands_for a xs reports v)
          ≡ (cond (is_some o) i (first_alike xs reports i) == cond (is_some p) v (first_alike xs reports v))
      both o p left right = λ t. standing i o left t == standing v p right t

      cases : (o p : Option ℤ) → number_in a (output_of xs i) ≡ o → number_in a (output_of xs v) ≡ p → (o ≡ None) ⊎ (p ≡ None)
          → (stands_for a xs reports i == stands_for a xs reports v) ≡ bytes_eq (output_of xs i) (output_of xs v)
      cases None None left right one = both None None left right ∙ same_first xs reports n i v within at
      cases None (Some m) left right one =
          both None (Some m) left right
          ∙ two (first_alike xs reports i) v (output_of xs i) (output_of xs v) (first_alike-has xs reports i) refl
          (no_number (output_of xs i) (output_of xs v) m left right)
      cases (Some m) None left right one =
          both (Some m) None left right
          ∙ two i (first_alike xs reports v) (output_of xs i) (output_of xs v) refl (first_alike-has xs reports v)
          (same_texts (output_of xs i) (output_of xs v) ∙ no_number (output_of xs v) (output_of xs i) m right left)
      cases (Some m) (Some k) left right one = ⊎_elim (λ is. absurd (none-some m (sym is))) (λ is. absurd (none-some k (sym is))) one

-- ---- One more report joins

-- no report has more votes than there are reports
pub votes_are_few : (a : Agreement) (xs : List Instance) (reports : List ℕ) (n most : ℕ) (ballots : List Ballot) → length reports ≤ most
    → ballots ≡ ballots_at a xs reports n → All (λ (b : Ballot). b.votes ≤ most) ballots
votes_are_few a xs reports n most ballots few counted =
    let front = take n reports in
    let front_length = length-take n reports in
    All-same (λ (b : Ballot). b.votes ≤ most) ballots (ballots_at a xs reports n) counted
    (All-map (λ (b : Ballot). b.votes ≤ most) (ballot_of a xs reports (votes a xs front)) front
    (λ k i within. let counts = count_by-le-length (λ j. agree a (output_of xs (get_or front k i)) (output_of xs j)) front in omega (arith, counts, front_length, few)))

module _ (a : Agreement) (xs : List Instance) (reports : List ℕ) (n : ℕ) (within : n < length reports) where
  -- the report that joins, and its ballot with so many votes
  abbrev joining : ℕ
  joining = get_or reports n 0

  abbrev pub joining_ballot : ℕ → Ballot
  joining_ballot votes_now = ballot_of a xs reports (λ i. votes_now) joining

  texts : (i : ℕ)
      → agree_by (distance_of a) (stands_for a xs reports i) (number_in a (output_of xs i)) (stands_for a xs reports joining) (number_in a (output_of xs joining))
      ≡ agree a (output_of xs i) (output_of xs joining)
  texts i =
      agree_is a (output_of xs i) (output_of xs joining) (stands_for a xs reports i) (stands_for a xs reports joining)
      (same_standing a xs reports n i joining within refl)

  -- one more voter
  step : (own i : ℕ) → voted (distance_of a) (joining_ballot own) (ballot_of a xs reports (votes a xs (take n reports)) i) ≡ ballot_of a xs reports (votes a xs (take (n + 1) reports)) i
  step own i =
      ap (λ more. ballot_of a xs reports (λ k. more) i)
      (ap (λ (b : Bool). votes a xs (take n reports) i + from_bool b) (texts i)
      ∙ ap (λ more. votes a xs (take n reports) i + more) (as_cond (agree a (output_of xs i) (output_of xs joining)))
      ∙ sym (sum_by_more (λ j. cond (agree a (output_of xs i) (output_of xs j)) 1 0) reports n 0 within))

  -- the votes of the one that joins
  own_votes : (own : ℕ)
      → count_by (agrees_with (distance_of a) (joining_ballot own)) (ballots_at a xs reports n) + 1
      ≡ votes a xs (take (n + 1) reports) joining
  own_votes own =
      ap (λ agreed. agreed + 1)
      (fold-map _ (ballot_of a xs reports (votes a xs (take n reports))) 0 (take n reports)
      ∙ ap (λ (p : ℕ → Bool). count_by p (take n reports)) (λ t i. (texts i ∙ agrees_back a (output_of xs i) (output_of xs joining)) t))
      ∙ ap (λ (b : Bool). votes a xs (take n reports) joining + cond b 1 0) (sym (agrees_itself a (output_of xs joining)))
      ∙ sym (sum_by_more (λ j. cond (agree a (output_of xs joining) (output_of xs j)) 1 0) reports n 0 within)

  -- the ballots, once it has joined
  pub voters_add : (own agreed : ℕ) (ballots after : List Ballot) → ballots ≡ ballots_at a xs reports n
      → after ≡ map (voted (distance_of a) (joining_ballot own)) ballots → agreed ≡ count_by (agrees_with (distance_of a) (joining_ballot own)) ballots
      → after ++ joining_ballot (1 + agreed) ∷ [] ≡ ballots_at a xs reports (n + 1)
  voters_add own agreed ballots after before vote counted =
      let front = take n reports in
      let later = ballot_of a xs reports (votes a xs (take (n + 1) reports)) in
      let others : after ≡ map later front =
      vote
      ∙ ap (map (voted (distance_of a) (joining_ballot own))) before
      ∙ map-map (voted (distance_of a) (joining_ballot own)) (ballot_of a xs reports (votes a xs front)) front
      ∙ ap (λ (f : ℕ → Ballot). map f front) (λ t i. step own i t) in
      let count = counted ∙ ap (count_by (agrees_with (distance_of a) (joining_ballot own))) before in
      let total : 1 + agreed ≡ votes a xs (take (n + 1) reports) joining = omega (arith, count, own_votes own) in
      ap (λ l. l ++ joining_ballot (1 + agreed) ∷ []) others
      ∙ ap (λ more. map later front ++ joining_ballot more ∷ []) total
      ∙ sym (map_more later reports n 0 within)

  -- the same of a ballot whose parts are given
  pub ballot_joins : (distance first : ℕ) (value : Option ℤ) → distance ≡ distance_of a → first ≡ stands_for a xs reports joining → value ≡ number_in a (output_of xs joining)
      → (agreed : ℕ) (ballots after : List Ballot) → ballots ≡ ballots_at a xs reports n
      → after ≡ map (voted distance (record { number = joining; first = first; value = value; votes = 1 })) ballots
      → agreed ≡ count_by (agrees_with distance (record { number = joining; first = first; value = value; votes = 1 })) ballots
      → after ++ (record { number = joining; first = first; value = value; votes = 1 + agreed }) ∷ [] ≡ ballots_at a xs reports (n + 1)
  ballot_joins distance first value far same number agreed ballots after before vote counted =
      let joins : (votes_now : ℕ) → (record { number = joining; first = first; value = value; votes = votes_now }) ≡ joining_ballot votes_now =
      λ votes_now t. record { number = joining; first = same t; value = number t; votes = votes_now } in
      ap (λ b. after ++ b ∷ []) (joins (1 + agreed))
      ∙ voters_add 1 agreed ballots after before
      (vote ∙ (λ t. map (voted (far t) (joins 1 t)) ballots))
      (counted ∙ (λ t. count_by (agrees_with (far t) (joins 1 t)) ballots))

  -- if the one that joins agrees with none before it, no ballot agrees with it
  pub none_agree : (distance first : ℕ) (value : Option ℤ) → distance ≡ distance_of a → first ≡ stands_for a xs reports joining → value ≡ number_in a (output_of xs joining)
      → (ballots : List Ballot) → ballots ≡ ballots_at a xs reports n → All (λ i. agree a (output_of xs i) (output_of xs joining) ≡ false) (take n reports)
      → All (λ b. agrees_with distance (record { number = joining; first = first; value = value; votes = 1 }) b ≡ false) ballots
  none_agree distance first value far same number ballots before apart =
      let voter : Ballot = record { number = joining; first = first; value = value; votes = 1 } in
      let ballot = ballot_of a xs reports (votes a xs (take n reports)) in
      let joins : voter ≡ joining_ballot 1 = λ t. record { number = joining; first = same t; value = number t; votes = 1 } in
      All-same (λ b. agrees_with distance voter b ≡ false) ballots (ballots_at a xs reports n) before
      (All-map (λ b. agrees_with distance voter b ≡ false) ballot (take n reports)
      (λ k i inside.
      (λ t. agrees_with (far t) (joins t) (ballot (get_or (take n reports) k i)))
      ∙ texts (get_or (take n reports) k i)
      ∙ apart k i inside))

-- a vote that agrees with no ballot changes none
pub none_voted : (d : ℕ) (voter : Ballot) (ballots : List Ballot) → All (λ b. agrees_with d voter b ≡ false) ballots → ballots ≡ map (voted d voter) ballots
none_voted d voter [] apart = refl
none_voted d voter (b ∷ rest) apart =
    let same : b.votes ≡ b.votes + from_bool (agrees_with d voter b) =
    sym (ap (λ t. b.votes + from_bool t) (All-head (λ b. agrees_with d voter b ≡ false) b rest apart) ∙ (let none : b.votes + 0 ≡ b.votes = omega arith in none)) in
    (λ t. record { number = b.number; first = b.first; value = b.value; votes = same t } ∷ rest)
    ∙ ap (λ l. voted d voter b ∷ l) (none_voted d voter rest (All-tail (λ b. agrees_with d voter b ≡ false) b rest apart))

pub none_counted : (d : ℕ) (voter : Ballot) (ballots : List Ballot) → All (λ b. agrees_with d voter b ≡ false) ballots → 0 ≡ count_by (agrees_with d voter) ballots
none_counted d voter [] apart = refl
none_counted d voter (b ∷ rest) apart =
    let later = none_counted d voter rest (All-tail (λ b. agrees_with d voter b ≡ false) b rest apart) in
    later
    ∙ (let none : count_by (agrees_with d voter) rest ≡ 0 + count_by (agrees_with d voter) rest = omega arith in none)
    ∙ ap (λ (t : Bool). cond {A = ℕ} t 1 0 + count_by (agrees_with d voter) rest) (sym (All-head (λ b. agrees_with d voter b ≡ false) b rest apart))
    ∙ sym (sum_by-cons (λ b. cond {A = ℕ} (agrees_with d voter b) 1 0) b rest)

-- ---- Which report leads

-- the first ballot with enough votes is that of the leader
leader_counted : (a : Agreement) (xs : List Instance) (reports : List ℕ) (votes_of : ℕ → ℕ) (enough : ℕ) (front : List ℕ)
    → leader_by enough (map (ballot_of a xs reports votes_of) front) ≡ find (λ i. nat_le enough (votes_of i)) front
leader_counted a xs reports votes_of enough [] = refl
leader_counted a xs reports votes_of enough (i ∷ rest) = cases (nat_le enough (votes_of i)) (leader_counted a xs reports votes_of enough rest)
  where
    cases : (b : Bool) → leader_by enough (map (ballot_of a xs reports votes_of) rest) ≡ find (λ i. nat_le enough (votes_of i)) rest
        → option_map (λ (b : Ballot). b.number) (cond b (Some (ballot_of a xs reports votes_of i)) (find (λ (b : Ballot). nat_le enough b.votes) (map (ballot_of a xs reports votes_of) rest)))
        ≡ cond b (Some i) (find (λ i. nat_le enough (votes_of i)) rest)
    cases true same = refl
    cases false same = same

-- the leader of a front, by its ballots
leader_found : (a : Agreement) (xs : List Instance) (enough front : ℕ) (reports : List ℕ) (ballots : List Ballot) → ballots ≡ ballots_at a xs reports front
    → leader_by enough ballots ≡ leader a xs enough (take front reports)
leader_found a xs enough front reports ballots counted =
    ap (leader_by enough) counted ∙ leader_counted a xs reports (votes a xs (take front reports)) enough (take front reports)

most_at_least : (most : ℕ) (ballots : List Ballot) → most ≤ fold (λ (m : ℕ) (b : Ballot). max m b.votes) most ballots
most_at_least most [] = omega arith
most_at_least most (b ∷ rest) = let more = most_at_least (max most b.votes) rest in omega (arith, more)

none_from : (most enough : ℕ) (ballots : List Ballot) → fold (λ (m : ℕ) (b : Ballot). max m b.votes) most ballots < enough → leader_by enough ballots ≡ None
none_from most enough [] below = refl
none_from most enough (b ∷ rest) below =
    let more = most_at_least (max most b.votes) rest in
    ap (λ (t : Bool). option_map (λ (b : Ballot). b.number) (cond t (Some b) (find (λ (b : Ballot). nat_le enough b.votes) rest))) (lt-leb enough b.votes (omega (arith, more, below)))
    ∙ none_from (max most b.votes) enough rest below

-- if none has enough votes, none leads
pub none_leads : (most enough : ℕ) (ballots : List Ballot) → most ≡ most_votes ballots → most < enough → None ≡ leader_by enough ballots
none_leads most enough ballots is below = sym (none_from 0 enough ballots (omega (arith, is, below)))

-- what a loop over the fronts gives at one that has a leader
pub front_leads : (a : Agreement) (xs : List Instance) (enough quorum front : ℕ) (reports : List ℕ) (ballots : List Ballot) (found : Option ℕ) → front < length reports
    → ballots ≡ ballots_at a xs reports front → leader_from a xs enough reports quorum ≡ leader_from a xs enough reports front
    → found ≡ leader_by enough ballots → is_some found ≡ true → found ≡ first_leader a xs enough (take quorum reports) (drop quorum reports)
front_leads a xs enough quorum front reports ballots found within counted none is some =
    let leads : found ≡ leader a xs enough (take front reports) = is ∙ leader_found a xs enough front reports ballots counted in
    leads
    ∙ sym (leader_from-here a xs enough reports front within (ap is_some (sym leads) ∙ some))
    ∙ sym none
    ∙ leader_from-is a xs enough reports quorum

-- no front has a leader so far, this one included
pub no_front_leads : (a : Agreement) (xs : List Instance) (enough quorum front : ℕ) (reports : List ℕ) (ballots : List Ballot) (found : Option ℕ) → front < length reports
    → ballots ≡ ballots_at a xs reports front → leader_from a xs enough reports quorum ≡ leader_from a xs enough reports front
    → found ≡ leader_by enough ballots → is_some found ≡ false
    → leader_from a xs enough reports quorum ≡ leader_from a xs enough reports (front + 1)
no_front_leads a xs enough quorum front reports ballots found within counted none is some =
    let leads : found ≡ leader a xs enough (take front reports) = is ∙ leader_found a xs enough front reports ballots counted in
    none ∙ leader_from-later a xs enough reports front within (ap is_some (sym leads) ∙ some)

-- fronts below the quorum do not count
pub below_quorum : (a : Agreement) (xs : List Instance) (enough quorum front : ℕ) (reports : List ℕ) → front < quorum → quorum ≤ front + 1
    → leader_from a xs enough reports quorum ≡ leader_from a xs enough reports (front + 1)
below_quorum a xs enough quorum front reports below reached =
    let same : quorum ≡ front + 1 = omega arith in
    ap (leader_from a xs enough reports) same

-- what the loop gives at its end
pub all_lead : (a : Agreement) (xs : List Instance) (enough quorum front : ℕ) (reports : List ℕ) (ballots : List Ballot) → front ≡ length reports
    → ballots ≡ ballots_at a xs reports front → leader_from a xs enough reports quorum ≡ leader_from a xs enough reports front
    → leader_by enough ballots ≡ first_leader a xs enough (take quorum reports) (drop quorum reports)
all_lead a xs enough quorum front reports ballots whole counted none =
    leader_found a xs enough front reports ballots counted
    ∙ ap (leader a xs enough) (take_all front reports (omega (arith, whole)))
    ∙ sym (leader_from-last a xs enough reports front (omega (arith, whole)))
    ∙ sym none
    ∙ leader_from-is a xs enough reports quorum
