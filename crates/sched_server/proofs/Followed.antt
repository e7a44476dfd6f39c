-- Arrivals that were handled one after the other.
use Rattle.std.proofs.Common.{◌≡◌, ℕ, zero, suc, ◌+◌, ◌<◌, ◌≤◌, List, [], ◌∷◌, ◌++◌, length, take, drop, get_or, refl, sym, ◌∙◌, ap, subst, arith}
use Rattle.std.proofs.lemmas.List.{take_more, length-take-le, length-append, take-append-drop}
use Rattle.http_responses.specs.declared.answer.Answer.{Answer}
use Rattle.stores.specs.Acting.{Parts}
use Rattle.stores.specs.Held.{Held}
use Rattle.sched_server.specs.Arrivals.{Came, StoreStandsFor, followed}
use Rattle.sched_server.specs.Handled.{HandledAs}
use Rattle.sched_server.specs.declared.arrival.Arrival.{Arrival}

-- ---- many arrivals

more_followed : (before : List Came) (arrivals : List Arrival) (answers : List Answer) (a : Arrival) (x : Answer)
    → length answers ≡ length arrivals
    → followed before (arrivals ++ a ∷ []) (answers ++ x ∷ []) ≡ record { arrival = a; answer = x } ∷ followed before arrivals answers
more_followed before [] [] a x same = refl
more_followed before [] (y ∷ answers) a x same = absurd (suc_is_not_zero _ same)
  where
    suc_is_not_zero : (n : ℕ) → suc n ≡ zero → ⊥
    suc_is_not_zero n e = grind (arith)
more_followed before (b ∷ arrivals) [] a x same = absurd (zero_is_not_suc _ same)
  where
    zero_is_not_suc : (n : ℕ) → zero ≡ suc n → ⊥
    zero_is_not_suc n e = grind (arith)
more_followed before (b ∷ arrivals) (y ∷ answers) a x same =
    more_followed (record { arrival = b; answer = y } ∷ before) arrivals answers a x (less_one _ _ same)
  where
    less_one : (m n : ℕ) → suc m ≡ suc n → m ≡ n
    less_one m n e = grind (arith)

-- arrivals after the last answer do not count
short_followed : (before : List Came) (arrivals later : List Arrival) (answers : List Answer) → length answers ≡ length arrivals
    → followed before (arrivals ++ later) answers ≡ followed before arrivals answers
short_followed before [] [] [] same = refl
short_followed before [] (a ∷ later) [] same = refl
short_followed before [] later (y ∷ answers) same = absurd (suc_is_not_zero _ same)
  where
    suc_is_not_zero : (n : ℕ) → suc n ≡ zero → ⊥
    suc_is_not_zero n e = grind (arith)
short_followed before (b ∷ arrivals) later [] same = refl
short_followed before (b ∷ arrivals) later (y ∷ answers) same =
    short_followed (record { arrival = b; answer = y } ∷ before) arrivals later answers (less_one _ _ same)
  where
    less_one : (m n : ℕ) → suc m ≡ suc n → m ≡ n
    less_one m n e = grind (arith)

-- the first arrivals with their answers, and one more
next_followed : (before : List Came) (arrivals : List Arrival) (i : ℕ) (answers : List Answer) (a : Arrival) (x : Answer)
    → i < length arrivals → a ≡ get_or arrivals i a → length answers ≡ i
    → followed before (take (i + 1) arrivals) (answers ++ x ∷ []) ≡ record { arrival = a; answer = x } ∷ followed before (take i arrivals) answers
next_followed before arrivals i answers a x less is count =
    ap (λ first. followed before first (answers ++ x ∷ [])) (take_more arrivals i a less ∙ ap (λ b. take i arrivals ++ b ∷ []) (sym is))
    ∙ more_followed before (take i arrivals) answers a x (count ∙ sym (length-take-le i arrivals (omega arith)))

-- as many of the arrivals as have answers
first_followed : (before : List Came) (arrivals : List Arrival) (i : ℕ) (answers : List Answer) → i ≤ length arrivals → length answers ≡ i
    → followed before arrivals answers ≡ followed before (take i arrivals) answers
first_followed before arrivals i answers most count =
    ap (λ all. followed before all answers) (sym (take-append-drop i arrivals))
    ∙ short_followed before (take i arrivals) (drop i arrivals) answers (count ∙ sym (length-take-le i arrivals most))

pub one_more : (answers : List Answer) (x : Answer) (i : ℕ) → length answers ≡ i → length (answers ++ x ∷ []) ≡ i + 1
one_more answers x i count = length-append answers (x ∷ []) ∙ ap (λ n. n + 1) count

-- what holds of the arrivals so far and one more
pub holds_next : (P : List Came → Type 0) (before : List Came) (arrivals : List Arrival) (i : ℕ) (answers items : List Answer) (a : Arrival)
    (x : Answer) → i < length arrivals → a ≡ get_or arrivals i a → length answers ≡ i → items ≡ answers ++ x ∷ []
    → P (record { arrival = a; answer = x } ∷ followed before (take i arrivals) answers) → P (followed before (take (i + 1) arrivals) items)
holds_next P before arrivals i answers items a x less is count more holds =
    subst P (sym (ap (λ xs. followed before (take (i + 1) arrivals) xs) more ∙ next_followed before arrivals i answers a x less is count)) holds

-- the same for all arrivals, if the later ones have no answer
pub holds_so_far : (P : List Came → Type 0) (before : List Came) (arrivals : List Arrival) (i : ℕ) (answers : List Answer) (a : Arrival)
    (x : Answer) → i < length arrivals → a ≡ get_or arrivals i a → length answers ≡ i
    → P (record { arrival = a; answer = x } ∷ followed before (take i arrivals) answers) → P (followed before arrivals (answers ++ x ∷ []))
holds_so_far P before arrivals i answers a x less is count holds =
    subst P
    (sym (
    first_followed before arrivals (i + 1) (answers ++ x ∷ []) (omega arith) (one_more answers x i count)
    ∙ next_followed before arrivals i answers a x less is count
    )) holds

-- the same with the key and the bytes under other names
pub handled_as : (old_key key read bytes : List ℕ) (now : ℕ) (old new : Held) (a : Answer)
    → key ≡ old_key → read ≡ bytes → HandledAs key read now a old new → HandledAs old_key bytes now a old new
handled_as old_key key read bytes now old new a same is done =
    let P : List ℕ → Type 0 = λ k. HandledAs k read now a old new in
    let Q : List ℕ → Type 0 = λ b. HandledAs old_key b now a old new in
    subst Q is (subst P same done)

-- and so with what a store agrees with
pub stands_on : {S : Type 0} (store : Parts S) (old_key key read bytes : List ℕ) (now : ℕ) (a : Answer) (old new : S) → key ≡ old_key → read ≡ bytes
    → ((points : List ℕ) (before : List Came) → StoreStandsFor store key points before old → store.clean new
    → StoreStandsFor store key points (record { arrival = record { now = now; bytes = read }; answer = a } ∷ before) new)
    → (points : List ℕ) (before : List Came) → StoreStandsFor store old_key points before old → store.clean new
    → StoreStandsFor store old_key points (record { arrival = record { now = now; bytes = bytes }; answer = a } ∷ before) new
stands_on store old_key key read bytes now a old new same is stands =
    let P : List ℕ → List ℕ → Type 0 = λ k b. (points : List ℕ) (before : List Came) → StoreStandsFor store k points before old → store.clean new
    → StoreStandsFor store k points (record { arrival = record { now = now; bytes = b }; answer = a } ∷ before) new in
    subst (λ b. P old_key b) is (subst (λ k. P k read) same stands)
