-- What is decided of a workunit after one of its instances changed into one that counts the same.
use Rattle.std.proofs.Common.{◌≡◌, ℕ, zero, suc, ◌+◌, ◌-◌, Bool, true, false, cond, eqb, eqb-true, List, [], ◌∷◌, ◌++◌, length, take, drop, Option, Some, None, slice_get, option_map, option_and_then, sym, refl, ap, ◌∙◌}
use Rattle.std.specs.Prelude.{nat_le, nat_lt, fold, find, count_by, is_some}
use Rattle.std.proofs.Math.Path.{fun_ext}
use Rattle.sched_book.specs.Count.{agree, tells_success, tells_error, is_live, report_of, output_of, place_of, reported_output, reported_place, numbers_from, put_by, good, errors, live, leader, first_leader, majority, canonical, want, need, status, decided, CountAlike}
use Rattle.sched_book.specs.Delta.{set_at}
use Rattle.sched_book.specs.Reports.{modify_at}
use Rattle.sched_book.specs.declared.instance.Instance.{Instance}
use Rattle.sched_book.specs.declared.instance.Status.{Status}
use Rattle.sched_book.specs.declared.instance.Status.TheVariants.{Open, Done, FailedErrors, FailedSuccess, FailedTotal}
use Rattle.sched_book.specs.declared.rows.Agreement.{Agreement}
use Rattle.sched_book.specs.declared.rows.Workunit.{Workunit}
use Rattle.sched_book.proofs.Changes.{count_changed, modify_at-put}
use Rattle.sched_book.proofs.PlacesOf.{slice_get-modify_at, length-modify_at}

-- the first leader, if a function gives the outputs
abbrev leader_by : Agreement → (ℕ → List ℕ) → ℕ → List ℕ → Option ℕ
leader_by a known enough reports = find (λ i. nat_le enough (count_by (λ j. agree a (known i) (known j)) reports)) reports

same_first_leader : (a : Agreement) (xs ys : List Instance) (enough : ℕ) (front rest : List ℕ) → output_of ys ≡ output_of xs
    → first_leader a ys enough front rest ≡ first_leader a xs enough front rest
same_first_leader a xs ys enough front [] same = ap (λ known. leader_by a known enough front) same
same_first_leader a xs ys enough front (i ∷ rest) same =
    ap (λ known. cond (is_some (leader_by a known enough front)) (leader_by a known enough front) (first_leader a ys enough (front ++ i ∷ []) rest)) same
    ∙ ap (λ o. cond (is_some (leader a xs enough front)) (leader a xs enough front) o) (same_first_leader a xs ys enough (front ++ i ∷ []) rest same)

-- the status, made of its parts
abbrev status_by : Workunit → Option ℕ → ℕ → ℕ → ℕ → Status
status_by u result wrong successes total =
    cond (is_some result) Done
    (cond (nat_lt u.max_error_results wrong) FailedErrors
    (cond (nat_lt u.max_success_results successes) FailedSuccess
    (cond (nat_lt u.max_total_results total) FailedTotal Open)))

-- the numbers of the instances that pass
numbers_changed : (p : Instance → Bool) (f : Instance → Instance) (m : ℕ) (xs : List Instance) (n : ℕ)
    → ((x : Instance) → slice_get xs n ≡ Some x → p (f x) ≡ p x) → numbers_from m p (modify_at f xs n) ≡ numbers_from m p xs
numbers_changed p f m [] n same = refl
numbers_changed p f m (x ∷ xs) zero same = ap (λ (b : Bool). cond b (m ∷ numbers_from (m + 1) p xs) (numbers_from (m + 1) p xs)) (same x refl)
numbers_changed p f m (x ∷ xs) (suc n) same =
    ap (λ is. cond (p x) (m ∷ is) is) (numbers_changed p f (m + 1) xs n same)

-- one instance changed, but neither its report nor whether it is live
module _ (f : Instance → Instance) (xs : List Instance) (n : ℕ)
    (same_report : (x : Instance) → slice_get xs n ≡ Some x → (f x).report ≡ x.report)
    (same_live : (x : Instance) → slice_get xs n ≡ Some x → is_live (f x) ≡ is_live x) where
  reports_stay : report_of (modify_at f xs n) ≡ report_of xs
  reports_stay = fun_ext (λ i. ap (option_and_then (λ (x : Instance). x.report)) (slice_get-modify_at f xs n i) ∙ at_index i (eqb n i) refl (slice_get xs i) refl)
    where
      at_index : (i : ℕ) (b : Bool) → eqb n i ≡ b → (o : Option Instance) → slice_get xs i ≡ o
          → option_and_then (λ (x : Instance). x.report) (cond b (option_map f o) o) ≡ option_and_then (λ (x : Instance). x.report) o
      at_index i false is o there = refl
      at_index i true is None there = refl
      at_index i true is (Some x) there = same_report x (ap (slice_get xs) (eqb-true n i is) ∙ there)

  outputs_stay : output_of (modify_at f xs n) ≡ output_of xs
  outputs_stay = ap (λ reports i. reported_output (reports i)) reports_stay

  places_stay : place_of (modify_at f xs n) ≡ place_of xs
  places_stay = ap (λ reports i. reported_place (reports i)) reports_stay

  good_stay : good (modify_at f xs n) ≡ good xs
  good_stay =
      ap (λ key. fold (put_by key) [] (numbers_from 0 (λ x. tells_success x.report) (modify_at f xs n))) places_stay
      ∙ ap (fold (put_by (place_of xs)) []) (numbers_changed (λ x. tells_success x.report) f 0 xs n (λ x is. ap tells_success (same_report x is)))

  errors_stay : errors (modify_at f xs n) ≡ errors xs
  errors_stay = count_changed (λ x. tells_error x.report) f xs n (λ x is. ap tells_error (same_report x is))

  pub need_stays : (u : Workunit) → need u (modify_at f xs n) ≡ need u xs
  need_stays u =
      ap (λ reports. want u (length reports) - live (modify_at f xs n) - length reports) good_stay
      ∙ ap (λ many. want u (length (good xs)) - many - length (good xs)) (count_changed is_live f xs n same_live)

  canonical_stays : (a : Agreement) (u : Workunit) → canonical a u (modify_at f xs n) ≡ canonical a u xs
  canonical_stays a u =
      ap (λ reports. cond (nat_le u.min_quorum (length reports))
      (first_leader a (modify_at f xs n) (majority u) (take u.min_quorum reports) (drop u.min_quorum reports)) None) good_stay
      ∙ ap (λ o. cond (nat_le u.min_quorum (length (good xs))) o None)
      (same_first_leader a xs (modify_at f xs n) (majority u) (take u.min_quorum (good xs)) (drop u.min_quorum (good xs)) outputs_stay)

  pub status_stays : (a : Agreement) (u : Workunit) → status a u (modify_at f xs n) ≡ status a u xs
  status_stays a u =
      let ys = modify_at f xs n in
      ap (λ o. status_by u o (errors ys) (length (good ys)) (length ys + need u ys)) (canonical_stays a u)
      ∙ ap (λ m. status_by u (canonical a u xs) m (length (good ys)) (length ys + need u ys)) errors_stay
      ∙ ap (λ reports. status_by u (canonical a u xs) (errors xs) (length reports) (length ys + need u ys)) good_stay
      ∙ ap (λ m. status_by u (canonical a u xs) (errors xs) (length (good xs)) (m + need u ys)) (length-modify_at f xs n)
      ∙ ap (λ m. status_by u (canonical a u xs) (errors xs) (length (good xs)) (length xs + m)) (need_stays u)

  decided_stays : (a : Agreement) (u : Workunit) → decided a u (modify_at f xs n) ≡ decided a u xs
  decided_stays a u =
      ap (λ c. record { canonical = c; status = status a u (modify_at f xs n) }) (canonical_stays a u)
      ∙ ap (λ s. record { canonical = canonical a u xs; status = s }) (status_stays a u)

-- an instance is put in the place of one that counts the same
pub decided_stays_put : (xs : List Instance) (n : ℕ) (x y : Instance) (a : Agreement) (u : Workunit) → Some x ≡ slice_get xs n → CountAlike x y
    → decided a u (set_at xs n y) ≡ decided a u xs
decided_stays_put xs n x y a u stands alike =
    ap (decided a u) (sym (modify_at-put (λ z. y) xs n x (sym stands)))
    ∙ decided_stays (λ z. y) xs n
    (λ z there. sym alike.1 ∙ ap (λ (i : Instance). i.report) (same z there))
    (λ z there. sym alike.0 ∙ ap is_live (same z there)) a u
  where
    same : (z : Instance) → slice_get xs n ≡ Some z → x ≡ z
    same z there = let both : Some x ≡ Some z = stands ∙ there in cc
