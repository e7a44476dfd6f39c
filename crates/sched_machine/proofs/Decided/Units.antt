-- What is decided about a workunit stays: its canonical result, the verdicts on its instances, and its status.
use Rattle.std.proofs.Common.{◌≡◌, ℕ, zero, suc, ◌+◌, ◌-◌, ◌<◌, ◌≤◌, inl, inr, Bool, true, false, cond, List, [], ◌∷◌, ◌++◌, length, take, drop, Option, Some, None, sym, refl, ap, ◌∙◌, subst, arith}
use Rattle.std.specs.Prelude.{find, is_some, nat_le, nat_lt, slice_get}
use borrow.Author.Tests.{leb-true, le-leb, ltb-true, lt-ltb}
use Rattle.std.proofs.lemmas.List.{append-nil, length-append, take-append-le, drop-append-le}
use Rattle.std.proofs.lemmas.List.Sums.{sum_by-cons}
use Rattle.sched_book.specs.Count.{agree, tells_success, tells_error, reported_place, reported_output, is_live, is_open, has_failed, report_of, output_of, good, errors, live, votes, leader, first_leader, majority, canonical, want, need, status, verdict_by, verdict}
use Rattle.sched_book.specs.declared.instance.Instance.{Instance}
use Rattle.sched_book.specs.declared.instance.Outcome.{Outcome}
use Rattle.sched_book.specs.declared.instance.Status.{Status}
use Rattle.sched_book.specs.declared.instance.Status.TheVariants.{Open, Done, FailedErrors, FailedSuccess, FailedTotal}
use Rattle.sched_book.specs.declared.instance.Verdict.{Verdict}
use Rattle.sched_book.specs.declared.instance.Verdict.TheVariants.{Valid, Invalid}
use Rattle.sched_book.specs.declared.rows.Agreement.{Agreement}
use Rattle.sched_book.specs.declared.rows.Workunit.{Workunit}
use Rattle.sched_machine.proofs.Decided.Good.{error_is_judged, IsLate, IsReported, AllBecame, Each, Continues, good_continues}

-- a property of each of two lists holds of each of both together
each_append : (P : ℕ → Type 0) (is js : List ℕ) → Each P is → Each P js → Each P (is ++ js)
each_append P [] js first second = second
each_append P (i ∷ is) js first second = (first.0, each_append P is js first.1 second)

each_take : (P : ℕ → Type 0) (n : ℕ) (is : List ℕ) → Each P is → Each P (take n is)
each_take P zero is each = tt
each_take P (suc n) [] each = tt
each_take P (suc n) (i ∷ is) each = (each.0, each_take P n is each.1)

each_drop : (P : ℕ → Type 0) (n : ℕ) (is : List ℕ) → Each P is → Each P (drop n is)
each_drop P zero is each = each
each_drop P (suc n) [] each = tt
each_drop P (suc n) (i ∷ is) each = each_drop P n is each.1

-- Reports that are the same in two lists of instances.
module _ (a : Agreement) (xs ys : List Instance) where
  abbrev pub IsSame : ℕ → Type 0
  IsSame j = report_of ys j ≡ report_of xs j

  -- they have as many votes, and the same leader
  votes_same : (i : ℕ) → IsSame i → (js : List ℕ) → Each IsSame js → votes a ys js i ≡ votes a xs js i
  votes_same i is [] each = refl
  votes_same i is (j ∷ js) each =
      sum_by-cons (λ j. cond {A = ℕ} (agree a (output_of ys i) (output_of ys j)) 1 0) j js
      ∙ ap (λ m. cond {A = ℕ} (agree a (output_of ys i) (output_of ys j)) 1 0 + m) (votes_same i is js each.1)
      ∙ ap (λ o. cond {A = ℕ} (agree a (reported_output o) (output_of ys j)) 1 0 + votes a xs js i) is
      ∙ ap (λ o. cond {A = ℕ} (agree a (output_of xs i) (reported_output o)) 1 0 + votes a xs js i) each.0
      ∙ sym (sum_by-cons (λ j. cond {A = ℕ} (agree a (output_of xs i) (output_of xs j)) 1 0) j js)

  find_same : (enough : ℕ) (reports : List ℕ) → Each IsSame reports → (js : List ℕ) → Each IsSame js
      → find (λ i. nat_le enough (votes a ys reports i)) js ≡ find (λ i. nat_le enough (votes a xs reports i)) js
  find_same enough reports all [] each = refl
  find_same enough reports all (j ∷ js) each =
      ap (λ m. cond (nat_le enough m) (Some j) (find (λ i. nat_le enough (votes a ys reports i)) js)) (votes_same j each.0 reports all)
      ∙ ap (λ o. cond (nat_le enough (votes a xs reports j)) (Some j) o) (find_same enough reports all js each.1)

  leader_same : (enough : ℕ) (reports : List ℕ) → Each IsSame reports → leader a ys enough reports ≡ leader a xs enough reports
  leader_same enough reports all = find_same enough reports all reports all

  first_same : (enough : ℕ) (front rest : List ℕ) → Each IsSame front → Each IsSame rest
      → first_leader a ys enough front rest ≡ first_leader a xs enough front rest
  first_same enough front [] first each = leader_same enough front first
  first_same enough front (i ∷ rest) first each =
      ap (λ o. cond (is_some o) o (first_leader a ys enough (front ++ i ∷ []) rest)) (leader_same enough front first)
      ∙ ap (λ o. cond (is_some (leader a xs enough front)) (leader a xs enough front) o)
      (first_same enough (front ++ i ∷ []) rest (each_append IsSame front (i ∷ []) first (each.0, tt)) each.1)

  -- a first leader stays the first if more reports come after it
  first_found : (enough : ℕ) (front more : List ℕ) (c : ℕ) → leader a ys enough front ≡ Some c → first_leader a ys enough front more ≡ Some c
  first_found enough front [] c is = is
  first_found enough front (i ∷ more) c is =
      ap (λ o. cond (is_some o) o (first_leader a ys enough (front ++ i ∷ []) more)) is

  first_stays : (enough : ℕ) (front rest more : List ℕ) (c : ℕ) → first_leader a ys enough front rest ≡ Some c
      → first_leader a ys enough front (rest ++ more) ≡ Some c
  first_stays enough front [] more c is = first_found enough front more c is
  first_stays enough front (i ∷ rest) more c is =
      cases (leader a ys enough front) is (first_stays enough (front ++ i ∷ []) rest more c)
    where
      cases : (o : Option ℕ) → cond (is_some o) o (first_leader a ys enough (front ++ i ∷ []) rest) ≡ Some c
          → (first_leader a ys enough (front ++ i ∷ []) rest ≡ Some c → first_leader a ys enough (front ++ i ∷ []) (rest ++ more) ≡ Some c)
          → cond (is_some o) o (first_leader a ys enough (front ++ i ∷ []) (rest ++ more)) ≡ Some c
      cases None is later = later is
      cases (Some d) is later = is

-- what is found is one of the numbers that were searched
found_holds : (P : ℕ → Type 0) (p : ℕ → Bool) (js : List ℕ) (c : ℕ) → Each P js → find p js ≡ Some c → P c
found_holds P p [] c each is = absurd cc
found_holds P p (j ∷ js) c each is = cases (p j) is (found_holds P p js c each.1)
  where
    cases : (b : Bool) → cond b (Some j) (find p js) ≡ Some c → (find p js ≡ Some c → P c) → P c
    cases true is later = let same : j ≡ c = cc in subst P same each.0
    cases false is later = later is

-- the same of a first leader
first_holds : (P : ℕ → Type 0) (a : Agreement) (xs : List Instance) (enough : ℕ) (front rest : List ℕ) (c : ℕ) → Each P front → Each P rest
    → first_leader a xs enough front rest ≡ Some c → P c
first_holds P a xs enough front [] c first each is = found_holds P (λ i. nat_le enough (votes a xs front i)) front c first is
first_holds P a xs enough front (i ∷ rest) c first each is =
    cases (leader a xs enough front) refl is (first_holds P a xs enough (front ++ i ∷ []) rest c (each_append P front (i ∷ []) first (each.0, tt)) each.1)
  where
    cases : (o : Option ℕ) → leader a xs enough front ≡ o → cond (is_some o) o (first_leader a xs enough (front ++ i ∷ []) rest) ≡ Some c
        → (first_leader a xs enough (front ++ i ∷ []) rest ≡ Some c → P c) → P c
    cases None lead is later = later is
    cases (Some d) lead is later = found_holds P (λ i. nat_le enough (votes a xs front i)) front c first (lead ∙ is)

-- A workunit whose good reports continue.
module _ (a : Agreement) (u : Workunit) (failed : Bool) (xs ys : List Instance) (on : Continues failed xs ys) where
  abbrev quorum : ℕ
  quorum = u.min_quorum

  abbrev front : List ℕ
  front = take quorum (good xs)

  abbrev rest : List ℕ
  rest = drop quorum (good xs)

  same_front : Each (IsSame a xs ys) front
  same_front = each_take (IsSame a xs ys) quorum (good xs) on.same

  same_rest : Each (IsSame a xs ys) rest
  same_rest = each_drop (IsSame a xs ys) quorum (good xs) on.same

  abbrev canonical_of : List Instance → List ℕ → Option ℕ
  canonical_of zs reports =
      cond (nat_le quorum (length reports)) (first_leader a zs (majority u) (take quorum reports) (drop quorum reports)) None

  -- a canonical result stays the canonical one
  pub canonical_stays : (c : ℕ) → canonical a u xs ≡ Some c → canonical a u ys ≡ Some c
  canonical_stays c is = ap (canonical_of ys) on.is ∙ cases (nat_le quorum (length (good xs))) refl is
    where
      cases : (b : Bool) → nat_le quorum (length (good xs)) ≡ b → cond b (first_leader a xs (majority u) front rest) None ≡ Some c
          → canonical_of ys (good xs ++ on.more) ≡ Some c
      cases false few is = absurd cc
      cases true enough is =
          let low : quorum ≤ length (good xs) = leb-true quorum (length (good xs)) enough in
          let long : length (good xs ++ on.more) ≡ length (good xs) + length on.more = length-append (good xs) on.more in
          ap (λ (b : Bool). cond b (first_leader a ys (majority u) (take quorum (good xs ++ on.more)) (drop quorum (good xs ++ on.more))) None)
          (le-leb quorum (length (good xs ++ on.more)) (omega arith))
          ∙ ap (λ js. first_leader a ys (majority u) js (drop quorum (good xs ++ on.more))) (take-append-le quorum (good xs) on.more low)
          ∙ ap (first_leader a ys (majority u) front) (drop-append-le quorum (good xs) on.more low)
          ∙ first_stays a xs ys (majority u) front rest on.more c (first_same a xs ys (majority u) front rest same_front same_rest ∙ is)

  -- the canonical result is a report that is as it was
  pub canonical_same : (c : ℕ) → canonical a u xs ≡ Some c → report_of ys c ≡ report_of xs c
  canonical_same c is = cases (nat_le quorum (length (good xs))) is
    where
      cases : (b : Bool) → cond b (first_leader a xs (majority u) front rest) None ≡ Some c → report_of ys c ≡ report_of xs c
      cases false is = absurd cc
      cases true is = first_holds (IsSame a xs ys) a xs (majority u) front rest c same_front same_rest is

  -- a verdict depends on the same canonical result
  pub verdict_stays : (x y : Instance) (n : ℕ) (v : Verdict) → IsReported n failed x y → verdict a u xs x ≡ Some v → verdict a u ys y ≡ Some v
  verdict_stays x y n v reported is = cases (canonical a u xs) refl is
    where
      known : (o : Option ℕ) (r : Option Outcome) → Option Verdict
      known None r = None
      known (Some c) r = cond (tells_success r) (Some (cond (agree a (reported_output r) (output_of xs c)) Valid Invalid)) None

      cases : (o : Option ℕ) → canonical a u xs ≡ o → verdict_by a xs o x ≡ Some v → verdict a u ys y ≡ Some v
      cases None none is = absurd cc
      cases (Some c) found is =
          ap (λ o. verdict_by a ys o y) (canonical_stays c found)
          ∙ ap (λ o. cond (tells_success y.report) (Some (cond (agree a (reported_output y.report) (reported_output o)) Valid Invalid)) None) (canonical_same c found)
          ∙ elim reported [
            | inl same ↦ ap (λ r. cond (tells_success r) (Some (cond (agree a (reported_output r) (output_of xs c)) Valid Invalid)) None) same ∙ is
            | inr new ↦ (let never : None ≡ Some v =
                sym (ap (λ r. cond (tells_success r) (Some (cond (agree a (reported_output r) (output_of xs c)) Valid Invalid)) None) new.0) ∙ is in absurd cc)
          ]

  -- if the workunit had failed, there is no more
  module _ (is_failed : failed ≡ true) where
    pub good_same : good ys ≡ good xs
    good_same = on.is ∙ ap (λ js. good xs ++ js) (on.none is_failed) ∙ append-nil (good xs)

    pub canonical_equal : canonical a u ys ≡ canonical a u xs
    canonical_equal =
        ap (canonical_of ys) good_same
        ∙ ap (λ o. cond (nat_le quorum (length (good xs))) o None) (first_same a xs ys (majority u) front rest same_front same_rest)

-- a failed workunit has no new error
not_new : (n : ℕ) (y : Instance) (b : Bool) → tells_error y.report ≡ b → IsLate n true y → tells_error y.report ≡ false
not_new n y false is judged = is
not_new n y true is judged = absurd (let never : true ≡ false = (judged (error_is_judged y.report is)).1 in cc)

-- there are as many errors as before
errors_became : (n : ℕ) (xs ys : List Instance) → AllBecame n true xs ys → errors ys ≡ errors xs
errors_became n [] [] became = refl
errors_became n (x ∷ xs) [] became = absurd (became 0)
errors_became n [] (y ∷ ys) became =
    let rest : errors ys ≡ 0 = errors_became n [] ys (λ i. became (suc i)) in
    sum_by-cons (λ (z : Instance). cond {A = ℕ} (tells_error z.report) 1 0) y ys
    ∙ ap (λ (b : Bool). cond {A = ℕ} b 1 0 + errors ys) (not_new n y (tells_error y.report) refl (became 0))
    ∙ (let same : 0 + errors ys ≡ 0 = omega arith in same)
errors_became n (x ∷ xs) (y ∷ ys) became =
    sum_by-cons (λ (z : Instance). cond {A = ℕ} (tells_error z.report) 1 0) y ys
    ∙ ap (λ (b : Bool). cond {A = ℕ} b 1 0 + errors ys) (here (became 0).report)
    ∙ ap (λ m. cond {A = ℕ} (tells_error x.report) 1 0 + m) (errors_became n xs ys (λ i. became (suc i)))
    ∙ sym (sum_by-cons (λ (z : Instance). cond {A = ℕ} (tells_error z.report) 1 0) x xs)
  where
    here : IsReported n true x y → tells_error y.report ≡ tells_error x.report
    here reported = elim reported [
      | inl same ↦ ap tells_error same
      | inr new ↦ not_new n y (tells_error y.report) refl new.1 ∙ sym (ap tells_error new.0)
    ]

-- 1 if it passes; at most as much as another if it implies that one
abbrev pub one : Bool → ℕ
one b = cond {A = ℕ} b 1 0

pub at_most : (b c : Bool) → (b ≡ true → c ≡ true) → one b ≤ one c
at_most false c implies = let low : 0 ≤ one c = omega arith in low
at_most true false implies = let never : false ≡ true = implies refl in absurd cc
at_most true true implies = omega arith

-- if no instance is added, at most as many are live
live_became : (n : ℕ) (failed : Bool) (xs ys : List Instance) → length ys ≡ length xs → AllBecame n failed xs ys → live ys ≤ live xs
live_became n failed [] [] same became = omega arith
live_became n failed (x ∷ xs) [] same became = absurd (became 0)
live_became n failed [] (y ∷ ys) same became = absurd (omega arith)
live_became n failed (x ∷ xs) (y ∷ ys) same became =
    let rest : live ys ≤ live xs = live_became n failed xs ys (omega arith) (λ i. became (suc i)) in
    let after : live (y ∷ ys) ≡ one (is_live y) + live ys = sum_by-cons (λ z. cond {A = ℕ} (is_live z) 1 0) y ys in
    let before : live (x ∷ xs) ≡ one (is_live x) + live xs = sum_by-cons (λ z. cond {A = ℕ} (is_live z) 1 0) x xs in
    let fewer : one (is_live y) ≤ one (is_live x) = at_most (is_live y) (is_live x) (became 0).live in
    omega arith

-- the status, by its tests
abbrev by_tests : Bool → Bool → Bool → Status
by_tests wrong many long = cond wrong FailedErrors (cond many FailedSuccess (cond long FailedTotal Open))

-- a status by these tests that is not open is a failure, and it stays if the test of the total does
tests_fail : (wrong many long : Bool) → is_open (by_tests wrong many long) ≡ false → has_failed (by_tests wrong many long) ≡ true
tests_fail true many long shut = refl
tests_fail false true long shut = refl
tests_fail false false true shut = refl
tests_fail false false false shut = absurd cc

tests_stay : (wrong many long longer : Bool) → is_open (by_tests wrong many long) ≡ false → (long ≡ true → longer ≡ true)
    → by_tests wrong many longer ≡ by_tests wrong many long
tests_stay true many long longer shut implies = refl
tests_stay false true long longer shut implies = refl
tests_stay false false true longer shut implies = ap (λ (b : Bool). cond b FailedTotal Open) (implies refl)
tests_stay false false false longer shut implies = absurd cc

-- what a workunit was judged by, before and after
module _ (a : Agreement) (u : Workunit) (n : ℕ) (xs ys : List Instance)
    (low : (i : ℕ) (x : Instance) → slice_get xs i ≡ Some x → tells_success x.report ≡ true → reported_place x.report ≤ n) where
  abbrev tests : List Instance → ℕ → List ℕ → ℕ → Status
  tests zs wrong reports total =
      by_tests (nat_lt u.max_error_results wrong) (nat_lt u.max_success_results (length reports)) (nat_lt u.max_total_results total)

  abbrev own : List Instance → Status
  own zs = tests zs (errors zs) (good zs) (length zs + need u zs)

  -- a workunit that failed keeps its status
  failed_stays : AllBecame n true xs ys → length ys ≡ length xs → canonical a u xs ≡ None → is_open (own xs) ≡ false → status a u ys ≡ status a u xs
  failed_stays became same none shut =
      let on : Continues true xs ys = good_continues n true xs ys low became in
      let same_good : good ys ≡ good xs = good_same a u true xs ys on refl in
      let fewer : live ys ≤ live xs = live_became n true xs ys same became in
      let wanted : want u (length (good ys)) ≡ want u (length (good xs)) = ap (λ js. want u (length js)) same_good in
      let many : length (good ys) ≡ length (good xs) = ap length same_good in
      let before : need u xs ≡ want u (length (good xs)) - live xs - length (good xs) = refl in
      let after : need u ys ≡ want u (length (good ys)) - live ys - length (good ys) = refl in
      let longer : length xs + need u xs ≤ length ys + need u ys = omega arith in
      ap (λ o. cond (is_some o) Done (own ys)) (canonical_equal a u true xs ys on refl ∙ none)
      ∙ ap (λ m. tests ys m (good ys) (length ys + need u ys)) (errors_became n xs ys became)
      ∙ ap (λ js. tests ys (errors xs) js (length ys + need u ys)) same_good
      ∙ tests_stay (nat_lt u.max_error_results (errors xs)) (nat_lt u.max_success_results (length (good xs))) (nat_lt u.max_total_results (length xs + need u xs))
      (nat_lt u.max_total_results (length ys + need u ys)) shut
      (λ is. (let past : u.max_total_results < length xs + need u xs = ltb-true u.max_total_results (length xs + need u xs) is in
      lt-ltb u.max_total_results (length ys + need u ys) (omega arith)))
      ∙ sym (ap (λ o. cond (is_some o) Done (own xs)) none)

  -- a workunit that is not open keeps its status
  pub status_stays : AllBecame n (has_failed (status a u xs)) xs ys → (has_failed (status a u xs) ≡ true → length ys ≡ length xs)
      → is_open (status a u xs) ≡ false → status a u ys ≡ status a u xs
  status_stays became same shut = cases (canonical a u xs) refl
    where
      cases : (o : Option ℕ) → canonical a u xs ≡ o → status a u ys ≡ status a u xs
      cases (Some c) is =
          ap (λ o. cond (is_some o) Done (own ys))
          (canonical_stays a u (has_failed (status a u xs)) xs ys (good_continues n (has_failed (status a u xs)) xs ys low became) c is)
          ∙ sym (ap (λ o. cond (is_some o) Done (own xs)) is)
      cases None is =
          let here : status a u xs ≡ own xs = ap (λ o. cond (is_some o) Done (own xs)) is in
          let now_shut : is_open (own xs) ≡ false = ap is_open (sym here) ∙ shut in
          let failed : has_failed (status a u xs) ≡ true =
          ap has_failed here
          ∙ tests_fail (nat_lt u.max_error_results (errors xs)) (nat_lt u.max_success_results (length (good xs))) (nat_lt u.max_total_results (length xs + need u xs)) now_shut in
          failed_stays (subst (λ (f : Bool). AllBecame n f xs ys) failed became) (same failed) is now_shut
