-- A well workunit with the instances that it needs is settled.
use Rattle.std.proofs.Common.{◌≡◌, ◌≢◌, ℕ, zero, suc, ◌+◌, ◌-◌, ◌*◌, ◌≤◌, Bool, true, false, cond, List, [], ◌∷◌, ◌++◌, length, get_or, Option, Some, None, sym, refl, ap, ◌∙◌, subst, length-append, arith}
use Rattle.std.specs.Prelude.{◌||◌, ◌==◌, All, AllPairs, IsTrue, count_by, fold, is_some, nat_le, replicate, option_and_then, IfSome}
use Rattle.std.specs.List.{list_any, prefix_len}
use Rattle.std.proofs.lemmas.List.{length-replicate}
use Rattle.std.proofs.lemmas.List.Edits.{length-insert}
use Rattle.std.proofs.lemmas.List.Elements.{All-append, All-replicate}
use Rattle.std.proofs.lemmas.List.Folds.{list_any-append, sum_by-replicate}
use Rattle.std.proofs.lemmas.List.Kept.{AllPairs-cons}
use Rattle.std.proofs.lemmas.List.Sums.{sum_by-append, prefix_len-le-length}
use Rattle.sched_book.specs.Count.{tells_success, is_judged, report_place, is_live, place_of, numbers_from, put_by, good, live, want, need, is_open}
use Rattle.sched_book.specs.Limits.{most_instances, IsInstanceInLimits}
use Rattle.sched_book.specs.Places.{nth, option_any, agreement_by, book_status, account_at, host_of}
use Rattle.sched_book.specs.Settle.{fresh, grown}
use Rattle.sched_book.specs.Sound.{AreOfOtherUsers, IsBare, HasOwnerAmong, IsSettledUnit, IsWellUnit}
use Rattle.sched_book.specs.declared.instance.Instance.{Instance}
use Rattle.sched_book.specs.declared.instance.UnitBook.{UnitBook}
use Rattle.sched_book.specs.declared.rows.App.{App}
use Rattle.sched_book.specs.declared.rows.HostRow.{HostRow}
use Rattle.sched_book.specs.declared.rows.Workunit.{Workunit}
use Rattle.sched_book.proofs.Reports.{length_good}
use Rattle.quorum_credit.proofs.GrownFits.{fresh_in_limits, open_total}

-- several equal elements after a list
pub pairs_more : {X : Type 0} (R : X → X → Type 0) (xs : List X) (n : ℕ) (y : X) → ((x : X) → R x y) → AllPairs R xs → AllPairs R (xs ++ replicate n y)
pairs_more R [] zero y apart pairs = pairs
pairs_more R [] (suc n) y apart pairs =
    AllPairs-cons R y (replicate n y) (All-replicate (R y) n y (apart y)) (pairs_more R [] n y apart pairs)
pairs_more R (x ∷ xs) n y apart pairs =
    AllPairs-cons R x (xs ++ replicate n y)
    (All-append (R x) xs (replicate n y) (λ k d within. pairs 0 (suc k) d (omega arith) (omega arith)) (All-replicate (R x) n y (apart x)))
    (pairs_more R xs n y apart (λ i j d below within. pairs (suc i) (suc j) d (omega arith) (omega arith)))

-- how many pass, with n equal elements after the list
count_with : {X : Type 0} (p : X → Bool) (xs : List X) (n : ℕ) (y : X) (b : Bool) → p y ≡ b
    → count_by p (xs ++ replicate n y) ≡ count_by p xs + n * cond {A = ℕ} b 1 0
count_with p xs n y b is =
    let one : _ → ℕ = λ x. cond {A = ℕ} (p x) 1 0 in
    sum_by-append one xs (replicate n y)
    ∙ ap (λ m. count_by p xs + m) (sum_by-replicate one n y ∙ ap (λ (c : Bool). n * cond {A = ℕ} c 1 0) is)

pub count_none : {X : Type 0} (p : X → Bool) (xs : List X) (n : ℕ) (y : X) → p y ≡ false → count_by p (xs ++ replicate n y) ≡ count_by p xs
count_none p xs n y is = let whole : count_by p (xs ++ replicate n y) ≡ count_by p xs + n * 0 = count_with p xs n y false is in omega arith

pub count_all : {X : Type 0} (p : X → Bool) (xs : List X) (n : ℕ) (y : X) → p y ≡ true → count_by p (xs ++ replicate n y) ≡ count_by p xs + n
count_all p xs n y is = let whole : count_by p (xs ++ replicate n y) ≡ count_by p xs + n * 1 = count_with p xs n y true is in omega arith

-- with what it needs it needs nothing more
enough : (wanted running done : ℕ) → wanted - (running + (wanted - running - done)) - done ≡ 0
enough wanted running done = omega arith

grown_needs_none : (u : Workunit) (xs : List Instance) → need u (xs ++ replicate (need u xs) fresh) ≡ 0
grown_needs_none u xs =
    let ys : List Instance = xs ++ replicate (need u xs) fresh in
    let same : length (good ys) ≡ length (good xs) =
    length_good ys ∙ count_none (λ x. tells_success x.report) xs (need u xs) fresh refl ∙ sym (length_good xs) in
    ap (λ m. want u m - live ys - m) same
    ∙ ap (λ m. want u (length (good xs)) - m - length (good xs)) (count_all is_live xs (need u xs) fresh refl)
    ∙ enough (want u (length (good xs))) (live xs) (length (good xs))

-- the hosts of both lists have the same accounts
pub record HaveSameUsers (hosts others : List HostRow) : Type 0 where
  pub account : (n : ℕ) → account_at others n ≡ account_at hosts n
  pub stands : (n : ℕ) → is_some (nth others n) ≡ is_some (nth hosts n)

-- a workunit after settlement, if `others` are the hosts after it
module _ (hosts others : List HostRow) (apps : List App) (users : HaveSameUsers hosts others) where
  other_users : (x y : Instance) → AreOfOtherUsers hosts x y → AreOfOtherUsers others x y
  other_users x y apart =
      let same : account_at hosts ≡ account_at others = λ i n. sym (users.account n) i in
      subst (λ (at : ℕ → Option ℕ). IsTrue (is_some (host_of x)) → IsTrue (is_some (host_of y)) → option_and_then at (host_of x) ≢ option_and_then at (host_of y)) same apart

  owner_among : (x : Instance) → HasOwnerAmong hosts x → HasOwnerAmong others x
  owner_among x among = cases (host_of x) among
    where
      cases : (o : Option ℕ) → IfSome o (λ host. IsTrue (is_some (nth hosts host))) → IfSome o (λ host. IsTrue (is_some (nth others host)))
      cases None among = tt
      cases (Some host) among = users.stands host ∙ among

  all_owners : (xs : List Instance) → All (HasOwnerAmong hosts) xs → All (HasOwnerAmong others) xs
  all_owners xs all = λ k d within. owner_among (get_or xs k d) (all k d within)

  all_apart : (xs : List Instance) → AllPairs (AreOfOtherUsers hosts) xs → AllPairs (AreOfOtherUsers others) xs
  all_apart xs pairs = λ i j d below within. other_users (get_or xs i d) (get_or xs j d) (pairs i j d below within)

  -- a workunit that is not open stays as it is
  closed_settled : (b : UnitBook) → IsWellUnit hosts apps b → is_open (book_status apps b) ≡ false → IsSettledUnit others apps b
  closed_settled b well closed = record {
    satisfied = λ now. (let never : true ≡ false = sym now ∙ closed in absurd cc);
    well = record {
      one_for_each_user = all_apart b.instances well.one_for_each_user;
      places = well.places;
      in_range = well.in_range;
      bare = well.bare;
      owners = all_owners b.instances well.owners;
      app = well.app;
      few = well.few;
      limits = well.limits;
      instances = well.instances;
    };
  }

  -- fresh instances after its own
  open_settled : (b : UnitBook) → IsWellUnit hosts apps b → is_open (book_status apps b) ≡ true
      → IsSettledUnit others apps (record b { instances = b.instances ++ replicate (need b.unit b.instances) fresh })
  open_settled b well is_it =
      let xs : List Instance = b.instances in
      let n : ℕ = need b.unit b.instances in
      let more : List Instance = replicate n fresh in
      let many : count_by is_judged (xs ++ more) ≡ count_by is_judged xs = count_none is_judged xs n fresh refl in
      let total : length b.instances + need b.unit b.instances ≤ b.unit.max_total_results = open_total (agreement_by apps b.unit.app) b.unit b.instances is_it in
      let most : b.unit.max_total_results ≤ most_instances = well.limits.total.1 in
      let long : length (xs ++ more) ≡ length xs + length more = length-append xs more in
      let added : length more ≡ n = length-replicate n fresh in
      record {
        satisfied = λ still. grown_needs_none b.unit b.instances;
        well = record {
          one_for_each_user = pairs_more (AreOfOtherUsers others) xs n fresh (λ x given also. absurd cc) (all_apart xs well.one_for_each_user);
          places = λ m within.
              list_any-append (λ x. option_any (λ place. place == m + 1) (report_place x)) xs more
              ∙ ap (λ (c : Bool). c || list_any (λ x. option_any (λ place. place == m + 1) (report_place x)) more) (well.places m (omega arith));
          in_range =
              subst (λ m. All (λ x. IfSome (report_place x) (λ place. place ≤ m)) (xs ++ more)) (sym many)
              (All-append (λ x. IfSome (report_place x) (λ place. place ≤ count_by is_judged xs)) xs more well.in_range
              (All-replicate (λ x. IfSome (report_place x) (λ place. place ≤ count_by is_judged xs)) n fresh tt));
          bare = All-append IsBare xs more well.bare (All-replicate IsBare n fresh (λ none. (refl, refl)));
          owners = All-append (HasOwnerAmong others) xs more (all_owners xs well.owners) (All-replicate (HasOwnerAmong others) n fresh tt);
          app = well.app;
          few = omega arith;
          limits = well.limits;
          instances = All-append IsInstanceInLimits xs more well.instances
              (All-replicate IsInstanceInLimits n fresh fresh_in_limits);
        };
      }

  pub grown_settled : (b : UnitBook) → IsWellUnit hosts apps b → IsSettledUnit others apps (grown apps b)
  grown_settled b well = cases (is_open (book_status apps b)) refl
    where
      cases : (t : Bool) → is_open (book_status apps b) ≡ t
          → IsSettledUnit others apps (cond t (record b { instances = b.instances ++ replicate (need b.unit b.instances) fresh }) b)
      cases true is_it = open_settled b well is_it
      cases false closed = closed_settled b well closed
