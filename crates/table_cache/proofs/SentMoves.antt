-- How many jobs a host was sent on a day moves with the jobs.
use Rattle.std.proofs.Common.{◌≡◌, ◌<◌, ◌≤◌, ◌+◌, ◌-◌, ◌/◌, ◌&&◌, ℕ, zero, suc, Bool, true, false, cond, eqb, arith, List, [], ◌∷◌, ◌++◌, length, sum_by, count_by, Option, Some, None, refl, sym, ◌∙◌, inl, inr, ap}
use Rattle.std.specs.Prelude.{option_and_then, option_map, slice_get, slice_set, unwrap_or, IfSome}
use Rattle.std.specs.BTreeMap.{get}
use Rattle.std.specs.List.{range_with_len}
use Rattle.std.specs.Ordering.{nat_cmp}
use Rattle.std.proofs.Math.Dec.{eqb-suc-zero, eqb-zero-suc, eqb-suc-suc}
use Rattle.std.proofs.lemmas.Bool.Decides.{nat_tests}
use Rattle.std.proofs.lemmas.List.Sums.{sum_by-cons}
use Rattle.sched_book.specs.Desk.{instances_at}
use Rattle.sched_book.specs.Places.{nth, option_any, was_sent, sent_on_day}
use Rattle.sched_book.specs.declared.instance.Instance.{Instance}
use Rattle.sched_book.specs.declared.instance.Owner.{Owner}
use Rattle.sched_book.specs.declared.instance.UnitBook.{UnitBook}
use Rattle.sched_book.specs.declared.world.World.{World}
use Rattle.sched_book.proofs.PlacesOf.{nth-suc}
use Rattle.table_cache.specs.Carrying.{sending_of, given_to, weight, with_one, sent_of_unit, sent_among, AreSentOf, HaveOneMore, IsRenewed}
use Rattle.table_cache.specs.LastNumbers.{AreNoJobsPast, IsAtMost, IsPastLast}
use Rattle.table_cache.specs.RowsRead.{HoldOfEach, HasKept, IsWithout}
use Rattle.table_cache.specs.declared.sent.Sending.{Sending}
use Rattle.table_cache.specs.declared.sent.SentRead.{SentRead}
use Rattle.table_cache.specs.declared.rows_read.RowsRead.{RowsRead}
use Rattle.table_cache.proofs.CreditMoves.{hold_of_none, sum_moved, sum_of_list}
use Rattle.table_cache.proofs.RowsKept.{one_number}

-- a job counts by its host and its day
weighed_as : ℕ → ℕ → Option Sending → ℕ
weighed_as host day None = 0
weighed_as host day (Some s) = given_to host day s

weighed : (host day : ℕ) (job : Option Instance) → weight host day job ≡ weighed_as host day (option_and_then sending_of job)
unfolding weighed_as
weighed host day None = refl
weighed host day (Some x) = of_owner x.owner
  where
    of_owner : (o : Option Owner)
        → cond (option_any (λ (o : Owner). eqb o.host host && eqb (o.sent / 86400) day) o) 1 0
        ≡ weighed_as host day (option_map (λ (o : Owner). record { host = o.host; day = o.sent / 86400 }) o)
    of_owner None = refl
    of_owner (Some o) = refl

moved_by : (then now row_then row_now here there : ℕ) → row_then + there ≡ row_now + here → then + row_now ≡ now + row_then → then + there ≡ now + here
moved_by then now row_then row_now here there inside outside = omega arith

-- ---- one job that is another one

module _ (jobs : ℕ → ℕ → Option Instance) (unit number : ℕ) (x : Instance) where
  abbrev then : ℕ → ℕ → Option Instance
  then = with_one jobs unit number x

  other_unit : (host day numbers u : ℕ) → eqb unit u ≡ false → sent_of_unit then host day numbers u ≡ sent_of_unit jobs host day numbers u
  other_unit host day numbers u other = ap (λ (b : Bool). sum_by (λ n. weight host day (cond b (cond (eqb number n) (Some x) (jobs u n)) (jobs u n))) (range_with_len 0 numbers)) other

  other_number : (host day n : ℕ) → eqb number n ≡ false → weight host day (then unit n) ≡ weight host day (jobs unit n)
  other_number host day n other =
      let same : eqb unit unit ≡ true = grind (arith, nat_tests) in
      ap (λ (b : Bool). weight host day (cond b (cond (eqb number n) (Some x) (jobs unit n)) (jobs unit n))) same ∙ ap (λ (b : Bool). weight host day (cond b (Some x) (jobs unit n))) other

  here : (host day : ℕ) → weight host day (then unit number) ≡ weight host day (Some x)
  here host day =
      let one : eqb unit unit ≡ true = grind (arith, nat_tests) in
      let same : eqb number number ≡ true = grind (arith, nat_tests) in
      ap (λ (b : Bool). weight host day (cond b (cond (eqb number number) (Some x) (jobs unit number)) (jobs unit number))) one ∙ ap (λ (b : Bool). weight host day (cond b (Some x) (jobs unit number))) same

  -- how many a host was sent moves by the difference
  sent_moved : (host day units numbers : ℕ) → unit < units → number < numbers → sent_among then host day units numbers + weight host day (jobs unit number) ≡ sent_among jobs host day units numbers + weight host day (Some x)
  sent_moved host day units numbers unit_within number_within =
      let inside = sum_moved (λ n. weight host day (then unit n)) (λ n. weight host day (jobs unit n)) number (other_number host day) numbers 0 (omega arith) (omega arith) in
      let outside = sum_moved (sent_of_unit then host day numbers) (sent_of_unit jobs host day numbers) unit (other_unit host day numbers) units 0 (omega arith) (omega arith) in
      moved_by (sent_among then host day units numbers) (sent_among jobs host day units numbers) (sent_of_unit then host day numbers unit) (sent_of_unit jobs host day numbers unit)
      (weight host day (Some x)) (weight host day (jobs unit number)) (inside ∙ ap (λ m. sent_of_unit jobs host day numbers unit + m) (here host day)) outside

  among_then : (host day units numbers more further count : ℕ)
      → ((more further : ℕ) → count + weight host day (jobs unit number) ≡ sent_among jobs host day (units + more) (numbers + further) + weight host day (Some x))
      → count ≡ sent_among then host day (units + suc unit + more) (numbers + suc number + further)
  among_then host day units numbers more further count moved =
      let until : units + suc unit + more ≡ units + (suc unit + more) = omega arith in
      let within : numbers + suc number + further ≡ numbers + (suc number + further) = omega arith in
      let was = moved (suc unit + more) (suc number + further) in
      let now = sent_moved host day (units + (suc unit + more)) (numbers + (suc number + further)) (omega arith) (omega arith) in
      let is : count ≡ sent_among then host day (units + (suc unit + more)) (numbers + (suc number + further)) = omega (arith, was, now) in
      is ∙ (λ i. sent_among then host day (sym until i) (sym within i))

  -- if it counts as before, all stays
  pub sent_stays : (units numbers : ℕ) (sent : RowsRead ℕ SentRead) → option_and_then sending_of (jobs unit number) ≡ sending_of x → AreSentOf jobs units numbers sent → AreSentOf then (units + suc unit) (numbers + suc number) sent
  sent_stays units numbers sent same are = λ host s is more further.
      let equal : weight host s.day (jobs unit number) ≡ weight host s.day (Some x) = weighed host s.day (jobs unit number) ∙ ap (weighed_as host s.day) same ∙ sym (weighed host s.day (Some x)) in
      among_then host s.day units numbers more further s.count (λ m f. let was = are host s is m f in omega (arith, was, equal))

  -- if it was not given, and is now, there is one more
  pub sent_more : (units numbers : ℕ) (before after : RowsRead ℕ SentRead) (one : Sending) → option_and_then sending_of (jobs unit number) ≡ None → sending_of x ≡ Some one
      → AreSentOf jobs units numbers before → HaveOneMore one before after → AreSentOf then (units + suc unit) (numbers + suc number) after
  unfolding weighed_as
  sent_more units numbers before after one none given are more_is = λ host s is more further.
      let had = more_is host s is in
      let t = had.0 in
      let nothing : weight host s.day (jobs unit number) ≡ 0 = weighed host s.day (jobs unit number) ∙ ap (weighed_as host s.day) none in
      let adds : weight host s.day (Some x) ≡ given_to host t.day one = weighed host s.day (Some x) ∙ ap (weighed_as host s.day) given ∙ ap (λ d. given_to host d one) had.2 in
      among_then host s.day units numbers more further s.count (λ m f.
      let was : t.count ≡ sent_among jobs host s.day (units + m) (numbers + f) = are host t had.1 m f ∙ ap (λ d. sent_among jobs host d (units + m) (numbers + f)) (sym had.2) in
      let now = had.3 in
      omega (arith, was, now, nothing, adds))

-- ---- one job more in what is known of a host

pub added : (before mid after : RowsRead ℕ SentRead) (one : Sending) (read more : SentRead) → Some read ≡ get nat_cmp before.rows one.host → IsWithout nat_cmp before mid one.host
    → more.day ≡ read.day → more.count ≡ read.count + given_to one.host read.day one → HasKept nat_cmp mid after one.host more → HaveOneMore one before after
added before mid after one read more found without day count kept = λ host s is. elim (kept host s is) [
  | inl it ↦
      let same : one.host ≡ host = one_number one.host host it.0 in (
        read,
        sym (found ∙ ap (get nat_cmp before.rows) same),
        ap (λ (r : SentRead). r.day) it.1 ∙ day,
        ap (λ (r : SentRead). r.count) it.1 ∙ count ∙ ap (λ h. read.count + given_to h read.day one) same,
      )
  | inr other ↦ none_more before mid one without host s other
]
  where
    none_more : (before mid : RowsRead ℕ SentRead) (one : Sending) → IsWithout nat_cmp before mid one.host → HaveOneMore one before mid
    none_more before mid one without = λ host s is.
        let was = without host s is in
        let apart : eqb one.host host ≡ false = grind (arith, nat_tests, was.0) in
        let none : given_to host s.day one ≡ 0 = ap (λ (b : Bool). cond (b && eqb one.day s.day) 1 0) apart in
        (s, was.1, refl, (let same : s.count ≡ s.count + given_to host s.day one = omega (arith, none) in same))

-- ---- what is known of jobs

-- what is at an index after one element was written
got_of_set : {X : Type 0} (xs : List X) (i j : ℕ) (x : X) → i < length xs → slice_get (slice_set xs i x) j ≡ cond (eqb i j) (Some x) (slice_get xs j)
got_of_set [] i j x within = absurd (omega arith)
got_of_set (y ∷ ys) zero zero x within = refl
got_of_set (y ∷ ys) zero (suc j) x within = sym (ap (λ (b : Bool). cond b (Some x) (slice_get ys j)) (eqb-zero-suc j))
got_of_set (y ∷ ys) (suc i) zero x within = sym (ap (λ (b : Bool). cond b (Some x) (Some y)) (eqb-suc-zero i))
got_of_set (y ∷ ys) (suc i) (suc j) x within = got_of_set ys i j x (omega arith) ∙ sym (ap (λ (b : Bool). cond b (Some x) (slice_get ys j)) (eqb-suc-suc i j))

pub is_renewed : (number : ℕ) (x : Instance) (old : List Instance) → number < length old → IsRenewed number x old (slice_set old number x)
is_renewed number x old within = λ at. got_of_set old number at x within

-- what is at an index after one element was added
got_of_push : {X : Type 0} (xs : List X) (x : X) (j : ℕ) → slice_get (xs ++ x ∷ []) j ≡ cond (eqb (length xs) j) (Some x) (slice_get xs j)
got_of_push [] x zero = refl
got_of_push [] x (suc j) = sym (ap (λ (b : Bool). cond b (Some x) None) (eqb-zero-suc j))
got_of_push (y ∷ ys) x zero = sym (ap (λ (b : Bool). cond b (Some x) (Some y)) (eqb-suc-zero (length ys)))
got_of_push (y ∷ ys) x (suc j) = got_of_push ys x j ∙ sym (ap (λ (b : Bool). cond b (Some x) (slice_get ys j)) (eqb-suc-suc (length ys) j))

pub is_next : (number : ℕ) (x : Instance) (old : List Instance) → number ≡ length old → IsRenewed number x old (old ++ x ∷ [])
is_next number x old next = λ at. got_of_push old x at ∙ ap (λ n. cond (eqb n at) (Some x) (slice_get old at)) (sym next)

abbrev AreKnown : (ℕ → ℕ → Option Instance) → RowsRead ℕ (List Instance) → Type 0
AreKnown jobs known = HoldOfEach nat_cmp (λ unit xs. (number : ℕ) → slice_get xs number ≡ jobs unit number) known

-- other workunits than that of a job that is put
pub others_known : (jobs : ℕ → ℕ → Option Instance) (unit number : ℕ) (x : Instance) (before mid : RowsRead ℕ (List Instance)) → AreKnown jobs before → IsWithout nat_cmp before mid unit → AreKnown (with_one jobs unit number x) mid
others_known jobs unit number x before mid each without = λ u xs is n.
    let was = without u xs is in
    let apart : eqb unit u ≡ false = grind (arith, nat_tests, was.0) in
    each u xs was.1 n ∙ sym (ap (λ (b : Bool). cond b (cond (eqb number n) (Some x) (jobs u n)) (jobs u n)) apart)

-- and the instances of its workunit with it
pub job_renewed : (jobs : ℕ → ℕ → Option Instance) (unit number : ℕ) (x : Instance) (before mid after : RowsRead ℕ (List Instance)) (old new : List Instance) → AreKnown jobs before → Some old ≡ get nat_cmp before.rows unit
    → IsWithout nat_cmp before mid unit → IsRenewed number x old new → HasKept nat_cmp mid after unit new → AreKnown (with_one jobs unit number x) after
job_renewed jobs unit number x before mid after old new each found without renewed kept = λ u xs is n. elim (kept u xs is) [
  | inl it ↦
      let one : unit ≡ u = one_number unit u it.0 in
      let same : eqb unit u ≡ true = grind (arith, nat_tests, it.0) in
      let known : slice_get old n ≡ jobs u n = each unit old (sym found) n ∙ ap (λ k. jobs k n) one in
      ap (λ (ys : List Instance). slice_get ys n) it.1 ∙ renewed n ∙ ap (λ (o : Option Instance). cond (eqb number n) (Some x) o) known
      ∙ sym (ap (λ (b : Bool). cond b (cond (eqb number n) (Some x) (jobs u n)) (jobs u n)) same)
  | inr other ↦ others_known jobs unit number x before mid each without u xs other n
]

-- nothing is counted
pub none_counted : (jobs : ℕ → ℕ → Option Instance) (units numbers : ℕ) (sent : RowsRead ℕ SentRead) → ((key : ℕ) → get nat_cmp sent.rows key ≡ None) → AreSentOf jobs units numbers sent
none_counted jobs units numbers sent none =
    hold_of_none nat_cmp (λ host (s : SentRead). (more further : ℕ) → s.count ≡ sent_among jobs host s.day (units + more) (numbers + further)) sent none

-- ---- one place past the last

pub no_jobs_at : (jobs : ℕ → ℕ → Option Instance) (last : Option ℕ) (unit : ℕ) → IsPastLast last unit → IfSome last (AreNoJobsPast jobs) → (number : ℕ) → jobs unit number ≡ None
no_jobs_at jobs None unit past none number = absurd past
no_jobs_at jobs (Some last) unit past none number = none unit number past

-- at a greater place there is none either
pub no_jobs_past : (jobs : ℕ → ℕ → Option Instance) (last : Option ℕ) (unit : ℕ) → IsPastLast last unit → IfSome last (AreNoJobsPast jobs) → AreNoJobsPast jobs unit
no_jobs_past jobs None unit past none = absurd past
no_jobs_past jobs (Some last) unit past none = λ other number after. none other number (omega (arith, past, after))

-- with one more
pub no_jobs_with : (jobs : ℕ → ℕ → Option Instance) (unit number : ℕ) (x : Instance) (last new : Option ℕ) → IfSome new (IsAtMost last unit) → IfSome last (AreNoJobsPast jobs)
    → IfSome new (AreNoJobsPast (with_one jobs unit number x))
no_jobs_with jobs unit number x last None most none = tt
no_jobs_with jobs unit number x None (Some n) most none = absurd most
no_jobs_with jobs unit number x (Some l) (Some n) most none = λ other at past.
    let apart : eqb unit other ≡ false = grind (arith, nat_tests, most.1, past) in
    ap (λ (b : Bool). cond b (cond (eqb number at) (Some x) (jobs other at)) (jobs other at)) apart ∙ none other at (omega (arith, most.0, past))

-- the instances of a workunit that has none, in a list
pub none_listed : (jobs : ℕ → ℕ → Option Instance) (unit : ℕ) (before after : RowsRead ℕ (List Instance)) (new : List Instance) → AreKnown jobs before → HasKept nat_cmp before after unit new → new ≡ []
    → ((number : ℕ) → jobs unit number ≡ None) → AreKnown jobs after
none_listed jobs unit before after new each kept empty none = λ u xs is n. elim (kept u xs is) [
  | inl it ↦ ap (λ (ys : List Instance). slice_get ys n) (it.1 ∙ empty) ∙ sym (none n) ∙ ap (λ k. jobs k n) (one_number unit u it.0)
  | inr other ↦ each u xs other n
]

-- ---- the jobs of a world

-- none of these workunits has an instance of this number or of a later one
pub most_numbers : List UnitBook → ℕ
most_numbers books = sum_by (λ (b : UnitBook). length b.instances) books

at_most : (books : List UnitBook) (i : ℕ) (b : UnitBook) → slice_get books i ≡ Some b → length b.instances ≤ most_numbers books
unfolding most_numbers
at_most [] i b is = absurd cc
at_most (c ∷ books) zero b is =
    let all = sum_by-cons (λ (b : UnitBook). length b.instances) c books in
    let same : length c.instances ≡ length b.instances = ap (λ (o : Option UnitBook). unwrap_or (option_map (λ (b : UnitBook). length b.instances) o) 0) is in
    omega (arith, all, same)
at_most (c ∷ books) (suc i) b is =
    let all = sum_by-cons (λ (b : UnitBook). length b.instances) c books in
    let rest : length b.instances ≤ sum_by (λ (b : UnitBook). length b.instances) books = at_most books i b is in
    omega (arith, all, rest)

-- a host was sent on a day what these count
pub sent_shared : (w : World) (host day more further : ℕ) → sent_on_day w host day ≡ sent_among (λ unit number. slice_get (instances_at w unit) number) host day (suc (length w.units) + more) (most_numbers w.units + further)
sent_shared w host day more further =
    let f = λ (b : UnitBook). count_by (was_sent host day) b.instances in
    let jobs = λ (unit number : ℕ). slice_get (instances_at w unit) number in
    let numbers = most_numbers w.units + further in
    let g = sent_of_unit jobs host day numbers in
    let units = w.units in
    let listed : sum_by f units ≡ sum_by g (range_with_len 1 (length units + more)) = sum_of_list f g units 1 more each in
    let first = sum_by-cons g 0 (range_with_len 1 (length units + more)) in
    let none : g 0 ≡ 0 = sym (of_list [] numbers numbers (let zero_is : numbers ≡ 0 + numbers = omega arith in zero_is)) in
    let whole : sent_on_day w host day ≡ sum_by g (0 ∷ range_with_len 1 (length units + more)) = omega (arith, listed, first, none) in
    whole ∙ ap (λ k. sum_by g (range_with_len 0 k)) (let more_of : suc (length units + more) ≡ suc (length units) + more = omega arith in more_of)
  where
    one_job : (o : Option Instance) → weight host day o ≡ unwrap_or (option_map (λ x. cond (was_sent host day x) 1 0) o) 0
    one_job None = refl
    one_job (Some x) = refl

    -- the jobs of a list, counted by their numbers
    of_list : (xs : List Instance) (numbers over : ℕ) → numbers ≡ length xs + over → count_by (was_sent host day) xs ≡ sum_by (λ n. weight host day (slice_get xs n)) (range_with_len 0 numbers)
    of_list xs numbers over is =
        sum_of_list (λ x. cond (was_sent host day x) 1 0) (λ n. weight host day (slice_get xs n)) xs 0 over (λ i. ap (λ n. weight host day (slice_get xs n)) (let at : 0 + i ≡ i = omega arith in at) ∙ one_job (slice_get xs i))
        ∙ ap (λ k. sum_by (λ n. weight host day (slice_get xs n)) (range_with_len 0 k)) (sym is)

    of_book : (o : Option UnitBook) → ((b : UnitBook) → o ≡ Some b → length b.instances ≤ most_numbers w.units)
        → sum_by (λ n. weight host day (slice_get (unwrap_or (option_map (λ (b : UnitBook). b.instances) o) []) n)) (range_with_len 0 (most_numbers w.units + further))
        ≡ unwrap_or (option_map (λ (b : UnitBook). count_by (was_sent host day) b.instances) o) 0
    of_book None few = sym (of_list [] (most_numbers w.units + further) (most_numbers w.units + further) (omega arith))
    of_book (Some b) few =
        let within = few b refl in
        let over = most_numbers w.units - length b.instances + further in
        sym (of_list b.instances (most_numbers w.units + further) over (omega (arith, within)))

    each : (i : ℕ) → sent_of_unit (λ unit number. slice_get (instances_at w unit) number) host day (most_numbers w.units + further) (1 + i) ≡ unwrap_or (option_map (λ (b : UnitBook). count_by (was_sent host day) b.instances) (slice_get w.units i)) 0
    each i =
        let at : 1 + i ≡ suc i = omega arith in
        let there : nth w.units (1 + i) ≡ slice_get w.units i = ap (nth w.units) at ∙ nth-suc w.units i in
        of_book (nth w.units (1 + i)) (λ b is. at_most w.units i b (sym there ∙ is))
        ∙ ap (λ (o : Option UnitBook). unwrap_or (option_map (λ (b : UnitBook). count_by (was_sent host day) b.instances) o) 0) there
