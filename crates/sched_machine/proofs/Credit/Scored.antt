-- The credit of a host and of a user after a call is what it was before, plus what the scores of settlement bring. A grant
-- after settlement brings nothing.
use Rattle.std.proofs.Common.{◌≡◌, ℕ, zero, suc, ◌+◌, ◌-◌, ◌*◌, ◌<◌, ◌≤◌, Bool, true, false, cond, eqb, eqb-true, eq-eqb, inl, List, [], ◌∷◌, length, get_or, All, AllPairs, Option, Some, None, sym, refl, ap, ap₂, ◌∙◌, subst, arith, ne_eqb}
use Rattle.std.proofs.lemmas.Bool.{false_from_ne_true}
use Rattle.std.specs.Prelude.{◌&&◌, ◌==◌, IsTrue, sum_by, count_by, is_some, option_map, option_and_then, unwrap_or, slice_get, IfSome}
use Rattle.std.specs.List.{enumerate_from}
use Rattle.std.proofs.lemmas.List.Elements.{All-head, All-tail}
use Rattle.std.proofs.lemmas.List.Sums.{sum_by-cons}
use Rattle.rpc_records.specs.Ranges.{IsInRange}
use Rattle.rpc_records.specs.declared.request.Request.{Request}
use Rattle.sched_book.specs.Count.{agree, tells_success, reported_place, reported_output, is_judged, has_failed, is_valid, canonical, verdict, verdict_by}
use Rattle.sched_book.specs.Fits.{is_eligible}
use Rattle.sched_book.specs.Grant.{IsGrant}
use Rattle.sched_book.specs.Limits.{last_moment}
use Rattle.sched_book.specs.Lost.{delay_at}
use Rattle.sched_book.specs.Places.{nth, unit_at, option_any, host_of, is_owned_by, agreement_by, book_status, book_verdict, verdict_of, credit_in, host_credit, user_credit, instance_at}
use Rattle.sched_book.specs.Reports.{modify_at, modify_nth, with_number, with_changed}
use Rattle.sched_book.specs.Sound.{IsBare, HasOwnerAmong, IsSoundUnit, Sound}
use Rattle.sched_book.specs.Step.{IsCaller, HasRoom, after_settlement, host_number, asking_of, with_owner, grant_one, granted}
use Rattle.sched_book.specs.declared.instance.Instance.{Instance}
use Rattle.sched_book.specs.declared.instance.Owner.{Owner}
use Rattle.sched_book.specs.declared.instance.Place.{Place}
use Rattle.sched_book.specs.declared.instance.UnitBook.{UnitBook}
use Rattle.sched_book.specs.declared.instance.Verdict.{Verdict}
use Rattle.sched_book.specs.declared.instance.Verdict.TheVariants.{Valid, Invalid}
use Rattle.sched_book.specs.declared.machine.Caller.{Caller}
use Rattle.sched_book.specs.declared.rows.Agreement.{Agreement}
use Rattle.sched_book.specs.declared.rows.App.{App}
use Rattle.sched_book.specs.declared.rows.HostRow.{HostRow}
use Rattle.sched_book.specs.declared.rows.Workunit.{Workunit}
use Rattle.sched_book.specs.declared.world.World.{World}
use Rattle.sched_book.proofs.Changes.{count_changed, sum_changed_at}
use Rattle.sched_book.proofs.Credits.{sum_same, sum_zero, exchange, of_number, sum_plus}
use Rattle.sched_book.proofs.PlacesOf.{nth-suc, slice_get-modify_at}
use Rattle.sched_book.proofs.Recording.{instance_at-with_changed}
use Rattle.sched_book.proofs.Rising.{pairs_head, pairs_tail}
use Rattle.sched_book.proofs.Settling.{slice_get-enumerate_from}
use Rattle.job_choice.proofs.Candidates.{stood}
use Rattle.quorum_credit.specs.CreditKept.{UnitContinues, CreditContinues}
use Rattle.quorum_credit.specs.Scores.{credits_in}
use Rattle.quorum_credit.specs.Settling.{AreScores}
use Rattle.quorum_credit.specs.declared.scores.Score.{Score}
use Rattle.sched_book.proofs.ByPlace.{all_get, all_nth}
use Rattle.quorum_credit.proofs.FitReports.{limited_from_sound}
use Rattle.quorum_credit.proofs.ScoredCredit.{host_credit-scored, host_credit-none}
use Rattle.sched_machine.specs.Decisions.{verdict_at}
use Rattle.sched_machine.specs.Totals.{belongs, user_credits_in}
use Rattle.sched_machine.proofs.Decided.Changes.{UnitBecame, UnitBecameAt, owner_became}
use Rattle.sched_machine.proofs.Decided.Good.{BecameAt, AllBecame, Continues, good_continues}
use Rattle.sched_machine.proofs.Decided.Steps.{WorldBecame, settled_became}
use Rattle.sched_machine.proofs.Decided.Sums.{no_verdict}
use Rattle.sched_machine.proofs.Decided.Units.{canonical_same, canonical_equal}
use Rattle.sched_machine.proofs.Decided.Worlds.{world_stays}
use Rattle.sched_machine.proofs.Rows.Entry.{AccountsStay}
use Rattle.sched_machine.proofs.Moves.Moves.{eligible_is_free}
use Rattle.sched_machine.proofs.Moves.Sound.{settled_sound}
use Rattle.call_working_set.proofs.Sums.{sum_from, sum_listed}

-- a verdict on a valid result
valid_verdict : (o : Option Verdict) → is_valid o ≡ true → o ≡ Some Valid
valid_verdict None is = absurd cc
valid_verdict (Some Valid) is = refl
valid_verdict (Some Invalid) is = absurd cc

-- A sound world and what it became: each valid result stays valid, with its host.
module _ (old new : World) (sound : Sound old) (became : WorldBecame old new) where
  -- an instance that belongs to a host still does
  host_stays : (x y : Instance) → is_some x.owner ≡ true → ((host : ℕ) → is_owned_by host x ≡ true → is_owned_by host y ≡ true) → host_of y ≡ host_of x
  host_stays x y given owned = cases x.owner y.owner given owned
    where
      cases : (o q : Option Owner) → is_some o ≡ true
          → ((host : ℕ) → option_any (λ n. n == host) (option_map (λ (o : Owner). o.host) o) ≡ true → option_any (λ n. n == host) (option_map (λ (o : Owner). o.host) q) ≡ true)
          → option_map (λ (o : Owner). o.host) q ≡ option_map (λ (o : Owner). o.host) o
      cases None q given owned = absurd cc
      cases (Some o) None given owned = absurd (let never : false ≡ true = owned o.host (eq-eqb o.host o.host refl) in cc)
      cases (Some o) (Some q) given owned = ap Some (eqb-true q.host o.host (owned o.host (eq-eqb o.host o.host refl)))

  valid_stays : (unit : ℕ) (b c : UnitBook) → unit_at old unit ≡ Some b → unit_at new unit ≡ Some c → UnitBecame old.apps b c
      → (number : ℕ) (x : Instance) → slice_get b.instances number ≡ Some x → is_valid (book_verdict old.apps b x) ≡ true
      → (y : Instance) × (slice_get c.instances number ≡ Some y) × (is_valid (book_verdict new.apps c y) ≡ true) × (host_of y ≡ host_of x)
  valid_stays unit b c stood stands is number x was valid =
      cases (slice_get c.instances number) refl (subst (λ o. BecameAt n failed o (slice_get c.instances number)) was (is.became number))
    where
      n : ℕ
      n = count_by is_judged b.instances

      failed : Bool
      failed = has_failed (book_status old.apps b)

      p : Place
      p = record { unit = unit; number = number }

      known : book_verdict old.apps b x ≡ Some Valid
      known = valid_verdict (book_verdict old.apps b x) valid

      later : verdict_at new p ≡ Some Valid
      later =
          (world_stays old new sound became).verdicts p Valid
          (ap (option_and_then (λ (b : UnitBook). option_and_then (verdict_of old b) (slice_get b.instances number))) stood
          ∙ ap (option_and_then (verdict_of old b)) was ∙ known)

      bare : IsBare x
      bare = all_get IsBare b.instances number x (all_nth (IsSoundUnit old.hosts old.apps) old.units unit b sound.units stood).well.bare was

      given : (o : Option Owner) → x.owner ≡ o → is_some x.owner ≡ true
      given None none =
          let nothing : None ≡ Some Valid =
          sym (no_verdict (agreement_by old.apps b.unit.app) b.instances (canonical (agreement_by old.apps b.unit.app) b.unit b.instances) x (bare none).1) ∙ known in
          absurd cc
      given (Some o) some = ap is_some some

      cases : (o : Option Instance) → slice_get c.instances number ≡ o → BecameAt n failed (Some x) o
          → (y : Instance) × (slice_get c.instances number ≡ Some y) × (is_valid (book_verdict new.apps c y) ≡ true) × (host_of y ≡ host_of x)
      cases None there never = absurd never
      cases (Some y) there became_y = (
        y,
        there,
        ap is_valid (sym (ap (option_and_then (λ (b : UnitBook). option_and_then (verdict_of new b) (slice_get b.instances number))) stands
            ∙ ap (option_and_then (verdict_of new c)) there) ∙ later),
        host_stays x y (given x.owner refl) became_y.owned,
      )

  credit_goes_on : CreditContinues old new
  credit_goes_on = record {
    each = λ unit b stood. cases unit b stood (unit_at new unit) refl (subst (λ o. UnitBecameAt old.apps o (unit_at new unit)) stood (became.units unit));
  }
    where
      cases : (unit : ℕ) (b : UnitBook) → unit_at old unit ≡ Some b → (o : Option UnitBook) → unit_at new unit ≡ o → UnitBecameAt old.apps (Some b) o
          → (c : UnitBook) × (unit_at new unit ≡ Some c) × UnitContinues old new b c
      cases unit b stood None stands never = absurd never
      cases unit b stood (Some c) stands is = (c, stands, record { row = is.row; valid = valid_stays unit b c stood stands is })

-- each report's place is at most the sum of all
place_low : (xs : List Instance) (i : ℕ) (x : Instance) → slice_get xs i ≡ Some x → reported_place x.report ≤ sum_by (λ (x : Instance). reported_place x.report) xs
place_low [] i x stands = absurd cc
place_low (y ∷ ys) zero x stands =
    let same : reported_place y.report ≡ reported_place x.report = ap (λ (z : Instance). reported_place z.report) (let is : y ≡ x = cc in is) in
    let all : sum_by (λ (x : Instance). reported_place x.report) (y ∷ ys) ≡ reported_place y.report + sum_by (λ (x : Instance). reported_place x.report) ys =
    sum_by-cons (λ (x : Instance). reported_place x.report) y ys in
    omega arith
place_low (y ∷ ys) (suc i) x stands =
    let rest : reported_place x.report ≤ sum_by (λ (x : Instance). reported_place x.report) ys = place_low ys i x stands in
    let all : sum_by (λ (x : Instance). reported_place x.report) (y ∷ ys) ≡ reported_place y.report + sum_by (λ (x : Instance). reported_place x.report) ys =
    sum_by-cons (λ (x : Instance). reported_place x.report) y ys in
    omega arith

-- One instance of a list, which has no owner and no report, is given to a host: the verdicts stay the same.
module _ (o : Owner) (xs : List Instance) (n : ℕ)
    (untold : (x : Instance) → slice_get xs n ≡ Some x → (x.owner ≡ None) × (x.report ≡ None)) where
  abbrev ys : List Instance
  ys = modify_at (with_owner o) xs n

  abbrev most : ℕ
  most = sum_by (λ (x : Instance). reported_place x.report) xs

  became_given : AllBecame most true xs ys
  became_given i =
      subst (BecameAt most true (slice_get xs i)) (sym (slice_get-modify_at (with_owner o) xs n i)) (cases (eqb n i) refl (slice_get xs i) refl)
    where
      cases : (t : Bool) → eqb n i ≡ t → (q : Option Instance) → slice_get xs i ≡ q → BecameAt most true q (cond t (option_map (with_owner o) q) q)
      cases true is None stood = tt
      cases false is None stood = tt
      cases false is (Some x) stood = record { report = inl refl; live = λ is. is; owned = λ host is. is }
      cases true is (Some x) stood =
          owner_became most true o x (untold x (ap (slice_get xs) (eqb-true n i is) ∙ stood)).0

  verdict_same : (a : Agreement) (u : Workunit) (x : Instance) → verdict a u ys x ≡ verdict a u xs x
  verdict_same a u x = ap (λ q. verdict_by a ys q x) (canonical_equal a u true xs ys on refl) ∙ cases (canonical a u xs) refl
    where
      on : Continues true xs ys
      on = good_continues most true xs ys (λ i x stands is. place_low xs i x stands) became_given

      cases : (q : Option ℕ) → canonical a u xs ≡ q → verdict_by a ys q x ≡ verdict_by a xs q x
      cases None is = refl
      cases (Some c) is =
          ap (λ q. cond (tells_success x.report) (Some (cond (agree a (reported_output x.report) (reported_output q)) Valid Invalid)) None)
          (canonical_same a u true xs ys on c is)

-- an instance without owner and report
abbrev IsUntold : Instance → Type 0
IsUntold x = (x.owner ≡ None) × (x.report ≡ None)

abbrev IsUntoldAt : World → Place → Type 0
IsUntoldAt w p = (x : Instance) → instance_at w p ≡ Some x → IsUntold x

-- a change of another workunit keeps it so
elsewhere : (f : Instance → Instance) (w : World) (p q : Place) → p.unit < q.unit → IsUntoldAt w q → IsUntoldAt (with_changed f w p) q
elsewhere f w p q before untold y stands =
    untold y (sym (instance_at-with_changed f w p q
    ∙ ap (λ b. cond (b && eqb p.number q.number) (option_map f (instance_at w q)) (instance_at w q)) (ne_eqb p.unit q.unit (λ same. omega arith))) ∙ stands)

-- the credit of its workunit stays when it is given to a host
given_credit : (apps : List App) (host : ℕ) (o : Owner) (n : ℕ) (b : UnitBook) → ((x : Instance) → slice_get b.instances n ≡ Some x → IsUntold x)
    → credit_in apps host (with_number (with_owner o) n b) ≡ credit_in apps host b
given_credit apps host o n b untold =
    let a : Agreement = agreement_by apps b.unit.app in
    let xs : List Instance = b.instances in
    let zs : List Instance = modify_at (with_owner o) xs n in
    let same : verdict a b.unit zs ≡ verdict a b.unit xs = λ i x. verdict_same o xs n untold a b.unit x i in
    ap (λ (v : Instance → Option Verdict). b.unit.credit * count_by (λ x. is_owned_by host x && is_valid (v x)) zs) same
    ∙ ap (λ k. b.unit.credit * k)
    (count_changed (λ x. is_owned_by host x && is_valid (verdict a b.unit xs x)) (with_owner o) xs n
    (λ x stands. unpaid (is_owned_by host (with_owner o x)) (is_owned_by host x) x (with_owner o x) (untold x stands).1 refl))
  where
    none : (own : Bool) (v : Option Verdict) → v ≡ None → (own && is_valid v) ≡ false
    none true v is = ap is_valid is
    none false v is = refl

    unpaid : (own was : Bool) (x y : Instance) → x.report ≡ None → y.report ≡ x.report
        → (own && is_valid (verdict (agreement_by apps b.unit.app) b.unit b.instances y)) ≡ (was && is_valid (verdict (agreement_by apps b.unit.app) b.unit b.instances x))
    unpaid own was x y untold same =
        let a : Agreement = agreement_by apps b.unit.app in
        none own (verdict a b.unit b.instances y) (no_verdict a b.instances (canonical a b.unit b.instances) y (same ∙ untold))
        ∙ sym (none was (verdict a b.unit b.instances x) (no_verdict a b.instances (canonical a b.unit b.instances) x untold))

-- the same if the element at a place changes
sum_changed_nth : {X : Type 0} (g : X → ℕ) (f : X → X) (xs : List X) (n : ℕ) → ((x : X) → nth xs n ≡ Some x → g (f x) ≡ g x)
    → sum_by g (modify_nth f xs n) ≡ sum_by g xs
sum_changed_nth {X} g f xs n same = cases (eqb n 0) same
  where
    cases : (b : Bool) → ((x : X) → cond b None (slice_get xs (n - 1)) ≡ Some x → g (f x) ≡ g x)
        → sum_by g (cond b xs (modify_at f xs (n - 1))) ≡ sum_by g xs
    cases true same = refl
    cases false same = sum_changed_at g f xs (n - 1) same

-- A grant of instances without owner and report brings nobody anything.
module _ (host now : ℕ) where
  grant_one_brings : (w : World) (p : Place) → IsUntoldAt w p → host_credit (grant_one host now w p) ≡ host_credit w
  grant_one_brings w p untold i n =
      sum_changed_nth (credit_in w.apps n) (with_number (with_owner o) p.number) w.units p.unit
      (λ b stands.
      given_credit w.apps n o p.number b
      (λ x there. untold x (ap (option_and_then (λ (b : UnitBook). slice_get b.instances p.number)) stands ∙ there))) i
    where
      o : Owner
      o = record { host = host; sent = now; deadline = now + delay_at w p }

  grant_brings : (jobs : List Place) (w : World) → AllPairs (λ (p q : Place). p.unit < q.unit) jobs → All (IsUntoldAt w) jobs
      → (host_credit (granted w host now jobs) ≡ host_credit w) × ((granted w host now jobs).hosts ≡ w.hosts)
  grant_brings [] w rising untold = (refl, refl)
  grant_brings (p ∷ jobs) w rising untold =
      let o : Owner = record { host = host; sent = now; deadline = now + delay_at w p } in
      let rest = grant_brings jobs (grant_one host now w p)
      (pairs_tail (λ (p q : Place). p.unit < q.unit) p jobs rising)
      (λ k d within.
      elsewhere (with_owner o) w p (get_or jobs k d) (pairs_head (λ (p q : Place). p.unit < q.unit) p jobs rising k d within)
      (All-tail (IsUntoldAt w) p jobs untold k d within)) in
      (rest.0 ∙ grant_one_brings w p (All-head (IsUntoldAt w) p jobs untold), rest.1)

-- an eligible instance in a sound world has neither owner nor report
eligible_untold : (w : World) (h : HostRow) (p : Place) → Sound w → is_eligible w h p ≡ true → IsUntoldAt w p
eligible_untold w h p sound eligible y stands =
    let free = eligible_is_free w h p eligible y stands in
    (free, (((limited_from_sound w sound).each p y stands).1 free).1)

-- The credit of a user, if each host has what it had plus what the scores bring.
module _ (w : World) (hosts : List HostRow) (scores : List Score) (account : ℕ) (stay : AccountsStay w.hosts hosts)
    (none : (n : ℕ) → nth w.hosts n ≡ None → host_credit w n ≡ 0) where
  abbrev is_own : HostRow → Bool
  is_own h = h.account == account

  abbrev had : ℕ × HostRow → ℕ
  had e = cond (is_own e.1) (host_credit w e.0) 0

  -- what the user had, by the number of a host
  abbrev had_by : Option HostRow → ℕ → ℕ
  had_by o n = unwrap_or (option_map (λ h. had (n, h)) o) 0

  by_number : (rows : List HostRow) (more : ℕ) → sum_from (λ n. had_by (nth rows n) n) 1 (length (enumerate_from 1 rows) + more) ≡ sum_by had (enumerate_from 1 rows)
  by_number rows more =
      sum_listed had (λ n. had_by (nth rows n) n) 1 (enumerate_from 1 rows) more
      (λ i. ap (λ o. had_by o (1 + i)) (ap (nth rows) (let at : 1 + i ≡ suc i = omega arith in at) ∙ nth-suc rows i)
      ∙ sym (ap (λ o. unwrap_or (option_map had o) 0) (slice_get-enumerate_from 1 rows i) ∙ twice i (slice_get rows i)))
    where
      twice : (i : ℕ) (o : Option HostRow) → unwrap_or (option_map had (option_map (λ h. (1 + i, h)) o)) 0 ≡ had_by o (1 + i)
      twice i None = refl
      twice i (Some h) = refl

  -- a new host had nothing
  same_by : (n : ℕ) → had_by (nth hosts n) n ≡ had_by (nth w.hosts n) n
  same_by n = cases (nth w.hosts n) refl (nth hosts n) refl
    where
      either : (b : Bool) (k : ℕ) → k ≡ 0 → cond b k 0 ≡ 0
      either true k is = is
      either false k is = refl

      cases : (o : Option HostRow) → nth w.hosts n ≡ o → (q : Option HostRow) → nth hosts n ≡ q → had_by q n ≡ had_by o n
      cases None stood None stands = refl
      cases None stood (Some k) stands = either (is_own k) (host_credit w n) (none n stood)
      cases (Some h) stood None stands = absurd (let there = stay n h stood in let two : None ≡ Some there.0 = sym stands ∙ there.1 in cc)
      cases (Some h) stood (Some k) stands =
          let there = stay n h stood in
          let same : there.0 ≡ k = (let both : Some there.0 ≡ Some k = sym there.1 ∙ stands in cc) in
          ap (λ m. cond (eqb m account) (host_credit w n) 0) (ap (λ (z : HostRow). z.account) (sym same) ∙ there.2)

  had_before : sum_by had (enumerate_from 1 hosts) ≡ user_credit w account
  had_before =
      let after : ℕ = length (enumerate_from 1 hosts) in
      let before : ℕ = length (enumerate_from 1 w.hosts) in
      let turned : after + before ≡ before + after = omega arith in
      let same : (λ n. had_by (nth hosts n) n) ≡ (λ n. had_by (nth w.hosts n) n) = λ i n. same_by n i in
      sym (by_number hosts before)
      ∙ ap (λ g. sum_from g 1 (after + before)) same
      ∙ ap (sum_from (λ n. had_by (nth w.hosts n) n) 1) turned
      ∙ by_number w.hosts after

  -- what the scores bring to the user's hosts
  abbrev brings : ℕ × HostRow → ℕ
  brings e = cond (is_own e.1) (credits_in scores e.0) 0

  brought : sum_by brings (enumerate_from 1 hosts) ≡ user_credits_in hosts account scores
  brought =
      let es = enumerate_from 1 hosts in
      sum_same brings (λ e. sum_by (of_score e) scores) (λ e. within (is_own e.1) e.0 scores) es
      ∙ exchange of_score es scores
      ∙ sum_same (λ m. sum_by (λ e. of_score e m) es) (λ (m : Score). cond (belongs hosts account m.host) m.credit 0)
      (λ m. of_number is_own m.credit hosts m.host) scores
    where
      of_score : ℕ × HostRow → Score → ℕ
      of_score e m = cond (is_own e.1) (cond (eqb m.host e.0) m.credit 0) 0

      within : (own : Bool) (n : ℕ) (ms : List Score)
          → cond own (credits_in ms n) 0 ≡ sum_by (λ (m : Score). cond own (cond (eqb m.host n) m.credit 0) 0) ms
      within true n ms = refl
      within false n ms = sym (sum_zero (λ (m : Score). 0) (λ m. refl) ms)

  user_goes_on : sum_by (λ (e : ℕ × HostRow). cond (is_own e.1) (host_credit w e.0 + credits_in scores e.0) 0) (enumerate_from 1 hosts)
      ≡ user_credit w account + user_credits_in hosts account scores
  user_goes_on =
      let es = enumerate_from 1 hosts in
      sum_same (λ (e : ℕ × HostRow). cond (is_own e.1) (host_credit w e.0 + credits_in scores e.0) 0) (λ e. had e + brings e)
      (λ e. two (is_own e.1) (host_credit w e.0) (credits_in scores e.0)) es
      ∙ sym (sum_plus had brings es)
      ∙ ap₂ (λ (m n : ℕ). m + n) had_before brought
    where
      two : (own : Bool) (m n : ℕ) → cond own (m + n) 0 ≡ cond own m 0 + cond own n 0
      two true m n = refl
      two false m n = refl

-- a host that does not exist in a sound world has no credit there
nothing_without : (w : World) → Sound w → (n : ℕ) → nth w.hosts n ≡ None → host_credit w n ≡ 0
nothing_without w sound n none =
    host_credit-none w n (λ unit b number x stands there.
    (let among : HasOwnerAmong w.hosts x =
    all_get (HasOwnerAmong w.hosts) b.instances number x (all_nth (IsSoundUnit w.hosts w.apps) w.units unit b sound.units stands).well.owners there in
    other (host_of x) among))
  where
    other : (o : Option ℕ) → IfSome o (λ host. IsTrue (is_some (nth w.hosts host))) → option_any (λ m. m == n) o ≡ false
    other None among = refl
    other (Some host) among =
        false_from_ne_true (eqb host n)
        (λ is. (let never : true ≡ false = sym among ∙ ap (λ m. is_some (nth w.hosts m)) (eqb-true host n is) ∙ ap is_some none in absurd cc))

-- What hosts and users have after a call.
pub totals_known : (w : World) (c : Caller) (r : Request) (now : ℕ) (scores : List Score) (jobs : List Place) → Sound w → IsCaller w c r → HasRoom w c
    → IsInRange r → now ≤ last_moment → AreScores w (after_settlement w c r now) scores → IsGrant (after_settlement w c r now) (asking_of w c r now) jobs
    → ((n : ℕ) → host_credit (granted (after_settlement w c r now) (host_number w c) now jobs) n ≡ host_credit w n + credits_in scores n)
    × ((account : ℕ) → user_credit (granted (after_settlement w c r now) (host_number w c) now jobs) account
    ≡ user_credit w account + user_credits_in (after_settlement w c r now).hosts account scores)
totals_known w c r now scores jobs sound caller room limits early scored grant = (λ n. ap (λ f. f n) hosts_known, users)
  where
    settlement : World
    settlement = after_settlement w c r now

    after : World
    after = granted settlement (host_number w c) now jobs

    became : WorldBecame w settlement
    became = settled_became w c r now sound caller

    is_sound : Sound settlement
    is_sound = settled_sound w c r now sound caller room limits early

    brings : (host_credit after ≡ host_credit settlement) × (after.hosts ≡ settlement.hosts)
    brings =
        grant_brings (host_number w c) now jobs settlement grant.rising
        (λ k d within. eligible_untold settlement (asking_of w c r now).host (get_or jobs k d) is_sound (grant.eligible k d within))

    hosts_known : host_credit after ≡ (λ n. host_credit w n + credits_in scores n)
    hosts_known = brings.0 ∙ (λ i n. host_credit-scored w settlement scores scored (credit_goes_on w settlement sound became) n i)

    users : (account : ℕ) → user_credit after account ≡ user_credit w account + user_credits_in settlement.hosts account scores
    users account =
        ap₂ (λ (f : ℕ → ℕ) (hosts : List HostRow). sum_by (λ (e : ℕ × HostRow). cond (e.1.account == account) (f e.0) 0) (enumerate_from 1 hosts)) hosts_known brings.1
        ∙ user_goes_on w settlement.hosts scores account became.hosts (nothing_without w sound)
