-- What is decided in a sound world stays in what it becomes, and no credit falls.
use Rattle.std.proofs.Common.{◌≡◌, ℕ, suc, ◌+◌, ◌*◌, ◌≤◌, Bool, true, false, cond, eqb, List, [], ◌∷◌, Option, Some, None, sym, refl, ap, ◌∙◌, subst, arith}
use Rattle.std.specs.Prelude.{◌&&◌, count_by, sum_by, is_some, option_map, option_and_then, unwrap_or, slice_get}
use Rattle.std.specs.List.{enumerate_from}
use Rattle.std.proofs.lemmas.List.Sums.{sum_by-cons}
use Rattle.std.proofs.lemmas.Nat.{mul-le}
use Rattle.sched_book.specs.Count.{is_judged, is_open, has_failed, is_valid, canonical, status, verdict}
use Rattle.sched_book.specs.Places.{unit_at, agreement_by, book_status, book_verdict, status_of, status_at, verdict_of, is_owned_by, credit_in, host_credit, user_credit}
use Rattle.sched_book.specs.Sound.{IsSoundUnit, Sound}
use Rattle.sched_book.specs.declared.instance.Instance.{Instance}
use Rattle.sched_book.specs.declared.instance.Status.TheVariants.{FailedTotal}
use Rattle.sched_book.specs.declared.instance.UnitBook.{UnitBook}
use Rattle.sched_book.specs.declared.instance.Verdict.{Verdict}
use Rattle.sched_book.specs.declared.rows.Agreement.{Agreement}
use Rattle.sched_book.specs.declared.rows.HostRow.{HostRow}
use Rattle.sched_book.specs.declared.world.World.{World}
use Rattle.sched_book.proofs.PlacesOf.{nth-suc}
use Rattle.sched_book.proofs.Settling.{slice_get-enumerate_from}
use Rattle.sched_book.proofs.ByPlace.{all_nth}
use Rattle.sched_machine.specs.Decisions.{CanonicalsStay, VerdictsStay, StatusesStay, CreditsStay}
use Rattle.sched_machine.proofs.Decided.Good.{Became, BecameAt, Continues, good_continues}
use Rattle.sched_machine.proofs.Decided.Units.{at_most, canonical_stays, verdict_stays, status_stays}
use Rattle.sched_machine.proofs.Decided.Changes.{UnitBecame, UnitBecameAt}
use Rattle.sched_machine.proofs.Decided.Steps.{WorldBecame, in_range}
use Rattle.sched_machine.proofs.OptionParts.{mapped_by, some_by, then_by}

-- Everything that stays. A workunit that exists still exists.
pub record Stays (old new : World) : Type 0 where
  pub stands : (unit : ℕ) → is_some (unit_at old unit) ≡ true → is_some (unit_at new unit) ≡ true
  pub canonicals : CanonicalsStay old new
  pub verdicts : VerdictsStay old new
  pub statuses : StatusesStay old new
  pub credits : CreditsStay old new

pub stays_self : (w : World) → Stays w w
stays_self w = record {
  stands = λ unit is. is;
  canonicals = λ unit number is. is;
  verdicts = λ p d is. is;
  statuses = λ unit is shut. refl;
  credits = record { host = λ number. omega arith; user = λ account. omega arith };
}

-- it stays through two changes in turn
pub stays_then : (w v u : World) → Stays w v → Stays v u → Stays w u
stays_then w v u first second = record {
  stands = λ unit is. second.stands unit (first.stands unit is);
  canonicals = λ unit number is. second.canonicals unit number (first.canonicals unit number is);
  verdicts = λ p d is. second.verdicts p d (first.verdicts p d is);
  statuses = λ unit is shut.
      second.statuses unit (first.stands unit is) (ap is_open (first.statuses unit is shut) ∙ shut) ∙ first.statuses unit is shut;
  credits = record {
    host = λ number. (let one : _ = first.credits.host number in let two : _ = second.credits.host number in omega arith);
    user = λ account. (let one : _ = first.credits.user account in let two : _ = second.credits.user account in omega arith);
  };
}

-- a sum that does not fall: each item has one at its place that counts at least as much
sum_grows : {X Y : Type 0} (f : X → ℕ) (g : Y → ℕ) (xs : List X) (ys : List Y)
    → ((i : ℕ) (x : X) → slice_get xs i ≡ Some x → (y : Y) × (slice_get ys i ≡ Some y) × (f x ≤ g y)) → sum_by f xs ≤ sum_by g ys
sum_grows f g [] ys each = let none : sum_by f [] ≡ 0 = refl in omega arith
sum_grows f g (x ∷ xs) [] each = absurd (let here = each 0 x refl in let never : None ≡ Some here.0 = here.1 in cc)
sum_grows f g (x ∷ xs) (y ∷ ys) each =
    let here = each 0 x refl in
    let same : y ≡ here.0 = (let both : Some y ≡ Some here.0 = here.1 in cc) in
    let more : f x ≤ g y = subst (λ z. f x ≤ g z) (sym same) here.2 in
    let rest : sum_by f xs ≤ sum_by g ys = sum_grows f g xs ys (λ i. each (suc i)) in
    let before : sum_by f (x ∷ xs) ≡ f x + sum_by f xs = sum_by-cons f x xs in
    let after : sum_by g (y ∷ ys) ≡ g y + sum_by g ys = sum_by-cons g y ys in
    omega arith

-- at least as many pass
count_grows : {X : Type 0} (p q : X → Bool) (xs ys : List X)
    → ((i : ℕ) (x : X) → slice_get xs i ≡ Some x → (y : X) × (slice_get ys i ≡ Some y) × (p x ≡ true → q y ≡ true)) → count_by p xs ≤ count_by q ys
count_grows {X} p q xs ys each =
    sum_grows (λ x. cond {A = ℕ} (p x) 1 0) (λ y. cond {A = ℕ} (q y) 1 0) xs ys
    (λ i x stands. (let there = each i x stands in (there.0, there.1, at_most (p x) (q there.0) there.2)))

-- A sound world and what it became.
module _ (old new : World) (sound : Sound old) (became : WorldBecame old new) where
  -- a workunit, and what it became
  record At (unit : ℕ) (b : UnitBook) : Type 0 where
    c : UnitBook
    stands : unit_at new unit ≡ Some c
    is : UnitBecame old.apps b c
    agreement : agreement_by new.apps c.unit.app ≡ agreement_by old.apps b.unit.app

  at : (unit : ℕ) (b : UnitBook) → unit_at old unit ≡ Some b → At unit b
  at unit b stood = cases (unit_at new unit) refl (subst (λ o. UnitBecameAt old.apps o (unit_at new unit)) stood (became.units unit))
    where
      cases : (o : Option UnitBook) → unit_at new unit ≡ o → UnitBecameAt old.apps (Some b) o → At unit b
      cases None is never = absurd never
      cases (Some c) stands is = record {
        c = c;
        stands = stands;
        is = is;
        agreement = ap (λ u. agreement_by new.apps u.app) is.row
            ∙ became.agreements b.unit.app (all_nth (IsSoundUnit old.hosts old.apps) old.units unit b sound.units stood).well.app;
      }

  abbrev agreement : UnitBook → Agreement
  agreement b = agreement_by old.apps b.unit.app

  abbrev failed : UnitBook → Bool
  failed b = has_failed (book_status old.apps b)

  -- its good reports continue
  continues : (unit : ℕ) (b : UnitBook) → unit_at old unit ≡ Some b → (c : UnitBook) → UnitBecame old.apps b c → Continues (failed b) b.instances c.instances
  continues unit b stood c is =
      good_continues (count_by is_judged b.instances) (failed b) b.instances c.instances (in_range old sound unit b stood) is.became

  still_stands : (unit : ℕ) → is_some (unit_at old unit) ≡ true → is_some (unit_at new unit) ≡ true
  still_stands unit is = let b = some_by (unit_at old unit) is in ap is_some (at unit b.0 b.1).stands

  -- the laws, from the first world to the second
  canonicals : CanonicalsStay old new
  canonicals unit number is =
      let b = then_by (λ (b : UnitBook). canonical (agreement b) b.unit b.instances) (unit_at old unit) number is in
      let there : At unit b.0 = at unit b.0 b.1 in
      ap (option_and_then (λ (c : UnitBook). canonical (agreement_by new.apps c.unit.app) c.unit c.instances)) there.stands
      ∙ ap (λ a. canonical a there.c.unit there.c.instances) there.agreement
      ∙ ap (λ u. canonical (agreement b.0) u there.c.instances) there.is.row
      ∙ canonical_stays (agreement b.0) b.0.unit (failed b.0) b.0.instances there.c.instances (continues unit b.0 b.1 there.c there.is) number b.2

  statuses : StatusesStay old new
  statuses unit stands shut =
      let b = some_by (unit_at old unit) stands in
      let there : At unit b.0 = at unit b.0 b.1 in
      let was : status_at old unit ≡ book_status old.apps b.0 = ap (λ o. unwrap_or (option_map (status_of old) o) FailedTotal) b.1 in
      ap (λ o. unwrap_or (option_map (status_of new) o) FailedTotal) there.stands
      ∙ ap (λ a. status a there.c.unit there.c.instances) there.agreement
      ∙ ap (λ u. status (agreement b.0) u there.c.instances) there.is.row
      ∙ status_stays (agreement b.0) b.0.unit (count_by is_judged b.0.instances) b.0.instances there.c.instances (in_range old sound unit b.0 b.1)
      there.is.became there.is.many (sym (ap is_open was) ∙ shut)
      ∙ sym was

  -- an instance, and what it became
  record AtNumber (unit number : ℕ) (b : UnitBook) (x : Instance) (c : UnitBook) : Type 0 where
    y : Instance
    stands : slice_get c.instances number ≡ Some y
    is : Became (count_by is_judged b.instances) (failed b) x y
    verdict : (d : Verdict) → book_verdict old.apps b x ≡ Some d → book_verdict new.apps c y ≡ Some d

  at_number : (unit number : ℕ) (b : UnitBook) (x : Instance) → unit_at old unit ≡ Some b → slice_get b.instances number ≡ Some x
      → (there : At unit b) → AtNumber unit number b x there.c
  at_number unit number b x stood was there =
      cases (slice_get there.c.instances number) refl
      (subst (λ o. BecameAt (count_by is_judged b.instances) (failed b) o (slice_get there.c.instances number)) was (there.is.became number))
    where
      cases : (o : Option Instance) → slice_get there.c.instances number ≡ o → BecameAt (count_by is_judged b.instances) (failed b) (Some x) o
          → AtNumber unit number b x there.c
      cases None stands never = absurd never
      cases (Some y) stands is = record {
        y = y;
        stands = stands;
        is = is;
        verdict = λ d known.
            ap (λ a. verdict a there.c.unit there.c.instances y) there.agreement
            ∙ ap (λ u. verdict (agreement b) u there.c.instances y) there.is.row
            ∙ verdict_stays (agreement b) b.unit (failed b) b.instances there.c.instances (continues unit b stood there.c there.is) x y
            (count_by is_judged b.instances) d is.report known;
      }

  verdicts : VerdictsStay old new
  verdicts p d is =
      let b = then_by (λ (b : UnitBook). option_and_then (verdict_of old b) (slice_get b.instances p.number)) (unit_at old p.unit) d is in
      let x = then_by (verdict_of old b.0) (slice_get b.0.instances p.number) d b.2 in
      let there : At p.unit b.0 = at p.unit b.0 b.1 in
      let here : AtNumber p.unit p.number b.0 x.0 there.c = at_number p.unit p.number b.0 x.0 b.1 x.1 there in
      ap (option_and_then (λ (c : UnitBook). option_and_then (verdict_of new c) (slice_get c.instances p.number))) there.stands
      ∙ ap (option_and_then (verdict_of new there.c)) here.stands
      ∙ here.verdict d x.2

  -- the credit of a host from one workunit
  credit_grows : (host unit : ℕ) (b : UnitBook) → unit_at old unit ≡ Some b → (there : At unit b)
      → credit_in old.apps host b ≤ credit_in new.apps host there.c
  credit_grows host unit b stood there =
      subst (λ u. credit_in old.apps host b ≤ u.credit * awarded_after) (sym there.is.row)
      (mul-le b.unit.credit awarded_before b.unit.credit awarded_after (let same : b.unit.credit ≤ b.unit.credit = omega arith in same)
      (count_grows (λ x. is_owned_by host x && is_valid (book_verdict old.apps b x)) (λ y. is_owned_by host y && is_valid (book_verdict new.apps there.c y))
      b.instances there.c.instances
      (λ i x was.
      (let here : AtNumber unit i b x there.c = at_number unit i b x stood was there in (
        here.y,
        here.stands,
        both (is_owned_by host x) (is_owned_by host here.y) (book_verdict old.apps b x) (book_verdict new.apps there.c here.y)
            (here.is.owned host) here.verdict,
      )))))
    where
      awarded_before : ℕ
      awarded_before = count_by (λ x. is_owned_by host x && is_valid (book_verdict old.apps b x)) b.instances

      awarded_after : ℕ
      awarded_after = count_by (λ y. is_owned_by host y && is_valid (book_verdict new.apps there.c y)) there.c.instances

      both : (s t : Bool) (d e : Option Verdict) → (s ≡ true → t ≡ true) → ((v : Verdict) → d ≡ Some v → e ≡ Some v)
          → (s && is_valid d) ≡ true → (t && is_valid e) ≡ true
      both false t d e owned known is = absurd cc
      both true t None e owned known is = absurd cc
      both true t (Some v) e owned known is = ap (λ r. r && is_valid e) (owned refl) ∙ ap is_valid (known v refl) ∙ is

  -- the credit of a host from all workunits
  host_grows : (host : ℕ) → host_credit old host ≤ host_credit new host
  host_grows host =
      sum_grows (credit_in old.apps host) (credit_in new.apps host) old.units new.units
      (λ i b was.
      (let stood : unit_at old (suc i) ≡ Some b = nth-suc old.units i ∙ was in
      let there : At (suc i) b = at (suc i) b stood in
      (there.c, sym (nth-suc new.units i) ∙ there.stands, credit_grows host (suc i) b stood there)))

  -- the credit of a user
  user_grows : (account : ℕ) → user_credit old account ≤ user_credit new account
  user_grows account =
      sum_grows (share old) (share new) (enumerate_from 1 old.hosts) (enumerate_from 1 new.hosts)
      (λ i e was.
      (let h = mapped_by (λ h. (1 + i, h)) (slice_get old.hosts i) e (sym (slice_get-enumerate_from 1 old.hosts i) ∙ was) in goes_on i e h.0 h.1 h.2))
    where
      share : World → ℕ × HostRow → ℕ
      share w e = cond (eqb e.1.account account) (host_credit w e.0) 0

      either : (b : Bool) (m n : ℕ) → m ≤ n → cond b m 0 ≤ cond b n 0
      either true m n low = low
      either false m n low = omega arith

      goes_on : (i : ℕ) (e : ℕ × HostRow) (h : HostRow) → slice_get old.hosts i ≡ Some h → (1 + i, h) ≡ e
          → (f : ℕ × HostRow) × (slice_get (enumerate_from 1 new.hosts) i ≡ Some f) × (share old e ≤ share new f)
      goes_on i e h is value =
          let there = became.hosts (suc i) h (nth-suc old.hosts i ∙ is) in
          let stands : slice_get new.hosts i ≡ Some there.0 = sym (nth-suc new.hosts i) ∙ there.1 in (
            (1 + i, there.0),
            slice_get-enumerate_from 1 new.hosts i ∙ ap (option_map (λ h. (1 + i, h))) stands,
            subst (λ f. share old f ≤ share new (1 + i, there.0)) value
                (subst (λ account_there. cond (eqb h.account account) (host_credit old (1 + i)) 0 ≤ cond (eqb account_there account) (host_credit new (1 + i)) 0)
                (sym there.2)
                (either (eqb h.account account) (host_credit old (1 + i)) (host_credit new (1 + i)) (host_grows (1 + i)))),
          )

  pub world_stays : Stays old new
  world_stays = record {
    stands = still_stands;
    canonicals = canonicals;
    verdicts = verdicts;
    statuses = statuses;
    credits = record { host = host_grows; user = user_grows };
  }
