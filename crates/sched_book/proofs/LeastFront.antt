-- The canonical result leads the shortest front that has a leader.
use Rattle.std.proofs.Common.{◌≡◌, ℕ, zero, suc, ◌+◌, ◌-◌, ◌<◌, ◌≤◌, Bool, true, false, cond, List, length, take, drop, Option, Some, None, sym, refl, ap, ◌∙◌, subst, arith, MatchOption}
use Rattle.std.specs.Prelude.{is_some, nat_le}
use Rattle.std.proofs.Common.{inl, inr}
use Rattle.std.proofs.lemmas.Bool.{cases_lt}
use borrow.Author.Tests.{leb-true, leb-false}
use Rattle.std.proofs.lemmas.List.{take_all}
use Rattle.sched_book.specs.Count.{good, leader, first_leader, majority}
use Rattle.sched_book.specs.Laws.{leader_of_front, IsFirstLeader, HasNoLeader, CanonicalIsFirstLeader}
use Rattle.sched_book.specs.declared.instance.Instance.{Instance}
use Rattle.sched_book.specs.declared.rows.Agreement.{Agreement}
use Rattle.sched_book.specs.declared.rows.Workunit.{Workunit}
use Rattle.sched_book.proofs.Reports.{leader_from, leader_from-is, leader_from-here, leader_from-later, leader_from-last}

-- the same for fronts of at least k reports
record IsLeaderFrom (a : Agreement) (u : Workunit) (xs : List Instance) (k i : ℕ) : Type 0 where
  front : ℕ
  after : k ≤ front
  within : front ≤ length (good xs)
  leads : leader_of_front a u xs front ≡ Some i
  least : (j : ℕ) → k ≤ j → j < front → leader_of_front a u xs j ≡ None

abbrev HasNoLeaderFrom : Agreement → Workunit → List Instance → ℕ → Type 0
HasNoLeaderFrom a u xs k = (j : ℕ) → k ≤ j → j ≤ length (good xs) → leader_of_front a u xs j ≡ None

abbrev Tells : Agreement → Workunit → List Instance → ℕ → Option ℕ → Type 0
Tells a u xs k o = MatchOption o (HasNoLeaderFrom a u xs k) (IsLeaderFrom a u xs k)

-- this front has a leader
here : (a : Agreement) (u : Workunit) (xs : List Instance) (k i : ℕ) → k ≤ length (good xs) → leader_of_front a u xs k ≡ Some i → IsLeaderFrom a u xs k i
here a u xs k i within leads = record { front = k; after = omega arith; within = within; leads = leads; least = λ j above below. absurd (omega arith) }

at_front : (a : Agreement) (u : Workunit) (xs : List Instance) (k j : ℕ) → leader_of_front a u xs k ≡ None → j ≡ k → leader_of_front a u xs j ≡ None
at_front a u xs k j none same = ap (leader_of_front a u xs) same ∙ none

-- this front has none, and what follows for it from the next one
later : (a : Agreement) (u : Workunit) (xs : List Instance) (k : ℕ) → leader_of_front a u xs k ≡ None
    → (o : Option ℕ) → Tells a u xs (k + 1) o → Tells a u xs k o
later a u xs k none None next = λ j above within. elim (cases_lt k j) [ inl more ↦ next j (omega arith) within | inr same ↦ at_front a u xs k j none (omega arith) ]
later a u xs k none (Some i) next = record {
  front = next.front;
  after = omega (arith, next.after);
  within = next.within;
  leads = next.leads;
  least = λ j above below. elim (cases_lt k j) [ inl more ↦ next.least j (omega arith) below | inr same ↦ at_front a u xs k j none (omega arith) ];
}

-- the last front
last : (a : Agreement) (u : Workunit) (xs : List Instance) (k : ℕ) → k ≡ length (good xs) → (o : Option ℕ) → leader_of_front a u xs k ≡ o → Tells a u xs k o
last a u xs k at_end None is = λ j above within. at_front a u xs k j is (omega arith)
last a u xs k at_end (Some i) is = here a u xs k i (omega arith) is

tells : (a : Agreement) (u : Workunit) (xs : List Instance) (left k : ℕ) → k + left ≡ length (good xs)
    → Tells a u xs k (leader_from a xs (majority u) (good xs) k)
tells a u xs zero k at_end =
    let past : length (good xs) ≤ k = omega arith in
    subst (Tells a u xs k)
    (ap (leader a xs (majority u)) (take_all k (good xs) past) ∙ sym (leader_from-last a xs (majority u) (good xs) k past))
    (last a u xs k (omega arith) (leader_of_front a u xs k) refl)
tells a u xs (suc left) k at_front = step (leader_of_front a u xs k) refl (tells a u xs left (k + 1) (omega arith))
  where
    within : k < length (good xs)
    within = omega arith

    step : (o : Option ℕ) → leader_of_front a u xs k ≡ o → Tells a u xs (k + 1) (leader_from a xs (majority u) (good xs) (k + 1))
        → Tells a u xs k (leader_from a xs (majority u) (good xs) k)
    step (Some i) is next =
        subst (Tells a u xs k) (sym (leader_from-here a xs (majority u) (good xs) k within (ap is_some is) ∙ is)) (here a u xs k i (omega arith) is)
    step None is next =
        subst (Tells a u xs k) (sym (leader_from-later a xs (majority u) (good xs) k within (ap is_some is)))
        (later a u xs k is (leader_from a xs (majority u) (good xs) (k + 1)) next)

from_quorum : (a : Agreement) (u : Workunit) (xs : List Instance) (o : Option ℕ) → Tells a u xs u.min_quorum o
    → MatchOption o (HasNoLeader a u xs) (IsFirstLeader a u xs)
from_quorum a u xs None told = told
from_quorum a u xs (Some i) told =
    record { front = told.front; in_quorum = told.after; within = told.within; leads = told.leads; least = told.least }

pub canonical_is_first_leader : CanonicalIsFirstLeader
canonical_is_first_leader a u xs = cases (nat_le u.min_quorum (length (good xs))) refl
  where
    from_here : ℕ → Option ℕ
    from_here k = first_leader a xs (majority u) (take k (good xs)) (drop k (good xs))

    cases : (b : Bool) → nat_le u.min_quorum (length (good xs)) ≡ b
        → MatchOption (cond b (from_here u.min_quorum) None) (HasNoLeader a u xs) (IsFirstLeader a u xs)
    cases true is =
        let enough : u.min_quorum ≤ length (good xs) = leb-true _ _ is in
        from_quorum a u xs (from_here u.min_quorum)
        (subst (Tells a u xs u.min_quorum) (leader_from-is a xs (majority u) (good xs) u.min_quorum)
        (tells a u xs (length (good xs) - u.min_quorum) u.min_quorum (omega arith)))
    cases false is =
        let few : length (good xs) < u.min_quorum = leb-false _ _ is in
        λ k above within. absurd (omega arith)
