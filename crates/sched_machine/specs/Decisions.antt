-- Rule. What no run reverses: workunits, canonical results, verdicts, statuses other than open, and credit.
use Rattle.std.specs.Prelude.{◌≡◌, ℕ, ◌*◌, ◌≤◌, false, IsTrue, sum_by, count_by, Option, Some, is_some, option_and_then, slice_get}
use Rattle.std.specs.List.{enumerate_from}
use Rattle.sched_book.specs.Count.{canonical, is_open, is_valid}
use Rattle.sched_book.specs.Places.{unit_at, agreement_of, status_at, verdict_of, host_credit, user_credit}
use Rattle.sched_book.specs.declared.instance.Place.{Place}
use Rattle.sched_book.specs.declared.instance.UnitBook.{UnitBook}
use Rattle.sched_book.specs.declared.instance.Verdict.{Verdict}
use Rattle.sched_book.specs.declared.world.World.{World}

-- a workunit that exists still exists
abbrev pub UnitsStay : World → World → Type 0
UnitsStay old new = (unit : ℕ) → IsTrue (is_some (unit_at old unit)) → IsTrue (is_some (unit_at new unit))

-- the number of the canonical result of the workunit at a place
abbrev pub canonical_at : World → ℕ → Option ℕ
canonical_at w unit = option_and_then (λ (b : UnitBook). canonical (agreement_of w b) b.unit b.instances) (unit_at w unit)

-- a canonical result stays the canonical one
abbrev pub CanonicalsStay : World → World → Type 0
CanonicalsStay old new = (unit number : ℕ) → canonical_at old unit ≡ Some number → canonical_at new unit ≡ Some number

-- the verdict on the instance at a place
abbrev pub verdict_at : World → Place → Option Verdict
verdict_at w p = option_and_then (λ (b : UnitBook). option_and_then (verdict_of w b) (slice_get b.instances p.number)) (unit_at w p.unit)

-- a verdict stays
abbrev pub VerdictsStay : World → World → Type 0
VerdictsStay old new = (p : Place) (v : Verdict) → verdict_at old p ≡ Some v → verdict_at new p ≡ Some v

-- what is done stays done, and what failed stays failed for the same reason
abbrev pub StatusesStay : World → World → Type 0
StatusesStay old new = (unit : ℕ) → IsTrue (is_some (unit_at old unit)) → is_open (status_at old unit) ≡ false → status_at new unit ≡ status_at old unit

-- the credit of a host or a user never falls
pub record CreditsStay (old new : World) : Type 0 where
  pub host : (number : ℕ) → host_credit old number ≤ host_credit new number
  pub user : (account : ℕ) → user_credit old account ≤ user_credit new account

-- the credit of all hosts, of all users, and of all valid results
abbrev pub hosts_credit : World → ℕ
hosts_credit w = sum_by (λ e. host_credit w e.0) (enumerate_from 1 w.hosts)

abbrev pub users_credit : World → ℕ
users_credit w = sum_by (λ e. user_credit w e.0) (enumerate_from 1 w.accounts)

abbrev pub results_credit : World → ℕ
results_credit w = sum_by (λ b. b.unit.credit * count_by (λ x. is_valid (verdict_of w b x)) b.instances) w.units

-- the hosts together, and the users together, have the credit of all valid results
pub record CreditsAddUp (w : World) : Type 0 where
  pub hosts : hosts_credit w ≡ results_credit w
  pub users : users_credit w ≡ results_credit w
