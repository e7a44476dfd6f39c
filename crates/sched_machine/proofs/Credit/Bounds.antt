-- What the results of a sound world are worth at most, and how long the jobs that are sent again take.
use Rattle.std.proofs.Common.{◌≡◌, ℕ, ◌*◌, ◌≤◌, Bool, true, false, cond, length, arith}
use Rattle.std.specs.Prelude.{◌&&◌, ◌==◌, All, count_by, sum_by}
use Rattle.std.specs.List.{enumerate_from}
use Rattle.std.proofs.lemmas.List.Elements.{All-weaker}
use Rattle.std.proofs.lemmas.List.Sums.{count_by-le-length, sum_by-le, sum_by-le-sum_by}
use Rattle.std.proofs.lemmas.Nat.{mul-le}
use Rattle.sched_book.specs.Count.{is_valid}
use Rattle.sched_book.specs.Places.{verdict_of, host_credit, is_owned_by}
use Rattle.sched_book.specs.Sound.{IsSoundUnit, Sound}
use Rattle.sched_book.specs.declared.instance.Instance.{Instance}
use Rattle.sched_book.specs.declared.instance.UnitBook.{UnitBook}
use Rattle.sched_book.specs.declared.rows.HostRow.{HostRow}
use Rattle.sched_book.specs.declared.world.World.{World}
use Rattle.sched_book.proofs.Bounded.{sound_is_bounded}
use Rattle.sched_machine.specs.Bounds.{CreditIsBounded}
use Rattle.sched_machine.proofs.Decided.Sums.{sound_credits_add_up}

module _ (w : World) (sound : Sound w) where
  few_units : length w.units ≤ 200000
  few_units = (sound_is_bounded w sound).units

  -- what the instances of a workunit that pass are worth
  abbrev worth : (Instance → Bool) → UnitBook → ℕ
  worth counts b = b.unit.credit * count_by counts b.instances

  one_unit : (counts : UnitBook → Instance → Bool) (b : UnitBook) → IsSoundUnit w.hosts w.apps b → worth (counts b) b ≤ 10000000000
  one_unit counts b unit =
      let low : b.unit.credit ≤ 100000000 = unit.well.limits.credit in
      let few : length b.instances ≤ 100 = unit.well.few in
      let less = count_by-le-length (counts b) b.instances in
      let product = mul-le b.unit.credit (count_by (counts b) b.instances) 100000000 100 low (omega (arith, less)) in
      product

  all_units : (counts : UnitBook → Instance → Bool) → sum_by (λ b. worth (counts b) b) w.units ≤ 2000000000000000
  all_units counts =
      let each : All (λ b. worth (counts b) b ≤ 10000000000) w.units =
      All-weaker (IsSoundUnit w.hosts w.apps) (λ b. worth (counts b) b ≤ 10000000000) (one_unit counts) w.units sound.units in
      let less : sum_by (λ b. worth (counts b) b) w.units ≤ length w.units * 10000000000 = sum_by-le (λ b. worth (counts b) b) 10000000000 w.units each in
      let few : length w.units ≤ 200000 = few_units in
      omega arith

  -- a user has at most as much as all hosts
  of_user : (account : ℕ) (e : ℕ × HostRow) → cond (e.1.account == account) (host_credit w e.0) 0 ≤ host_credit w e.0
  of_user account e = cases (e.1.account == account)
    where
      cases : (b : Bool) → cond b (host_credit w e.0) 0 ≤ host_credit w e.0
      cases true = omega arith
      cases false = omega arith

pub credit_is_bounded : CreditIsBounded
credit_is_bounded w sound = record {
  results = all_units w sound (λ b x. is_valid (verdict_of w b x));
  host = λ number. all_units w sound (λ b x. is_owned_by number x && is_valid (verdict_of w b x));
  user = λ account.
      (let hosts : ℕ = sum_by (λ (e : ℕ × HostRow). host_credit w e.0) (enumerate_from 1 w.hosts) in
      let less : sum_by (λ (e : ℕ × HostRow). cond (e.1.account == account) (host_credit w e.0) 0) (enumerate_from 1 w.hosts) ≤ hosts =
      sum_by-le-sum_by (λ (e : ℕ × HostRow). cond (e.1.account == account) (host_credit w e.0) 0) (λ e. host_credit w e.0) (enumerate_from 1 w.hosts) (of_user w sound account) in
      let all : sum_by (λ b. b.unit.credit * count_by (λ x. is_valid (verdict_of w b x)) b.instances) w.units ≤ 2000000000000000 =
      all_units w sound (λ b x. is_valid (verdict_of w b x)) in
      let same : hosts ≡ sum_by (λ b. b.unit.credit * count_by (λ x. is_valid (verdict_of w b x)) b.instances) w.units = (sound_credits_add_up w sound).hosts in
      omega arith);
}
