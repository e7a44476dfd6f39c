-- New instances of one workunit, as changes.
use Rattle.std.proofs.Common.{◌≡◌, ℕ, suc, ◌+◌, ◌-◌, ◌<◌, List, [], ◌∷◌, ◌++◌, length, Some, sym, ap, ◌∙◌, append_assoc, arith}
use Rattle.sched_book.specs.Settle.{fresh}
use Rattle.sched_book.specs.declared.delta.Edit.{Edit}
use Rattle.sched_book.specs.declared.delta.Edit.TheVariants as edit
use Rattle.call_working_set.specs.UnitState.{UnitState}
use Rattle.quorum_credit.specs.UnitStates.{growth_on}
use Rattle.quorum_credit.specs.Growing.{fresh_changes}
use Rattle.quorum_credit.specs.Settled.{new_instances}

-- the instance of the next number comes first
fresh_next : (unit number end : ℕ) → number < end
    → fresh_changes unit number (end - number)
    ≡ edit.Instance (record { unit = unit; number = number }) fresh ∷ fresh_changes unit (number + 1) (end - (number + 1))
fresh_next unit number end less =
    ap (fresh_changes unit number) (let next : end - number ≡ suc (end - (number + 1)) = omega arith in next)

-- one is put, and the others are left
pub fresh_step : (before more all : List Edit) (unit number end : ℕ) → number < end
    → more ≡ before ++ edit.Instance (record { unit = unit; number = number }) fresh ∷ []
    → before ++ fresh_changes unit number (end - number) ≡ all → more ++ fresh_changes unit (number + 1) (end - (number + 1)) ≡ all
fresh_step before more all unit number end less pushed told =
    let rest = fresh_changes unit (number + 1) (end - (number + 1)) in
    ap (λ cs. cs ++ rest) pushed
    ∙ append_assoc before (edit.Instance (record { unit = unit; number = number }) fresh ∷ []) rest
    ∙ sym (ap (λ cs. before ++ cs) (fresh_next unit number end less))
    ∙ told

-- what a workunit is to get, by the numbers of the instances
pub growth_by_numbers : (unit first end : ℕ) (k : UnitState) → first ≡ length k.present → end ≡ length k.present + new_instances k.agreement k.unit k.present
    → fresh_changes unit first (end - first) ≡ growth_on unit (Some k)
growth_by_numbers unit first end k first_is end_is =
    let count : end - first ≡ new_instances k.agreement k.unit k.present = omega arith in
    ap (fresh_changes unit first) count ∙ ap (λ n. fresh_changes unit n (new_instances k.agreement k.unit k.present)) first_is

pub ruleset growth_steps = (growth_by_numbers)
