-- Totals of hosts by their numbers: one instance more, one workunit more.
use Rattle.std.proofs.Common.{◌≡◌, ℕ, ◌+◌, ◌<◌, List, [], ◌∷◌, ◌++◌, length, take, get_or, Option, Some, sym, ap, ◌∙◌, arith}
use Rattle.std.specs.Prelude.{sum_by}
use Rattle.std.proofs.lemmas.List.{take_more}
use Rattle.std.proofs.lemmas.List.Sums.{sum_by-cons, sum_by-append}
use Rattle.sched_book.specs.Count.{decided, verdict_by, is_valid}
use Rattle.sched_book.specs.declared.count.Decided.{Decided}
use Rattle.sched_book.specs.declared.instance.Instance.{Instance}
use Rattle.sched_book.specs.declared.instance.UnitBook.{UnitBook}
use Rattle.sched_book.specs.declared.rows.Agreement.{Agreement}
use Rattle.sched_book.specs.declared.rows.Workunit.{Workunit}
use Rattle.call_working_set.specs.UnitState.{UnitState}
use Rattle.table_worlds.specs.declared.totals.Total.{Total}
use Rattle.table_worlds.specs.Totals.{more, with_instances}
use Rattle.table_worlds.proofs.TotalsCounted.{same_total}
use Rattle.table_changes.specs.Tallies.{held_on, credit_on, total_on}

one_next : (f : ℕ → ℕ) (units : List ℕ) (i unit : ℕ) → i < length units → get_or units i 0 ≡ unit → sum_by f (take i units) + f unit ≡ sum_by f (take (i + 1) units)
one_next f units i unit within at =
    let split : take (i + 1) units ≡ take i units ++ unit ∷ [] = take_more units i 0 within ∙ ap (λ m. take i units ++ m ∷ []) at in
    let all : sum_by f (take i units ++ unit ∷ []) ≡ sum_by f (take i units) + sum_by f (unit ∷ []) = sum_by-append f (take i units) (unit ∷ []) in
    let last : sum_by f (unit ∷ []) ≡ f unit + 0 = sum_by-cons f unit [] in
    let whole : sum_by f (take (i + 1) units) ≡ sum_by f (take i units ++ unit ∷ []) = ap (sum_by f) split in
    omega (arith, all, last, whole)

pub total_next : (book : UnitState → UnitBook) (kept : ℕ → Option UnitState) (units : List ℕ) (i unit host : ℕ) (t : Total) → i < length units → get_or units i 0 ≡ unit
    → t ≡ total_on book kept (take i units) host
    → more t (held_on book host (kept unit)) (credit_on book host (kept unit)) ≡ total_on book kept (take (i + 1) units) host
total_next book kept units i unit host t within at is =
    ap (λ (s : Total). more s (held_on book host (kept unit)) (credit_on book host (kept unit))) is
    ∙ same_total _ _ _ _ (one_next (λ u. held_on book host (kept u)) units i unit within at) (one_next (λ u. credit_on book host (kept u)) units i unit within at)

-- what is counted for a unit state, once its instances were counted by what is decided of them
pub unit_state_counted : (book : UnitState → UnitBook) (k : UnitState) (o : Option UnitState) (a : Agreement) (u : Workunit) (d : Decided) (xs : List Instance) (host : ℕ) (t after : Total)
    → o ≡ Some k → a ≡ k.agreement → u ≡ k.unit → xs ≡ (book k).instances → d ≡ decided k.agreement k.unit (book k).instances
    → after ≡ with_instances (λ x. is_valid (verdict_by a xs d.canonical x)) u.credit xs host t
    → after ≡ more t (held_on book host o) (credit_on book host o)
unit_state_counted book k o a u d xs host t after is agreed same all decides counted =
    counted
    ∙ ap (λ (b : Agreement). with_instances (λ x. is_valid (verdict_by b xs d.canonical x)) u.credit xs host t) agreed
    ∙ ap (λ (v : Workunit). with_instances (λ x. is_valid (verdict_by k.agreement xs d.canonical x)) v.credit xs host t) same
    ∙ ap (λ ys. with_instances (λ x. is_valid (verdict_by k.agreement ys d.canonical x)) k.unit.credit ys host t) all
    ∙ ap (λ (e : Decided). with_instances (λ x. is_valid (verdict_by k.agreement (book k).instances e.canonical x)) k.unit.credit (book k).instances host t) decides
    ∙ ap (λ l. more t (held_on book host l) (credit_on book host l)) (sym is)
