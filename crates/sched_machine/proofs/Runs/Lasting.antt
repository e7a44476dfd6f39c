-- What stays of each instance in every run: its owner's host and moment, its report and its lapse.
use Rattle.std.proofs.Common.{◌≡◌, ℕ, Option, Some, None, sym, refl, ap, ◌∙◌}
use Rattle.std.specs.Prelude.{option_and_then}
use Rattle.sched_book.specs.Step.{Step}
use Rattle.sched_book.specs.declared.instance.Instance.{Instance}
use Rattle.sched_book.specs.declared.instance.Owner.{Owner}
use Rattle.sched_book.specs.declared.instance.Place.{Place}
use Rattle.sched_book.specs.declared.machine.Answered.{Answered}
use Rattle.sched_book.specs.declared.machine.Call.{Call}
use Rattle.sched_book.specs.declared.world.World.{World}
use Rattle.sched_machine.specs.Runs.{HoldsInRuns, OwnersStay, ReportsStay, LapsesStay}
use Rattle.sched_machine.proofs.Runs.Between.{holds_in_runs}
use Rattle.sched_machine.proofs.Moves.Moves.{Lasts, step_lasts}

-- the host of an owner and the moment of sending stay
abbrev OwnerStays : Option Instance → Option Instance → Type 0
OwnerStays i j = (o : Owner) → option_and_then (λ (x : Instance). x.owner) i ≡ Some o
    → (n : Owner) × (option_and_then (λ (x : Instance). x.owner) j ≡ Some n) × (n.host ≡ o.host) × (n.sent ≡ o.sent)

owner_lasts : (w : World) (c : Call) (p : Place) → Lasts w c p OwnerStays
owner_lasts w c p = record {
  same = λ i o is. (o, is, refl, refl);
  chain = λ i j k first second o is. (let n = first o is in let m = second n.0 n.1 in (m.0, m.1, m.2 ∙ n.2, m.3 ∙ n.3));
  reported = λ r place x free own later o is. (o, is, refl, refl);
  lapses = λ lapse x free own o is. (o, is, refl, refl);
  moved = λ f o x is own again n at.
      let both : Some o ≡ Some n = sym is ∙ at in
      let same : o ≡ n = cc in
      (record o { deadline = f o.deadline }, refl, ap (λ (z : Owner). z.host) same, ap (λ (z : Owner). z.sent) same);
}

-- in one step, from any world
pub owners_stay_in_step : (w after : World) (c : Call) (now : ℕ) (answer : Answered) → Step w c now after answer → OwnersStay w after
owners_stay_in_step w after c now answer step p =
    step_lasts OwnerStays (λ o none. absurd cc) (λ o x free n is. (let never : None ≡ Some n = sym free ∙ is in absurd cc))
    w after c now answer p (owner_lasts w c p) step

pub owners_stay : HoldsInRuns OwnersStay
owners_stay =
    holds_in_runs OwnersStay (λ w p o is. (o, is, refl, refl))
    (λ u v w first second p o is. (let n = first p o is in let m = second p n.0 n.1 in (m.0, m.1, m.2 ∙ n.2, m.3 ∙ n.3)))
    (λ w after c now answer sound step. owners_stay_in_step w after c now answer step)

-- what was noted of an instance stays
abbrev ToldStays : {Y : Type 0} → (Instance → Option Y) → Option Instance → Option Instance → Type 0
ToldStays {Y} told i j = (t : Y) → option_and_then told i ≡ Some t → option_and_then told j ≡ Some t

report_lasts : (w : World) (c : Call) (p : Place) → Lasts w c p (ToldStays (λ (x : Instance). x.report))
report_lasts w c p = record {
  same = λ i t is. is;
  chain = λ i j k first second t is. second t (first t is);
  reported = λ r place x none own later t is. (let never : None ≡ Some t = sym none ∙ is in absurd cc);
  lapses = λ lapse x none own t is. is;
  moved = λ f o x owned own again t is. is;
}

pub reports_stay : HoldsInRuns ReportsStay
reports_stay =
    holds_in_runs ReportsStay (λ w p t is. is) (λ u v w first second p t is. second p t (first p t is))
    (λ w after c now answer sound step p.
    step_lasts (ToldStays (λ (x : Instance). x.report)) (λ t none. absurd cc) (λ o x free t is. is) w after c now answer p (report_lasts w c p) step)

lapse_lasts : (w : World) (c : Call) (p : Place) → Lasts w c p (ToldStays (λ (x : Instance). x.lapse))
lapse_lasts w c p = record {
  same = λ i l is. is;
  chain = λ i j k first second l is. second l (first l is);
  reported = λ r place x none own later l is. is;
  lapses = λ lapse x none own l is. (let never : None ≡ Some l = sym none ∙ is in absurd cc);
  moved = λ f o x owned own again l is. is;
}

pub lapses_stay : HoldsInRuns LapsesStay
lapses_stay =
    holds_in_runs LapsesStay (λ w p l is. is) (λ u v w first second p l is. second p l (first p l is))
    (λ w after c now answer sound step p.
    step_lasts (ToldStays (λ (x : Instance). x.lapse)) (λ l none. absurd cc) (λ o x free l is. is) w after c now answer p (lapse_lasts w c p) step)
