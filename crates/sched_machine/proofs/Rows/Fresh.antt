-- A new workunit is sound: it has all instances that it needs, and nothing was done with them.
use Rattle.std.proofs.Common.{◌≡◌, ℕ, zero, suc, ◌+◌, ◌-◌, ◌≤◌, max, Bool, true, false, cond, List, [], length, replicate, None, sym, refl, ap, ◌∙◌, arith, leb-true}
use Rattle.std.specs.Prelude.{IsTrue, nat_le, fold, count_by, is_some, option_map, IfSome}
use Rattle.std.proofs.lemmas.List.{length-replicate}
use Rattle.std.proofs.lemmas.List.Elements.{All-replicate}
use Rattle.std.proofs.lemmas.List.Sums.{sum_by-cons}
use Rattle.sched_book.specs.Count.{tells_success, is_judged, is_live, report_place, place_of, numbers_from, put_by, good, live, want, need}
use Rattle.sched_book.specs.Imports.{has_app, new_unit}
use Rattle.sched_book.specs.Limits.{IsUnitInLimits, IsInstanceInLimits}
use Rattle.sched_book.specs.Settle.{fresh}
use Rattle.sched_book.specs.Sound.{AreOfOtherUsers, IsBare, HasOwnerAmong, IsSoundUnit}
use Rattle.sched_book.specs.declared.instance.Instance.{Instance}
use Rattle.sched_book.specs.declared.instance.Owner.{Owner}
use Rattle.sched_book.specs.declared.rows.App.{App}
use Rattle.sched_book.specs.declared.rows.HostRow.{HostRow}
use Rattle.sched_book.specs.declared.rows.Workunit.{Workunit}
use Rattle.sched_book.proofs.ByPlace.{all_get}
use Rattle.quorum_credit.proofs.GrownFits.{fresh_in_limits}
use Rattle.sched_machine.proofs.Rows.Listed.{pairs_from}

-- instances without owner are all live, none is judged, and none is a success
fresh_live : (n : ℕ) → live (replicate n fresh) ≡ n
fresh_live zero = refl
fresh_live (suc n) =
    let one_more : live (replicate (suc n) fresh) ≡ 1 + live (replicate n fresh) = sum_by-cons (λ x. cond {A = ℕ} (is_live x) 1 0) fresh (replicate n fresh) in
    let rest : live (replicate n fresh) ≡ n = fresh_live n in
    omega arith

none_judged : (n : ℕ) → count_by is_judged (replicate n fresh) ≡ 0
none_judged zero = refl
none_judged (suc n) =
    let no_more : count_by is_judged (replicate (suc n) fresh) ≡ 0 + count_by is_judged (replicate n fresh) =
    sum_by-cons (λ x. cond {A = ℕ} (is_judged x) 1 0) fresh (replicate n fresh) in
    let rest : count_by is_judged (replicate n fresh) ≡ 0 = none_judged n in
    omega arith

no_numbers : (m n : ℕ) → numbers_from m (λ x. tells_success x.report) (replicate n fresh) ≡ []
no_numbers m zero = refl
no_numbers m (suc n) = no_numbers (m + 1) n

none_good : (n : ℕ) → good (replicate n fresh) ≡ []
none_good n = ap (fold (put_by (place_of (replicate n fresh))) []) (no_numbers 0 n)

-- it needs no more than its first instances
nothing_needed : (u : Workunit) → 1 ≤ u.min_quorum → need u (replicate u.target_nresults fresh) ≡ 0
nothing_needed u quorum =
    ap (λ reports. want u (length reports) - live (replicate u.target_nresults fresh) - length reports) (none_good u.target_nresults)
    ∙ ap (λ many. want u 0 - many - 0) (fresh_live u.target_nresults)
    ∙ cases (nat_le u.min_quorum 0) refl
  where
    cases : (b : Bool) → nat_le u.min_quorum 0 ≡ b → max u.target_nresults (cond {A = ℕ} b (0 + 1) 0) - u.target_nresults - 0 ≡ 0
    cases true is = let low : u.min_quorum ≤ 0 = leb-true u.min_quorum 0 is in absurd (omega arith)
    cases false is = omega arith

pub new_unit_is_sound : (hosts : List HostRow) (apps : List App) (u : Workunit) → IsUnitInLimits u → IsTrue (has_app apps u.app)
    → IsSoundUnit hosts apps (new_unit u)
new_unit_is_sound hosts apps u limits app = record {
  satisfied = λ is_it. nothing_needed u limits.quorum.0;
  classed = λ is. All-replicate (λ (x : Instance). x.owner ≡ None) u.target_nresults fresh refl;
  well = record {
    one_for_each_user = pairs_from (AreOfOtherUsers hosts) xs (λ i j x y less here there given also.
        let free : x.owner ≡ None = all_get (λ z. z.owner ≡ None) xs i x (All-replicate (λ (z : Instance). z.owner ≡ None) u.target_nresults fresh refl) here in
        let never : false ≡ true = sym (ap (λ o. is_some (option_map (λ (o : Owner). o.host) o)) free) ∙ given in
        absurd cc);
    places = λ n less. let none : count_by is_judged xs ≡ 0 = none_judged u.target_nresults in absurd (omega arith);
    in_range = All-replicate (λ x. IfSome (report_place x) (λ place. place ≤ count_by is_judged xs)) u.target_nresults fresh tt;
    bare = All-replicate IsBare u.target_nresults fresh (λ none. (refl, refl));
    owners = All-replicate (HasOwnerAmong hosts) u.target_nresults fresh tt;
    app = app;
    few = let long : length xs ≡ u.target_nresults = length-replicate u.target_nresults fresh in omega (arith, limits.target.1);
    limits = limits;
    instances = All-replicate IsInstanceInLimits u.target_nresults fresh fresh_in_limits;
  };
}
  where
    xs : List Instance
    xs = replicate u.target_nresults fresh
