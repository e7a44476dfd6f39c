-- What a host holds after its call, in the terms of the request and of the reply.
use Rattle.std.proofs.Common.{◌≡◌, ◌≢◌, ◌⊎◌, inl, inr, ℕ, ◌+◌, ◌<◌, ◌≤◌, true, false, List, [], ◌++◌, length, Option, Some, sym, ap, ◌∙◌, subst, arith}
use Rattle.std.proofs.lemmas.Bool.{cases_lt}
use Rattle.std.specs.Prelude.{◌&&◌, AllPairs, Contains, filter_map, is_none, is_some, option_map, option_and_then, slice_get, unwrap_or}
use Rattle.std.proofs.lemmas.List.Elements.{Contains-append_cases, Contains-append_left, Contains-append_right}
use Rattle.std.proofs.lemmas.Option.{slice_get_within}
use Rattle.rpc_records.specs.declared.reply.Job.{Job}
use Rattle.rpc_records.specs.declared.reply.Reply.{Reply}
use Rattle.rpc_records.specs.declared.request.Request.{Request}
use Rattle.sched_book.specs.Fits.{is_eligible, is_for}
use Rattle.sched_book.specs.Lost.{is_resent}
use Rattle.sched_book.specs.Limits.{most_instances}
use Rattle.sched_book.specs.Names.{instance_name, name_parts}
use Rattle.sched_book.specs.Places.{instance_at, is_held_by, name_at, unit_at}
use Rattle.sched_book.specs.Sound.{IsSoundUnit, Sound}
use Rattle.sched_book.specs.Step.{after_settlement, asking_of, at_entry, granted, host_number, host_at_entry, job_at, lost_of, resent_of, IsCaller, after_reports}
use Rattle.sched_book.specs.declared.instance.Instance.{Instance}
use Rattle.sched_book.specs.declared.instance.Place.{Place}
use Rattle.sched_book.specs.declared.instance.UnitBook.{UnitBook}
use Rattle.sched_book.specs.declared.machine.Caller.{Caller}
use Rattle.sched_book.specs.declared.rows.HostRow.{HostRow}
use Rattle.sched_book.specs.declared.world.World.{World}
use Rattle.sched_book.proofs.MadeNames.{made_names_are_split}
use Rattle.sched_book.proofs.Newest.{passed_filter, in_filter}
use Rattle.sched_book.proofs.Recording.{passes-is}
use Rattle.job_choice.proofs.Candidates.{Stood, nth_found, stood}
use Rattle.lost_jobs.proofs.Reported.{reports_hold_no_more}
use Rattle.sched_book.proofs.ByPlace.{all_nth}
use Rattle.sched_machine.specs.Asked.{holds}
use Rattle.sched_machine.specs.Held.{HoldsWhatIsListedOrNamed, IsHeldByName, IsHeldByPlace, IsNamed, IsRetained}
use Rattle.sched_machine.proofs.Held.Jobs.{held_jobs_by_place}
use Rattle.sched_machine.proofs.Held.Results.{jobs_are_eligible, results_are}
use Rattle.sched_machine.proofs.Held.Said.{eligible_runs, gave, given_by, resent_runs, said_name, said_of}
use Rattle.sched_machine.proofs.OptionParts.{any_by, some_by, then_by}
use Rattle.sched_machine.proofs.Rows.Listed.{pairs_get}
use Rattle.sched_machine.proofs.Moves.Moves.{lost_is_held}

-- workunits with the same name are the same
one_unit : (bs : List UnitBook) (i j : ℕ) (b d : UnitBook) → AllPairs (λ a b. a.unit.name ≢ b.unit.name) bs → slice_get bs i ≡ Some b
    → slice_get bs j ≡ Some d → b.unit.name ≡ d.unit.name → i ≡ j
one_unit bs i j b d apart first second same = elim (cases_lt i j) [
  | inl less ↦ absurd (pairs_get (λ (a b : UnitBook). a.unit.name ≢ b.unit.name) bs i j b d apart less first second same)
  | inr low ↦ elim (cases_lt j i) [
    | inl more ↦ absurd (pairs_get (λ (a b : UnitBook). a.unit.name ≢ b.unit.name) bs j i d b apart more second first (sym same))
    | inr high ↦ (let one : j ≤ i = low in let other : i ≤ j = high in omega arith)
  ]
]

-- the instance at a place, with its workunit
record Standing (w : World) (p : Place) : Type 0 where
  book : UnitBook
  x : Instance
  unit : unit_at w p.unit ≡ Some book
  number : slice_get book.instances p.number ≡ Some x

-- an instance that exists has a workunit
standing : (w : World) (p : Place) → is_some (instance_at w p) ≡ true → Standing w p
standing w p is =
    let x = some_by (instance_at w p) is in
    let b = then_by (λ (b : UnitBook). slice_get b.instances p.number) (unit_at w p.unit) x.0 x.1 in
    record { book = b.0; x = x.0; unit = b.1; number = b.2 }

-- its name is split into the name of its workunit and its number
parts_are : (w : World) → Sound w → (p : Place) → (at : Standing w p) → name_parts (name_at w p) ≡ Some (at.book.unit.name, p.number)
parts_are w sound p at =
    ap name_parts (ap (λ o. unwrap_or (option_map (λ (b : UnitBook). instance_name b.unit.name p.number) o) []) at.unit)
    ∙ made_names_are_split at.book.unit.name p.number
    (let few : length at.book.instances ≤ most_instances = (all_nth (IsSoundUnit w.hosts w.apps) w.units p.unit at.book sound.units at.unit).well.few in
    let within : p.number < length at.book.instances = slice_get_within at.book.instances p.number at.x at.number in
    omega arith)

-- instances with the same name are at the same place
one_place : (w : World) → Sound w → (p q : Place) → is_some (instance_at w p) ≡ true → is_some (instance_at w q) ≡ true → name_at w p ≡ name_at w q → p ≡ q
one_place w sound p q first second same =
    ap (λ n. record { unit = n; number = p.number }) units ∙ ap (λ n. record { unit = q.unit; number = n }) numbers
  where
    here : Standing w p
    here = standing w p first

    there : Standing w q
    there = standing w q second

    parts : ◌≡◌ {A = Option (List ℕ × ℕ)} (Some (here.book.unit.name, p.number)) (Some (there.book.unit.name, q.number))
    parts = sym (parts_are w sound p here) ∙ ap name_parts same ∙ parts_are w sound q there

    numbers : p.number ≡ q.number
    numbers = ap (λ (o : Option (List ℕ × ℕ)). (unwrap_or o ([], 0)).1) parts

    named : here.book.unit.name ≡ there.book.unit.name
    named = ap (λ (o : Option (List ℕ × ℕ)). (unwrap_or o ([], 0)).0) parts

    units : p.unit ≡ q.unit
    units =
        let i = nth_found w.units p.unit here.book here.unit in
        let j = nth_found w.units q.unit there.book there.unit in
        i.1 ∙ ap (λ n. 1 + n) (one_unit w.units i.0 j.0 here.book there.book sound.rows.unit_names i.2 j.2 named) ∙ sym j.1

-- an instance that is held exists
held_stands : (w : World) (host : ℕ) (p : Place) → holds w host p ≡ true → is_some (instance_at w p) ≡ true
held_stands w host p held = ap is_some (any_by (is_held_by host) (instance_at w p) (sym (passes-is w (is_held_by host) p) ∙ held)).1

-- an eligible instance exists
eligible_stands : (w : World) (h : HostRow) (p : Place) → is_eligible w h p ≡ true → is_some (instance_at w p) ≡ true
eligible_stands w h p eligible =
    let at : Stood w (λ b x. is_none x.owner && is_for w h b) p = stood w (λ b x. is_none x.owner && is_for w h b) p eligible in
    ap is_some (ap (option_and_then (λ (b : UnitBook). slice_get b.instances p.number)) at.at ∙ at.stands)

module _ (w : World) (c : Caller) (r : Request) (now : ℕ) (reply : Reply) (names : List (List ℕ)) (jobs : List Place) where
  abbrev left : World
  left = granted (after_settlement w c r now) (host_number w c) now jobs

  abbrev sent : List Job
  sent = filter_map (job_at left (host_at_entry w c r) true) (resent_of w c r)

  abbrev given : List Job
  given = filter_map (job_at left (host_at_entry w c r) false) jobs

  module _ (after : World) (results : reply.results ≡ sent ++ given) (sound : Sound w) (caller : IsCaller w c r)
      (eligible : (p : Place) → Contains jobs p → is_eligible w (asking_of w c r now).host p ≡ true)
      (by_place : (p : Place) → IsHeldByPlace w after c r names jobs p) where
    -- an instance that is sent again is named
    resent_named : (p : Place) → Contains (resent_of w c r) p → IsNamed w reply p
    resent_named p there =
        let known = said_of w c r now jobs (host_at_entry w c r) true p
        (resent_runs w c r now jobs p (passed_filter (is_resent (at_entry w c r) (host_at_entry w c r)) (lost_of w c r) p there)) in (
          known.0,
          subst (λ js. Contains js known.0) (sym results)
              (Contains-append_left sent given known.0 (given_by (job_at left (host_at_entry w c r) true) (resent_of w c r) p known.0 there known.1)),
          known.2,
        )

    -- so is an instance that is granted
    granted_named : (p : Place) → Contains jobs p → IsNamed w reply p
    granted_named p there =
        let known = said_of w c r now jobs (host_at_entry w c r) false p (eligible_runs w c r now jobs caller p (eligible p there)) in (
          known.0,
          subst (λ js. Contains js known.0) (sym results)
              (Contains-append_right sent given known.0 (given_by (job_at left (host_at_entry w c r) false) jobs p known.0 there known.1)),
          known.2,
        )

    -- what is held is retained or named
    named_from : (p : Place) → holds after (host_number w c) p ≡ true → IsRetained w c r names p ⊎ IsNamed w reply p
    named_from p held = elim ((by_place p).from held) [
      | inl kept ↦ inl kept
      | inr (inl there) ↦ inr (resent_named p there)
      | inr (inr there) ↦ inr (granted_named p there)
    ]

    -- it existed before the call
    stood_before : (p : Place) → holds after (host_number w c) p ≡ true → is_some (instance_at w p) ≡ true
    stood_before p held = elim ((by_place p).from held) [
      | inl kept ↦ held_stands w (host_number w c) p kept.kept.held
      | inr (inl there) ↦
          held_stands w (host_number w c) p
          (reports_hold_no_more (at_entry w c r) (host_number w c) r.results p
          (lost_is_held (after_reports w c r) (host_number w c) r.other_results p
          (in_filter (is_resent (at_entry w c r) (host_at_entry w c r)) (lost_of w c r) p there)))
      | inr (inr there) ↦ eligible_stands w (asking_of w c r now).host p (eligible p there)
    ]

    -- each job of the reply has the name of an instance that is held
    job_held : (j : Job) → Contains reply.results j → (p : Place) × (name_at w p ≡ j.name) × (holds after (host_number w c) p ≡ true)
    job_held j there = elim (Contains-append_cases sent given j (subst (λ js. Contains js j) results there)) [
      | inl again ↦ (
          let found = gave (job_at left (host_at_entry w c r) true) (resent_of w c r) j again in
          (found.0, sym (said_name w c r now jobs (host_at_entry w c r) true found.0 j found.2), (by_place found.0).resent found.1))
      | inr new ↦ (
          let found = gave (job_at left (host_at_entry w c r) false) jobs j new in
          (found.0, sym (said_name w c r now jobs (host_at_entry w c r) false found.0 j found.2), (by_place found.0).granted found.1))
    ]

    -- so each instance of such a name is held, because names are distinct
    named_held : (p : Place) → is_some (instance_at w p) ≡ true → IsNamed w reply p → holds after (host_number w c) p ≡ true
    named_held p stands named =
        let job = job_held named.0 named.1 in
        subst (λ q. holds after (host_number w c) q ≡ true)
        (one_place w sound job.0 p (stood_before job.0 job.2) stands (job.1 ∙ named.2)) job.2

    by_name : IsHeldByName w after c r names reply
    by_name = record {
      from = named_from;
      stood = stood_before;
      retained = λ p. (by_place p).retained;
      named = named_held;
      jobs = job_held;
    }

-- the law
pub a_host_holds_what_is_listed_or_named : HoldsWhatIsListedOrNamed
a_host_holds_what_is_listed_or_named w after c r now reply names step sound resends lists =
    by_name w c r now reply names step.jobs after (results_are w after c r now reply step) sound step.caller (jobs_are_eligible w after c r now reply step sound)
    (held_jobs_by_place w after c r now reply names step sound resends lists)
