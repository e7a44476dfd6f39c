-- A reply names each job that its call sends again or grants, in order, and leaves none out.
use Rattle.std.proofs.Common.{◌≡◌, inl, inr, ℕ, Bool, true, false, List, [], ◌∷◌, ◌++◌, Option, Some, sym, refl, ap, ap₂, ◌∙◌}
use Rattle.std.specs.Prelude.{Contains, filter_map, map}
use Rattle.std.specs.List.{cons_option}
use Rattle.std.proofs.lemmas.List.{map-append}
use Rattle.std.proofs.lemmas.List.Elements.{All-contains, Contains-append_cases}
use Rattle.rpc_records.specs.declared.reply.Job.{Job}
use Rattle.rpc_records.specs.declared.reply.Reply.{Reply}
use Rattle.rpc_records.specs.declared.request.Request.{Request}
use Rattle.sched_book.specs.Fits.{is_eligible}
use Rattle.sched_book.specs.Lost.{is_resent}
use Rattle.sched_book.specs.Places.{name_at}
use Rattle.sched_book.specs.Sound.{Sound}
use Rattle.sched_book.specs.Step.{RpcStep, after_grant, after_settlement, asking_of, at_entry, deadline_at, granted, host_number, host_at_entry, job_at, lost_of, resent_of}
use Rattle.sched_book.specs.declared.instance.Place.{Place}
use Rattle.sched_book.specs.declared.machine.Caller.{Caller}
use Rattle.sched_book.specs.declared.rows.HostRow.{HostRow}
use Rattle.sched_book.specs.declared.world.World.{World}
use Rattle.sched_book.proofs.Newest.{behind, front_of, passed_filter}
use Rattle.sched_machine.specs.Asked.{holds}
use Rattle.sched_machine.specs.Results.{RepliesNameEachJob, places_given}
use Rattle.sched_machine.proofs.Alike.Settled.{the_settled_world_is_like_the_first}
use Rattle.sched_machine.proofs.Classes.Left.{classed_like, deadline_same, job_same}
use Rattle.sched_machine.proofs.Held.Jobs.{job_is_held, sent_is_held}
use Rattle.sched_machine.proofs.Held.Said.{Runs, eligible_runs, resent_runs, said_of, said_rest}

-- if each element has a value, none is left out: what is read of the values is what is read of the elements
each_read : {X Y Z : Type 0} (f : X → Option Y) (g : Y → Z) (h : X → Z) (xs : List X)
    → ((x : X) → Contains xs x → (y : Y) × (f x ≡ Some y) × (g y ≡ h x)) → map g (filter_map f xs) ≡ map h xs
each_read f g h [] each = refl
each_read f g h (x ∷ xs) each =
    let y = each x (front_of x xs) in
    ap (λ o. map g (cons_option o (filter_map f xs))) y.1
    ∙ ap (λ z. z ∷ map g (filter_map f xs)) y.2
    ∙ ap (λ zs. h x ∷ zs) (each_read f g h xs (λ z there. each z (behind x xs z there)))

module _ (w after : World) (c : Caller) (r : Request) (now : ℕ) (reply : Reply) (step : RpcStep w c r now after reply) where
  -- the world after the grant, before workunits take classes
  abbrev left : World
  left = granted (after_settlement w c r now) (host_number w c) now step.jobs

  abbrev host : HostRow
  host = host_at_entry w c r

  abbrev sent : List Job
  sent = filter_map (job_at left host true) (resent_of w c r)

  abbrev given : List Job
  given = filter_map (job_at left host false) step.jobs

  -- what is said of jobs does not depend on classes
  said : (resent : Bool) → job_at (after_grant w c r now step.jobs) host resent ≡ job_at left host resent
  said resent = λ i p. job_same left (after_grant w c r now step.jobs) (classed_like w host step.jobs left) host resent p i

  pub results_are : reply.results ≡ sent ++ given
  results_are =
      ap (λ (z : Reply). z.results) step.answer
      ∙ ap (λ v. filter_map (job_at v host true) (resent_of w c r) ++ filter_map (job_at v host false) step.jobs) step.left
      ∙ (λ i. filter_map (said true i) (resent_of w c r) ++ filter_map (said false i) step.jobs)

  -- each job was eligible in the world before the call
  pub jobs_are_eligible : Sound w → (p : Place) → Contains step.jobs p → is_eligible w (asking_of w c r now).host p ≡ true
  jobs_are_eligible sound p job =
      sym ((the_settled_world_is_like_the_first w c r now sound step.caller step.room).eligible p)
      ∙ All-contains (λ q. is_eligible (after_settlement w c r now) (asking_of w c r now).host q ≡ true) step.jobs p step.grant.eligible job

  deadline_is : (p : Place) → deadline_at left p ≡ deadline_at after p
  deadline_is p =
      sym (ap (λ (v : World). deadline_at v p) step.left
      ∙ deadline_same left (after_grant w c r now step.jobs) (classed_like w host step.jobs left) p)

  module _ (sound : Sound w) where
    runs_sent : (p : Place) → Contains (resent_of w c r) p → Runs w c r now step.jobs host p
    runs_sent p there = resent_runs w c r now step.jobs p (passed_filter (is_resent (at_entry w c r) host) (lost_of w c r) p there)

    runs_given : (p : Place) → Contains step.jobs p → Runs w c r now step.jobs host p
    runs_given p there = eligible_runs w c r now step.jobs step.caller p (jobs_are_eligible sound p there)

    -- what is read of the reply's jobs is what is read of the places, if that holds of each job
    all_read : {Z : Type 0} (g : Job → Z) (sends gives : Place → Z)
        → ((p : Place) (j : Job) → job_at left host true p ≡ Some j → j.name ≡ name_at w p → g j ≡ sends p)
        → ((p : Place) (j : Job) → job_at left host false p ≡ Some j → j.name ≡ name_at w p → g j ≡ gives p)
        → map g reply.results ≡ map sends (resent_of w c r) ++ map gives step.jobs
    all_read g sends gives of_sent of_given =
        ap (map g) results_are
        ∙ map-append g sent given
        ∙ ap₂ (λ js ks. js ++ ks)
        (each_read (job_at left host true) g sends (resent_of w c r)
        (λ p there. (let j = said_of w c r now step.jobs host true p (runs_sent p there) in (j.0, j.1, of_sent p j.0 j.1 j.2))))
        (each_read (job_at left host false) g gives step.jobs
        (λ p there. (let j = said_of w c r now step.jobs host false p (runs_given p there) in (j.0, j.1, of_given p j.0 j.1 j.2))))

    named : map (λ (j : Job). j.name) reply.results ≡ map (name_at w) (places_given w c r step.jobs)
    named =
        all_read (λ (j : Job). j.name) (name_at w) (name_at w) (λ p j is name. name) (λ p j is name. name)
        ∙ sym (map-append (name_at w) (resent_of w c r) step.jobs)

    dated : map (λ (j : Job). j.report_deadline) reply.results ≡ map (deadline_at after) (places_given w c r step.jobs)
    dated =
        all_read (λ (j : Job). j.report_deadline) (deadline_at after) (deadline_at after)
        (λ p j is name. (said_rest w c r now step.jobs host true p j is).0 ∙ deadline_is p)
        (λ p j is name. (said_rest w c r now step.jobs host false p j is).0 ∙ deadline_is p)
        ∙ sym (map-append (deadline_at after) (resent_of w c r) step.jobs)

    marked : map (λ (j : Job). j.resent) reply.results ≡ map (λ p. true) (resent_of w c r) ++ map (λ p. false) step.jobs
    marked =
        all_read (λ (j : Job). j.resent) (λ p. true) (λ p. false)
        (λ p j is name. (said_rest w c r now step.jobs host true p j is).1)
        (λ p j is name. (said_rest w c r now step.jobs host false p j is).1)

    all_held : (p : Place) → Contains (places_given w c r step.jobs) p → holds after (host_number w c) p ≡ true
    all_held p there = elim (Contains-append_cases (resent_of w c r) step.jobs p there) [
      | inl again ↦ sent_is_held w after c r now reply step p again
      | inr new ↦ job_is_held w after c r now reply step p sound new
    ]

-- the law
pub replies_name_each_job : RepliesNameEachJob
replies_name_each_job w after c r now reply step sound = record {
  names = named w after c r now reply step sound;
  deadlines = dated w after c r now reply step sound;
  resent = marked w after c r now reply step sound;
  held = all_held w after c r now reply step sound;
}
