-- Rule. What the taker that chooses jobs does with each candidate, and when it stops.
use Rattle.std.specs.Prelude.{◌≡◌, ◌⊎◌, ℕ, ◌-◌, Bool, false, not, ◌||◌, ◌==◌, nat_le, if◌then◌else◌, IsTrue, List, [], ◌∷◌, ◌++◌, length, find, Option, Some, None, is_some, option_map, unwrap_or}
use Rattle.std.specs.List.{list_any}
use Rattle.std.specs.Str.{bytes_eq}
use Rattle.rpc_records.specs.declared.reply.EndWord.{EndWord}
use Rattle.rpc_records.specs.declared.reply.EndWord.TheVariants.{Enough, ReplyLimit, InProgressLimit, DailyQuota, NoEligibleWork}
use Rattle.sched_book.specs.Fits.{estimate, fits}
use Rattle.sched_book.specs.Places.{option_any}
use Rattle.sched_book.specs.declared.desk.Candidate.{Candidate}
use Rattle.sched_book.specs.declared.desk.Flow.{Flow}
use Rattle.sched_book.specs.declared.desk.Flow.TheVariants.{GoOn, Stop}
use Rattle.sched_book.specs.declared.rows.Version.{Version}
use Rattle.job_choice.specs.Past.{known_had}
use Rattle.job_choice.specs.declared.choosing.Choosing.{Choosing}
use Rattle.job_choice.specs.declared.choosing.Known.{Known}
use Rattle.job_choice.specs.declared.choosing.KnownApp.{KnownApp}
use Rattle.job_choice.specs.declared.choosing.Unjudged.{Unjudged}
use Rattle.job_choice.specs.declared.granted.Granted.{Granted}

-- the seconds are reached, or a limit is
abbrev pub is_full : Choosing → Bool
is_full t = (t.wanted == 0) || nat_le t.limits.reply (length t.jobs) || nat_le t.limits.progress (length t.jobs) || nat_le t.limits.day (length t.jobs)

abbrev pub end_word_at : Choosing → EndWord
end_word_at t =
    if t.wanted == 0 then Enough
    else (if nat_le t.limits.reply (length t.jobs) then ReplyLimit
    else (if nat_le t.limits.progress (length t.jobs) then InProgressLimit
    else (if nat_le t.limits.day (length t.jobs) then DailyQuota
    else NoEligibleWork)))

abbrev pub has_job_of : List Granted → ℕ → Bool
has_job_of jobs unit = list_any (λ j. j.place.unit == unit) jobs

-- what is known of the application of this name
abbrev pub known_of : List KnownApp → List ℕ → Option KnownApp
known_of apps app = find (λ k. bytes_eq k.app app) apps

-- whether the host runs a version of the application of this name, if that is known
abbrev pub known_runs : List KnownApp → List ℕ → Option Bool
known_runs apps app = option_map (λ k. is_some k.version) (known_of apps app)

-- A candidate can be judged: it is known whether the host runs its application and, if it does, whether the user had its
-- workunit.
abbrev pub can_judge : Known → Unjudged → Bool
can_judge known u = option_any (λ runs. not runs || is_some (known_had known.past u.place.unit)) (known_runs known.apps u.app)

abbrev pub with_job : Choosing → Candidate → Version → Choosing
with_job t c v = record t {
  wanted = t.wanted - estimate c.unit.rsc_fpops_est t.host.now.p_fpops;
  jobs = t.jobs ++ (record { place = c.place; estimate = estimate c.unit.rsc_fpops_est t.host.now.p_fpops; version = v }) ∷ [];
}

abbrev pub unjudged_of : Candidate → Unjudged
unjudged_of c = record { place = c.place; app = c.unit.app }

abbrev pub unjudged_at : Choosing → Candidate → Choosing
unjudged_at t c = record t { unjudged = Some (unjudged_of c) }

-- a candidate that fits is taken if the user had no instance of its workunit
abbrev pub after_past : Choosing → Candidate → Version → Option Bool → Choosing
after_past t c v None = unjudged_at t c
after_past t c v (Some had) = if had then t else with_job t c v

-- the taker after a candidate, by whether the user had its workunit and by the version that the host runs
abbrev pub after_version : Choosing → Candidate → Option Bool → Option Version → Choosing
after_version t c had None = t
after_version t c had (Some v) = if fits t.host.now c.unit (Some v) then after_past t c v had else t

-- the same, by what is known of its application
abbrev pub after_app : Choosing → Candidate → Option Bool → Option KnownApp → Choosing
after_app t c had None = unjudged_at t c
after_app t c had (Some k) = after_version t c had k.version

-- no candidate of the workunit is taken: there is a job of it, or it is known that the user had one
abbrev pub is_left : Choosing → ℕ → Bool
is_left t unit = has_job_of t.jobs unit || unwrap_or (known_had t.known.past unit) false

-- if a job of its workunit may still be taken, the candidate is judged by what is known
abbrev pub after : Choosing → Candidate → Choosing
after t c =
    if is_left t c.place.unit then t
    else after_app t c (known_had t.known.past c.place.unit) (known_of t.known.apps c.unit.app)

-- It stops if it is out of memory. Otherwise it stops at a candidate that it could not judge, or when it is full.
abbrev pub Takes : Choosing → Candidate → Flow → Choosing → Type 0
Takes old c flow new =
    ((flow ≡ Stop) × IsTrue new.refused)
    ⊎ ((flow ≡ (if is_some new.unjudged || is_full new then Stop else GoOn)) × (new ≡ after old c))
