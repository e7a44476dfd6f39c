-- Rule. What is known before the first offer and after each stop, and what is then chosen.
use Rattle.std.specs.Prelude.{◌≡◌, ◌⊎◌, ℕ, ◌-◌, true, false, if◌then◌else◌, [], All, Some, None}
use Rattle.sched_book.specs.Fits.{version_for}
use Rattle.sched_book.specs.Skipping.{user_had_at}
use Rattle.sched_book.specs.Offers.{unsent, OffersAll}
use Rattle.sched_book.specs.Places.{sent_on_day}
use Rattle.sched_book.specs.declared.desk.Candidate.{Candidate}
use Rattle.sched_book.specs.declared.desk.Flow.{Flow}
use Rattle.sched_book.specs.declared.desk.Flow.TheVariants.{GoOn, Stop}
use Rattle.sched_book.specs.declared.instance.Place.{Place}
use Rattle.sched_book.specs.declared.rows.HostRow.{HostRow}
use Rattle.sched_book.specs.declared.world.World.{World}
use Rattle.job_choice.specs.Choosing.{is_full, has_job_of, after_version}
use Rattle.job_choice.specs.Past.{IsUserPast}
use Rattle.job_choice.specs.declared.choosing.Choosing.{Choosing}
use Rattle.job_choice.specs.declared.choosing.Known.{Known}
use Rattle.job_choice.specs.declared.choosing.KnownApp.{KnownApp}
use Rattle.job_choice.specs.declared.choosing.Limits.{Limits}
use Rattle.job_choice.specs.declared.past.UserPast.TheVariants.{InPart}

-- the most jobs by each limit, on a day
abbrev pub limits_on : World → ℕ → HostRow → ℕ → ℕ → Limits
limits_on w number h held day = record {
  reply = w.settings.max_wus_to_send;
  progress = w.settings.max_wus_in_progress - held;
  day = h.quota - sent_on_day w number day;
}

abbrev pub nothing_known : Known
nothing_known = record { past = InPart []; apps = [] }

-- before the first offer, for a host with these limits that still wants this many seconds
pub record IsBegun (h : HostRow) (limits : Limits) (wanted : ℕ) (t : Choosing) : Type 0 where
  pub host : t.host.now ≡ h
  pub known : t.known ≡ nothing_known
  pub limits_are : t.limits ≡ limits
  pub wanted_is : t.wanted ≡ wanted
  pub jobs : t.jobs ≡ []
  pub unjudged : t.unjudged ≡ None

abbrev pub first_place : Place
first_place = record { unit = 1; number = 0 }

-- It is the version that the host runs of the application.
abbrev pub IsKnown : World → HostRow → KnownApp → Type 0
IsKnown w h k = k.version ≡ version_for w h k.app

-- what is known for the host is true
pub record IsRight (w : World) (h : HostRow) (known : Known) : Type 0 where
  pub past : IsUserPast w h.account known.past
  pub apps : All (IsKnown w h) known.apps

-- what is known is true, and no candidate is left unjudged
pub record IsUpToDate (w : World) (t : Choosing) : Type 0 where
  pub known : IsRight w t.host.now t.known
  pub unjudged : t.unjudged ≡ None

-- the result of judging a candidate by the user's past and by the version that the host runs in the world
abbrev pub judged : World → Choosing → Candidate → Choosing
judged w t c =
    if has_job_of t.jobs c.place.unit then t
    else after_version t c (Some (user_had_at w t.host.now.account c.place.unit)) (version_for w t.host.now c.unit.app)

-- The candidate is judged by the world, regardless of what is known, and the taker stops when it is full.
abbrev pub Chooses : World → Choosing → Candidate → Flow → Choosing → Type 0
Chooses w old c flow new = (flow ≡ (if is_full new then Stop else GoOn)) × (new ≡ record (judged w old c) { known = new.known })

-- If nothing could be taken, nothing was chosen. Otherwise jobs were chosen from all candidates, up to the one at which
-- it stopped.
abbrev pub HasChosen : World → Choosing → Choosing → Type 0
HasChosen w old new =
    ((is_full old ≡ true) × (new ≡ old))
    ⊎ ((is_full old ≡ false) × OffersAll (Chooses w) old (unsent w first_place) new)
