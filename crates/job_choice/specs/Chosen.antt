-- Rule. What a choice of jobs is.
use Rattle.std.specs.Prelude.{◌≡◌, List, map, All, Some, option_map, option_and_then}
use Rattle.sched_book.specs.Fits.{estimate, version_for}
use Rattle.sched_book.specs.Grant.{Asking, IsGrant, end_word}
use Rattle.sched_book.specs.Places.{unit_at}
use Rattle.sched_book.specs.declared.instance.Place.{Place}
use Rattle.sched_book.specs.declared.rows.HostRow.{HostRow}
use Rattle.sched_book.specs.declared.world.World.{World}
use Rattle.job_choice.specs.declared.granted.Grant.{Grant}
use Rattle.job_choice.specs.declared.granted.Granted.{Granted}

abbrev pub places_of : List Granted → List Place
places_of jobs = map (λ j. j.place) jobs

-- the estimate and the version are those of the job's workunit on the host
pub record IsJob (w : World) (h : HostRow) (j : Granted) : Type 0 where
  pub estimate_is : option_map (λ b. estimate b.unit.rsc_fpops_est h.p_fpops) (unit_at w j.place.unit) ≡ Some j.estimate
  pub version_is : option_and_then (λ b. version_for w h b.unit.app) (unit_at w j.place.unit) ≡ Some j.version

-- the jobs are a grant, and the end word says why there are no more
pub record IsChoice (w : World) (q : Asking) (g : Grant) : Type 0 where
  pub grant : IsGrant w q (places_of g.jobs)
  pub end_word_is : g.end_word ≡ end_word w q (places_of g.jobs)
  pub jobs : All (IsJob w q.host) g.jobs

-- there is one grant for a world and what is asked for
abbrev pub OneGrant : Type 0
OneGrant = (w : World) (q : Asking) (jobs others : List Place) → IsGrant w q jobs → IsGrant w q others → jobs ≡ others
