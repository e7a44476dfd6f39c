-- Promise. Which list of jobs is a grant. The limits are named as BOINC names them; what they count is this profile's.
use Rattle.std.specs.Prelude.{ℕ, ◌+◌, ◌/◌, ◌<◌, ◌≤◌, Bool, ◌||◌, ◌==◌, nat_le, if◌then◌else◌, IsTrue, List, length, take, sum_by, filter, All, AllPairs, EachIndex}
use Rattle.std.specs.List.{list_any, list_all}
use Rattle.sched_book.specs.Places.{places, sent_on_day, is_before, is_same}
use Rattle.sched_book.specs.Fits.{is_eligible, estimate_at}
use Rattle.rpc_records.specs.declared.reply.EndWord.{EndWord}
use Rattle.rpc_records.specs.declared.reply.EndWord.TheVariants.{Enough, ReplyLimit, InProgressLimit, DailyQuota, NoEligibleWork}
use Rattle.sched_book.specs.declared.rows.HostRow.{HostRow}
use Rattle.sched_book.specs.declared.instance.Place.{Place}
use Rattle.sched_book.specs.declared.world.World.{World}

-- what is asked for, and what counts against the limits
pub record Asking : Type 0 where
  -- the host, its number and its row
  pub number : ℕ
  pub host : HostRow
  -- the seconds of the jobs that are sent again
  pub before : ℕ
  -- how many jobs the host holds
  pub held : ℕ
  -- the seconds that it asks for
  pub asked : ℕ
  pub now : ℕ

-- the seconds of the jobs that are sent again and of the jobs in the list
abbrev pub seconds_of : World → Asking → List Place → ℕ
seconds_of w q jobs = q.before + sum_by (estimate_at w q.host) jobs

abbrev pub sent_today : World → Asking → ℕ
sent_today w q = sent_on_day w q.number (q.now / 86400)

-- one of the jobs is of the workunit
abbrev pub has_unit : ℕ → List Place → Bool
has_unit unit jobs = list_any (λ p. p.unit == unit) jobs

abbrev pub is_enough : World → Asking → List Place → Bool
is_enough w q jobs = nat_le q.asked (seconds_of w q jobs)

-- n jobs are as many as one reply may have, as the host may have in progress, or as it may get on this day
abbrev pub fills_reply : World → ℕ → Bool
fills_reply w n = nat_le w.settings.max_wus_to_send n

abbrev pub fills_progress : World → Asking → ℕ → Bool
fills_progress w q n = nat_le w.settings.max_wus_in_progress (q.held + n)

abbrev pub fills_day : World → Asking → ℕ → Bool
fills_day w q n = nat_le q.host.quota (sent_today w q + n)

-- no further job can be given: it is enough, a limit is reached, or each eligible instance is of a workunit that has a job
abbrev pub is_maximal : World → Asking → List Place → Bool
is_maximal w q jobs =
    is_enough w q jobs || fills_reply w (length jobs) || fills_progress w q (length jobs) || fills_day w q (length jobs)
    || list_all (λ p. has_unit p.unit jobs) (filter (is_eligible w q.host) (places w))

pub record IsGrant (w : World) (q : Asking) (jobs : List Place) : Type 0 where
  -- the jobs are in the order of their places, each of another workunit
  pub rising : AllPairs (λ p r. p.unit < r.unit) jobs
  pub eligible : All (λ p. IsTrue (is_eligible w q.host p)) jobs
  -- before each job the seconds were still fewer than those asked for
  pub wanted : EachIndex jobs (λ k. seconds_of w q (take k jobs) < q.asked)
  pub in_reply : length jobs ≤ w.settings.max_wus_to_send
  pub in_progress : 0 < length jobs → q.held + length jobs ≤ w.settings.max_wus_in_progress
  pub in_quota : 0 < length jobs → sent_today w q + length jobs ≤ q.host.quota
  pub maximal : IsTrue (is_maximal w q jobs)
  -- an eligible instance before a job is itself a job, or of the workunit of an earlier job
  pub by_place : All (λ p. All (λ r. IsTrue (is_eligible w q.host r) → IsTrue (is_before r p) →
      IsTrue (list_any (is_same r) jobs || has_unit r.unit (filter (λ s. is_before s p) jobs))) (places w)) jobs

-- why there are no more jobs: the first of these reasons that holds
abbrev pub end_word : World → Asking → List Place → EndWord
end_word w q jobs =
    if is_enough w q jobs then Enough
    else (if fills_reply w (length jobs) then ReplyLimit
    else (if fills_progress w q (length jobs) then InProgressLimit
    else (if fills_day w q (length jobs) then DailyQuota
    else NoEligibleWork)))
