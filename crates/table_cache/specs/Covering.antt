-- Rule. What the skips of users cover, by the rows of instances and hosts.
use Rattle.std.specs.Prelude.{◌≡◌, ℕ, true, Bool, List, All, fold, slice_get, Option, Some, None, IsTrue}
use Rattle.sched_book.specs.Desk.{instances_at}
use Rattle.sched_book.specs.Places.{is_before}
use Rattle.sched_book.specs.declared.instance.Instance.{Instance}
use Rattle.sched_book.specs.declared.instance.Owner.{Owner}
use Rattle.sched_book.specs.declared.instance.Place.{Place}
use Rattle.sched_book.specs.declared.world.World.{World}
use Rattle.table_desk.specs.WaitingWindow.{with_wait_at}
use Rattle.table_desk.specs.Skips.{SkipPlaces, no_skip, covers}
use Rattle.table_desk.specs.declared.hosts.CountedHost.{CountedHost}
use Rattle.table_meaning.specs.declared.rows.StoredHost.{StoredHost}
use Rattle.table_meaning.specs.declared.rows.StoredInstance.{StoredInstance}
use Rattle.table_meaning.specs.declared.rows.StoredRow.{StoredRow}
use Rattle.table_meaning.specs.declared.rows.StoredRow.TheVariants as stored
use Rattle.table_cache.specs.declared.skips.Skips.{Skips}
use Rattle.table_cache.specs.declared.skips.UserSkip.{UserSkip}

-- ---- what waits, by workunit and number

-- with what a row says
abbrev pub with_wait : (ℕ → ℕ → Option Bool) → StoredRow → ℕ → ℕ → Option Bool
with_wait waiting (stored.Instance row) = with_wait_at waiting row.unit_id row.num row.queued
with_wait waiting other = waiting

-- and with what each of these rows says, in turn
abbrev pub with_waits : (ℕ → ℕ → Option Bool) → List StoredRow → ℕ → ℕ → Option Bool
with_waits = fold with_wait

-- ---- jobs that a user had

-- the jobs of a world, by workunit and number
abbrev pub jobs_of : World → ℕ → ℕ → Option Instance
jobs_of w unit number = slice_get (instances_at w unit) number

-- One of these jobs, of this workunit, was given to one of these hosts, and the host is of this account.
pub record WasGiven (jobs : ℕ → ℕ → Option Instance) (hosts : ℕ → Option CountedHost) (account unit : ℕ) : Type 0 where
  pub number : ℕ
  pub job : Instance
  pub owner : Owner
  pub host : CountedHost
  pub is_job : jobs unit number ≡ Some job
  pub is_owner : job.owner ≡ Some owner
  pub is_host : hosts owner.host ≡ Some host
  pub is_account : host.row.account ≡ account

-- a job that a host was given stays with it, by the row of an instance
abbrev pub KeepsHost : (ℕ → ℕ → Option Instance) → StoredInstance → Type 0
KeepsHost jobs row = (x : Instance) (o : Owner) → jobs row.unit_id row.num ≡ Some x → x.owner ≡ Some o → row.host_id ≡ Some o.host

-- a host stays with its account, by a row
abbrev pub KeepsAccount : (ℕ → Option CountedHost) → StoredHost → Type 0
KeepsAccount hosts row = (h : CountedHost) → hosts row.id ≡ Some h → h.row.account ≡ row.account_id

-- ---- skips

-- Before this place, what waits is of a workunit that the user of an account had a job of.
abbrev pub IsHadBefore : (ℕ → ℕ → Option Bool) → (ℕ → ℕ → Option Instance) → (ℕ → Option CountedHost) → ℕ → Place → Type 0
IsHadBefore waiting jobs hosts account place =
    (unit number : ℕ) → waiting unit number ≡ Some true → IsTrue (is_before (record { unit = unit; number = number }) place) → WasGiven jobs hosts account unit

-- What a skip of the user of an account covers, if it waits, is of a workunit that the user had a job of. If no account is named, the
-- skip covers nothing.
abbrev pub IsSkipFor : (ℕ → ℕ → Option Bool) → (ℕ → ℕ → Option Instance) → (ℕ → Option CountedHost) → Option ℕ → SkipPlaces → Type 0
IsSkipFor waiting jobs hosts None skip = skip ≡ no_skip
IsSkipFor waiting jobs hosts (Some account) skip =
    (unit number : ℕ) → waiting unit number ≡ Some true → IsTrue (covers skip (record { unit = unit; number = number })) → WasGiven jobs hosts account unit

-- the same of a user with a skip
abbrev pub IsUserSkip : (ℕ → ℕ → Option Bool) → (ℕ → ℕ → Option Instance) → (ℕ → Option CountedHost) → UserSkip → Type 0
IsUserSkip waiting jobs hosts u = IsSkipFor waiting jobs hosts (Some u.account) u.skip

-- Each skip is one of its user, and the one for everybody else covers nothing.
pub record AreSkipsFor (waiting : ℕ → ℕ → Option Bool) (jobs : ℕ → ℕ → Option Instance) (hosts : ℕ → Option CountedHost) (skips : Skips) : Type 0 where
  pub users : All (IsUserSkip waiting jobs hosts) skips.users.items
  pub nowhere : skips.nowhere ≡ no_skip
