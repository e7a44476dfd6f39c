-- Words. What is still remembered after rows were put.
use Rattle.std.specs.Prelude.{◌≡◌, ◌⊎◌, ℕ, ◌+◌, ◌/◌, ◌&&◌, ◌==◌, if◌then◌else◌, cond, eqb, List, [], fold, sum_by, slice_get, Option, Some, None, option_map, IfSome}
use Rattle.std.specs.BTreeMap.{get}
use Rattle.std.specs.Cmp.Lexicographic.{slice_cmp}
use Rattle.std.specs.List.{range_with_len}
use Rattle.std.specs.Ordering.{nat_cmp}
use Rattle.sched_book.specs.Places.{option_any, was_sent}
use Rattle.sched_book.specs.declared.instance.Instance.{Instance}
use Rattle.sched_book.specs.declared.instance.Owner.{Owner}
use Rattle.table_desk.specs.declared.hosts.CountedHost.{CountedHost}
use Rattle.table_meaning.specs.declared.rows.StoredRow.{StoredRow}
use Rattle.table_meaning.specs.declared.rows.StoredRow.TheVariants as stored
use Rattle.table_meaning.specs.Rows.{RowKey, account_key, app_key, version_key, class_key, unit_key, mark_key, row_key_of, columns_of}
use Rattle.table_worlds.specs.ReadBack.{number_at, host_in, job_in}
use Rattle.table_cache.specs.LastNumbers.{AreNoJobsPast, AreNonePast}
use Rattle.table_cache.specs.RowsRead.{HoldOfEach, AreSome}
use Rattle.table_cache.specs.declared.cache.Cache.{Cache}
use Rattle.table_cache.specs.declared.credits.HostsRead.{HostsRead}
use Rattle.table_cache.specs.declared.sent.JobsRead.{JobsRead}
use Rattle.table_cache.specs.declared.sent.Sending.{Sending}
use Rattle.table_cache.specs.declared.sent.SentRead.{SentRead}
use Rattle.table_cache.specs.declared.rows_read.RowsRead.{RowsRead}

-- ---- what rows tell

-- the instance of a row
abbrev pub job_of : StoredRow → Instance
job_of row = job_in (columns_of row)

-- the host of a row, with what the row counts of it
abbrev pub counted_of : StoredRow → CountedHost
counted_of row = record { row = host_in (columns_of row); held = number_at (columns_of row) 8; credit = number_at (columns_of row) 9 }

-- these are the instances with this one at a number
abbrev pub IsRenewed : ℕ → Instance → List Instance → List Instance → Type 0
IsRenewed number x old new = (at : ℕ) → slice_get new at ≡ cond (eqb number at) (Some x) (slice_get old at)

-- ---- what is still remembered

-- Either the key stays, and what is known of it is what was known; or a row is put there, and it follows from that row.
abbrev pub IsStillKnown : {X : Type 0} → (RowKey → Type 0) → (StoredRow → Type 0) → (StoredRow → X) → RowKey → Option X → Option X → Type 0
IsStillKnown Stays Puts told key old new = (Stays key × (new ≡ old)) ⊎ ((row : StoredRow) × Puts row × (row_key_of row ≡ key) × (new ≡ Some (told row)))

-- What is remembered was so before, and rests on rows at keys that stay: a workunit on its row, its mark and the applications, accounts
-- and versions on all that there are.
pub record AreCarried (Stays : RowKey → Type 0) (old new : Cache) : Type 0 where
  pub units : AreSome nat_cmp (λ n. Stays (unit_key n) × Stays (mark_key n) × ((id : ℕ) → Stays (app_key id))) old.units.rows new.units.rows
  pub accounts : AreSome (slice_cmp nat_cmp) (λ _. (id : ℕ) → Stays (account_key id)) old.accounts new.accounts
  pub versions : (new.versions.items ≡ []) ⊎ ((new.versions.items ≡ old.versions.items) × ((id : ℕ) → Stays (app_key id) × Stays (version_key id) × Stays (class_key id)))

-- ---- hosts, and the credit of their users

-- the hosts with this one at a number
abbrev pub with_counted : (ℕ → Option CountedHost) → ℕ → CountedHost → ℕ → Option CountedHost
with_counted hosts number h other = if number == other then Some h else hosts other

-- the hosts with the one of a row
abbrev pub with_host : (ℕ → Option CountedHost) → StoredRow → ℕ → Option CountedHost
with_host hosts (stored.Host row) = with_counted hosts row.id (counted_of (stored.Host row))
with_host hosts other = hosts

-- and with those of each of these rows, in turn
abbrev pub with_hosts : (ℕ → Option CountedHost) → List StoredRow → ℕ → Option CountedHost
with_hosts = fold with_host

-- what a host adds to the credit of an account
abbrev pub share : ℕ → Option CountedHost → ℕ
share account None = 0
share account (Some h) = if h.row.account == account then h.credit else 0

-- this is what a host adds to the credit of an account, and it adds nothing to that of others
abbrev pub IsShareOf : ℕ → Option CountedHost → ℕ → Type 0
IsShareOf account host credit = (other : ℕ) → share other host ≡ (if account == other then credit else 0)

-- what the hosts of the first `count` numbers add to it
abbrev pub shares : (ℕ → Option CountedHost) → ℕ → ℕ → ℕ
shares hosts account count = sum_by (λ number. share account (hosts number)) (range_with_len 0 count)

-- What is known of the credit of accounts is that of these hosts. None of them from the number `end` on has credit.
abbrev pub AreCreditsOf : (ℕ → Option CountedHost) → ℕ → RowsRead ℕ ℕ → Type 0
AreCreditsOf hosts end credits = HoldOfEach nat_cmp (λ account credit. (more : ℕ) → credit ≡ shares hosts account (end + more)) credits

-- What is known of hosts, and of the credit of accounts, is that of these hosts. If a last number is known, no host has a greater one.
pub record AreOfHosts (hosts : ℕ → Option CountedHost) (read : HostsRead) : Type 0 where
  pub each : HoldOfEach nat_cmp (λ number h. hosts number ≡ Some h) read.rows
  pub end : ℕ
  pub credited : AreCreditsOf hosts end read.credits
  pub none_past : IfSome read.last (AreNonePast hosts)

-- ---- jobs, and how many of them hosts were sent

-- the jobs, by workunit and number, with this one at a place
abbrev pub with_one : (ℕ → ℕ → Option Instance) → ℕ → ℕ → Instance → ℕ → ℕ → Option Instance
with_one jobs unit number x other at = if unit == other then if number == at then Some x else jobs other at else jobs other at

-- the jobs with the one of a row
abbrev pub with_job : (ℕ → ℕ → Option Instance) → StoredRow → ℕ → ℕ → Option Instance
with_job jobs (stored.Instance row) = with_one jobs row.unit_id row.num (job_of (stored.Instance row))
with_job jobs other = jobs

-- and with those of each of these rows, in turn
abbrev pub with_jobs : (ℕ → ℕ → Option Instance) → List StoredRow → ℕ → ℕ → Option Instance
with_jobs = fold with_job

-- to which host a job was given, and on which day
abbrev pub sending_of : Instance → Option Sending
sending_of x = option_map (λ (o : Owner). record { host = o.host; day = o.sent / 86400 }) x.owner

-- 1 if it was given to this host on this day, and else 0
abbrev pub given_to : ℕ → ℕ → Sending → ℕ
given_to host day s = if (s.host == host) && (s.day == day) then 1 else 0

-- 1 for a job that was sent to a host on a day, and else 0
abbrev pub weight : ℕ → ℕ → Option Instance → ℕ
weight host day job = if option_any (was_sent host day) job then 1 else 0

-- how many of a workunit's first n jobs a host was sent on a day
abbrev pub sent_of_unit : (ℕ → ℕ → Option Instance) → ℕ → ℕ → ℕ → ℕ → ℕ
sent_of_unit jobs host day numbers unit = sum_by (λ number. weight host day (jobs unit number)) (range_with_len 0 numbers)

-- how many of the jobs of the first n workunits it was sent
abbrev pub sent_among : (ℕ → ℕ → Option Instance) → ℕ → ℕ → ℕ → ℕ → ℕ
sent_among jobs host day units numbers = sum_by (sent_of_unit jobs host day numbers) (range_with_len 0 units)

-- What is known of how many jobs hosts were sent is that of these jobs. No workunit from the place `units` on, and no number
-- from `numbers` on, has one that was sent.
abbrev pub AreSentOf : (ℕ → ℕ → Option Instance) → ℕ → ℕ → RowsRead ℕ SentRead → Type 0
AreSentOf jobs units numbers sent = HoldOfEach nat_cmp (λ host s. (more further : ℕ) → s.count ≡ sent_among jobs host s.day (units + more) (numbers + further)) sent

-- what is known was known before, with one job more for a host and its day
abbrev pub HaveOneMore : Sending → RowsRead ℕ SentRead → RowsRead ℕ SentRead → Type 0
HaveOneMore one old new = (host : ℕ) (s : SentRead) → get nat_cmp new.rows host ≡ Some s → (t : SentRead) × (get nat_cmp old.rows host ≡ Some t) × (s.day ≡ t.day) × (s.count ≡ t.count + given_to host t.day one)

-- What is known of the instances of workunits, and of how many jobs hosts were sent, is that of these jobs. If a last place is known, no
-- workunit at a greater one has a job.
pub record AreOfJobs (jobs : ℕ → ℕ → Option Instance) (read : JobsRead) : Type 0 where
  pub each : HoldOfEach nat_cmp (λ unit xs. (number : ℕ) → slice_get xs number ≡ jobs unit number) read.instances
  pub units : ℕ
  pub numbers : ℕ
  pub counted : AreSentOf jobs units numbers read.sent
  pub none_past : IfSome read.last (AreNoJobsPast jobs)
