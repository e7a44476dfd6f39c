-- Rule. What is remembered of what tables hold.
use Rattle.std.specs.Prelude.{◌≡◌, ℕ, List, All, Some, IfSome}
use Rattle.std.specs.Cmp.Lexicographic.{slice_cmp}
use Rattle.std.specs.Ordering.{nat_cmp}
use Rattle.sched_book.specs.Desk.{account_by_key, workunit_at, instances_at}
use Rattle.sched_book.specs.Fits.{version_at}
use Rattle.sched_book.specs.Places.{held_by, known_host, sent_on_day, unit_named, user_credit}
use Rattle.sched_book.specs.declared.rows.HostRow.{HostRow}
use Rattle.sched_book.specs.declared.rows.Workunit.{Workunit}
use Rattle.sched_book.specs.declared.world.World.{World}
use Rattle.table_desk.specs.Columns.{counted_host_at}
use Rattle.table_meaning.specs.Worlds.{SlotCalls}
use Rattle.table_cache.specs.LastNumbers.{AreNoJobsPast, AreNonePast}
use Rattle.table_cache.specs.Covering.{jobs_of, AreSkipsFor}
use Rattle.table_desk.specs.WaitingWindow.{waiting_of, IsWindowOf}
use Rattle.table_cache.specs.RowsRead.{HoldOfEach}
use Rattle.table_cache.specs.NextSlot.{IsSlotFor}
use Rattle.table_cache.specs.declared.keys.HostKeyRead.{HostKeyRead}
use Rattle.table_cache.specs.declared.keys.AccountRead.{AccountRead}
use Rattle.table_cache.specs.declared.cache.Cache.{Cache}
use Rattle.table_cache.specs.declared.cache.SlotRead.{SlotRead}
use Rattle.table_cache.specs.declared.cache.UnitRead.{UnitRead}
use Rattle.table_cache.specs.declared.versions.VersionRead.{VersionRead}
use Rattle.table_cache.specs.declared.rows_read.RowsRead.{RowsRead}

-- workunits that were read are the world's
abbrev pub AreUnitsOf : World → RowsRead ℕ Workunit → Type 0
AreUnitsOf w read = HoldOfEach nat_cmp (λ n u. workunit_at w n ≡ Some u) read

-- a workunit that was read is the one at its place
abbrev pub IsUnitOf : World → UnitRead → Type 0
IsUnitOf w u = workunit_at w u.place ≡ Some u.row

-- an account that was read is the one of its authenticator
abbrev pub IsAccountOf : World → List ℕ → AccountRead → Type 0
IsAccountOf w authenticator a = account_by_key w authenticator ≡ Some (record { place = a.place; row = a.row })

-- a version that was read is the one that each host of these platforms runs
abbrev pub IsVersionOf : World → VersionRead → Type 0
IsVersionOf w v = (h : HostRow) → h.platforms ≡ v.platforms → version_at w h v.app ≡ Some v.row

-- a host that was found is the one of its account and its host_cpid
abbrev pub IsKeyOf : World → List ℕ → HostKeyRead → Type 0
IsKeyOf w cpid k = known_host w k.account cpid ≡ Some k.host

-- a workunit that was found is the one of its name
abbrev pub IsNameOf : World → List ℕ → ℕ → Type 0
IsNameOf w name unit = unit_named w name ≡ Some unit

-- a slot that was found is the one for the next call of its host
abbrev pub IsSlotOf : SlotCalls → SlotRead → Type 0
IsSlotOf calls s = IsSlotFor (calls s.host) s.slot

-- What is remembered is what the world has, of what waits a window of its places, and of the calls in the slots of a host which slot is for
-- the next.
pub record IsCacheOf (w : World) (calls : SlotCalls) (cache : Cache) : Type 0 where
  pub units : AreUnitsOf w cache.units.rows
  pub instances : HoldOfEach nat_cmp (λ n xs. xs ≡ instances_at w n) cache.jobs.instances
  pub hosts : HoldOfEach nat_cmp (λ n h. counted_host_at w n ≡ Some h) cache.hosts.rows
  pub credits : HoldOfEach nat_cmp (λ account credit. credit ≡ user_credit w account) cache.hosts.credits
  pub last_host : IfSome cache.hosts.last (AreNonePast (counted_host_at w))
  pub sent : HoldOfEach nat_cmp (λ host s. s.count ≡ sent_on_day w host s.day) cache.jobs.sent
  pub held : HoldOfEach nat_cmp (λ host places. places ≡ held_by w host) cache.held
  pub accounts : HoldOfEach (slice_cmp nat_cmp) (IsAccountOf w) cache.accounts
  pub keys : HoldOfEach (slice_cmp nat_cmp) (IsKeyOf w) cache.keys
  pub names : HoldOfEach (slice_cmp nat_cmp) (IsNameOf w) cache.units.names
  pub last_unit : IfSome cache.units.last (AreNonePast (workunit_at w))
  pub last_jobs : IfSome cache.jobs.last (AreNoJobsPast (jobs_of w))
  pub versions : All (IsVersionOf w) cache.versions.items
  pub slot : IfSome cache.slot (IsSlotOf calls)
  pub window : IfSome cache.window (IsWindowOf w)
  pub skips : AreSkipsFor (waiting_of w) (jobs_of w) (counted_host_at w) cache.skips
