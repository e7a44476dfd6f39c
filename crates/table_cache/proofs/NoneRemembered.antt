-- What remembers nothing agrees with any world.
use Rattle.std.proofs.Common.{◌≡◌, [], Some, None, sym, subst}
use Rattle.std.specs.Prelude.{All, IfSome}
use Rattle.std.specs.BTreeMap.{get}
use Rattle.std.specs.Cmp.Lexicographic.{slice_cmp}
use Rattle.std.specs.Ordering.{nat_cmp}
use Rattle.std.specs.declared.cmp.Ordering.{Ordering}
use Rattle.std.proofs.lemmas.List.Elements.{All-nil}
use Rattle.sched_book.specs.Desk.{workunit_at, instances_at}
use Rattle.sched_book.specs.Places.{held_by, sent_on_day, user_credit}
use Rattle.sched_book.specs.declared.world.World.{World}
use Rattle.table_desk.specs.Columns.{counted_host_at}
use Rattle.table_meaning.specs.Worlds.{SlotCalls}
use Rattle.table_cache.specs.LastNumbers.{AreNoJobsPast, AreNonePast}
use Rattle.table_cache.specs.Covering.{jobs_of, AreSkipsFor}
use Rattle.table_desk.specs.WaitingWindow.{waiting_of, IsWindowOf}
use Rattle.table_cache.specs.Remembering.{IsAccountOf, IsKeyOf, IsNameOf, IsVersionOf, IsSlotOf, IsCacheOf}
use Rattle.table_cache.specs.declared.cache.Cache.{Cache}
use Rattle.table_cache.specs.declared.rows_read.RowsRead.{RowsRead}
use Rattle.table_cache.proofs.CreditMoves.{hold_of_none}

abbrev HasNone : {K T : Type 0} → (K → K → Ordering) → RowsRead K T → Type 0
HasNone {K} {T} cmp read = (key : K) → get cmp read.rows key ≡ None

pub none_remembered : (w : World) (calls : SlotCalls) (r : Cache) → HasNone nat_cmp r.units.rows → HasNone (slice_cmp nat_cmp) r.units.names → r.units.last ≡ None → HasNone nat_cmp r.jobs.instances → HasNone nat_cmp r.jobs.sent → r.jobs.last ≡ None → HasNone nat_cmp r.hosts.rows → HasNone nat_cmp r.hosts.credits → r.hosts.last ≡ None → HasNone nat_cmp r.held → HasNone (slice_cmp nat_cmp) r.accounts
    → HasNone (slice_cmp nat_cmp) r.keys
    → r.versions.items ≡ [] → r.slot ≡ None → r.window ≡ None → AreSkipsFor (waiting_of w) (jobs_of w) (counted_host_at w) r.skips → IsCacheOf w calls r
none_remembered w calls r units names last_unit instances sent last_jobs hosts credits last_host held accounts keys versions slot window skips = record {
  units = hold_of_none nat_cmp (λ n u. workunit_at w n ≡ Some u) r.units.rows units;
  instances = hold_of_none nat_cmp (λ n xs. xs ≡ instances_at w n) r.jobs.instances instances;
  hosts = hold_of_none nat_cmp (λ n h. counted_host_at w n ≡ Some h) r.hosts.rows hosts;
  credits = hold_of_none nat_cmp (λ account credit. credit ≡ user_credit w account) r.hosts.credits credits;
  last_host = subst (λ o. IfSome o (AreNonePast (counted_host_at w))) (sym last_host) tt;
  sent = hold_of_none nat_cmp (λ host s. s.count ≡ sent_on_day w host s.day) r.jobs.sent sent;
  held = hold_of_none nat_cmp (λ host places. places ≡ held_by w host) r.held held;
  accounts = hold_of_none (slice_cmp nat_cmp) (IsAccountOf w) r.accounts accounts;
  keys = hold_of_none (slice_cmp nat_cmp) (IsKeyOf w) r.keys keys;
  names = hold_of_none (slice_cmp nat_cmp) (IsNameOf w) r.units.names names;
  last_unit = subst (λ o. IfSome o (AreNonePast (workunit_at w))) (sym last_unit) tt;
  last_jobs = subst (λ o. IfSome o (AreNoJobsPast (jobs_of w))) (sym last_jobs) tt;
  versions = subst (All (IsVersionOf w)) (sym versions) (All-nil (IsVersionOf w));
  slot = subst (λ o. IfSome o (IsSlotOf calls)) (sym slot) tt;
  window = subst (λ o. IfSome o (IsWindowOf w)) (sym window) tt;
  skips = skips;
}
