-- Words. What is counted for hosts over the workunits that a call touched, as they were before the call and as they are now.
use Rattle.std.specs.Prelude.{◌≡◌, ℕ, ◌+◌, ◌*◌, ◌&&◌, List, length, count_by, sum_by, Option, Some, None, unwrap_or}
use Rattle.std.specs.BTreeMap.{BTreeMap, get}
use Rattle.std.specs.Ordering.{nat_cmp}
use Rattle.sched_book.specs.Count.{verdict, is_valid}
use Rattle.sched_book.specs.Places.{is_owned_by, is_held_by, held_by, host_credit}
use Rattle.sched_book.specs.declared.instance.UnitBook.{UnitBook}
use Rattle.sched_book.specs.declared.world.World.{World}
use Rattle.call_working_set.specs.UnitState.{UnitState}
use Rattle.call_working_set.specs.WorkingSets.{book_before, book_now}
use Rattle.table_worlds.specs.declared.totals.Total.{Total}
use Rattle.table_changes.specs.declared.tallies.Tallies.{Tallies}

abbrev pub no_total : Total
no_total = record { held = 0; credit = 0 }

-- what was counted for the host of a number
abbrev pub tally : BTreeMap ℕ Total → ℕ → Total
tally totals host = unwrap_or (get nat_cmp totals host) no_total

-- how many instances of a unit state's workunit a host holds, and the host's credit from it, if this book has the workunit's instances
abbrev pub held_on : (UnitState → UnitBook) → ℕ → Option UnitState → ℕ
held_on book host None = 0
held_on book host (Some k) = count_by (is_held_by host) (book k).instances

abbrev pub credit_on : (UnitState → UnitBook) → ℕ → Option UnitState → ℕ
credit_on book host None = 0
credit_on book host (Some k) =
    k.unit.credit * count_by (λ x. is_owned_by host x && is_valid (verdict k.agreement k.unit (book k).instances x)) (book k).instances

-- both, over all these workunits
abbrev pub total_on : (UnitState → UnitBook) → (ℕ → Option UnitState) → List ℕ → ℕ → Total
total_on book kept units host = record {
  held = sum_by (λ unit. held_on book host (kept unit)) units;
  credit = sum_by (λ unit. credit_on book host (kept unit)) units;
}

-- These are the totals of each host from the workunits, before the call and now.
pub record AreTallies (kept : ℕ → Option UnitState) (units : List ℕ) (tallies : Tallies) : Type 0 where
  pub before : (host : ℕ) → tally tallies.before host ≡ total_on book_before kept units host
  pub present : (host : ℕ) → tally tallies.present host ≡ total_on book_now kept units host

-- From one world to another, what the host holds and its credit lose one share and gain the other.
pub record ReplacesShare (old new : World) (host : ℕ) (share other : Total) : Type 0 where
  pub held : length (held_by old host) + other.held ≡ length (held_by new host) + share.held
  pub credit : host_credit old host + other.credit ≡ host_credit new host + share.credit
