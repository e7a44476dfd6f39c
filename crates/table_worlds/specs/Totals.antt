-- Words. How many instances each host holds, and its credit: counted from scratch.
use Rattle.std.specs.Prelude.{ℕ, ◌+◌, ◌*◌, Bool, ◌&&◌, if◌then◌else◌, List, length, count_by, sum_by}
use Rattle.sched_book.specs.Count.{is_held}
use Rattle.sched_book.specs.Numbered.{map_from}
use Rattle.sched_book.specs.Places.{is_owned_by, is_held_by, held_by, credit_in, host_credit}
use Rattle.sched_book.specs.declared.instance.Instance.{Instance}
use Rattle.sched_book.specs.declared.instance.UnitBook.{UnitBook}
use Rattle.sched_book.specs.declared.rows.App.{App}
use Rattle.sched_book.specs.declared.world.World.{World}
use Rattle.table_worlds.specs.declared.totals.Total.{Total}

abbrev pub total_of : World → ℕ → Total
total_of w host = record { held = length (held_by w host); credit = host_credit w host }

-- by the number of the host
abbrev pub totals_of : World → List Total
totals_of w = map_from 1 (λ n h. total_of w n) w.hosts

-- a total with `held` more instances held and `credit` more credit
abbrev pub more : Total → ℕ → ℕ → Total
more t held credit = record { held = t.held + held; credit = t.credit + credit }

-- a host's total with one more instance, which earned `credit`
abbrev pub with_instance : Instance → ℕ → ℕ → Total → Total
with_instance x credit host t = if is_owned_by host x then more t (if is_held x then 1 else 0) credit else t

-- a host's total with more instances, of which each valid one earned `credit`
abbrev pub with_instances : (Instance → Bool) → ℕ → List Instance → ℕ → Total → Total
with_instances valid credit xs host t = more t (count_by (is_held_by host) xs) (credit * count_by (λ x. is_owned_by host x && valid x) xs)

-- a host's total with what it holds of these workunits and its credit from them
abbrev pub with_units : List App → List UnitBook → ℕ → Total → Total
with_units apps bs host t = more t (sum_by (λ b. count_by (is_held_by host) b.instances) bs) (sum_by (credit_in apps host) bs)

-- the same for one workunit
abbrev pub with_unit : List App → UnitBook → ℕ → Total → Total
with_unit apps b host t = more t (count_by (is_held_by host) b.instances) (credit_in apps host b)
