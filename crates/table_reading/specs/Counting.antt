-- Rule. What a reading notes of the rows of workunits, marks and instances, in the order of their tables.
use Rattle.std.specs.Prelude.{ℕ, ◌+◌, ◌-◌, max, min, Bool, true, false, not, ◌&&◌, ◌==◌, nat_le, if◌then◌else◌, List, [], ◌∷◌, ◌++◌, length, slice_index_or, slice_set}
use Rattle.sched_book.specs.Limits.{most_instances}
use Rattle.table_meaning.specs.declared.rows.StoredRow.{StoredRow}
use Rattle.table_meaning.specs.declared.rows.StoredRow.TheVariants as stored
use Rattle.table_reading.specs.declared.counts.UnitCounts.{UnitCounts}

-- the number is that of one of the counted workunits
abbrev pub is_numbered : List ℕ → ℕ → Bool
is_numbered counts unit = not (unit == 0) && nat_le unit (length counts)

-- the number of an instance plus one; a number above the most instances that a workunit may have counts as that most
abbrev pub next_number : ℕ → ℕ
next_number number = min number most_instances + 1

-- with the row of one more instance, of this workunit and number
abbrev pub counted : List ℕ → ℕ → ℕ → List ℕ
counted counts unit number = slice_set counts (unit - 1) (max (slice_index_or counts (unit - 1) 0) (next_number number))

-- with the row of one more workunit, mark or instance
abbrev pub noted : UnitCounts → StoredRow → UnitCounts
noted c (stored.Unit u) = record c { counts = c.counts ++ 0 ∷ []; are_in_turn = c.are_in_turn && (u.id == length c.counts + 1) }
noted c (stored.UnitMark m) = record c { last_mark = m.unit_id; are_in_turn = c.are_in_turn && (m.unit_id == c.last_mark + 1) }
noted c (stored.Instance i) = if is_numbered c.counts i.unit_id then record c { counts = counted c.counts i.unit_id i.num } else record c { are_in_turn = false }
noted c other = c

abbrev pub none_noted : UnitCounts
none_noted = record { counts = []; last_mark = 0; are_in_turn = true }
