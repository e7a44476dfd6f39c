-- Words. What is tested of the workunits and instances at their keys, and of the other rows.
use Rattle.std.specs.Prelude.{◌≡◌, ◌≢◌, ◌≤◌, ◌<◌, ◌⊎◌, ℕ, ◌+◌, Bool, ◌&&◌, nat_le, IsTrue, List, length, slice_get, AllPairs, Some, None}
use Rattle.std.specs.Str.{bytes_eq}
use Rattle.texts.specs.SeenSet.{has_seen}
use Rattle.texts.specs.declared.seen_set.SeenSet.{SeenSet}
use Rattle.sqlite_trees.specs.Tree.{Trees}
use Rattle.sched_book.specs.Limits.{most_workunits}
use Rattle.sched_book.specs.Sound.{Sound, IsSoundUnit}
use Rattle.sched_book.specs.declared.instance.UnitBook.{UnitBook}
use Rattle.sched_book.specs.declared.world.World.{World}
use Rattle.table_meaning.specs.declared.rows.StoredInstance.{StoredInstance}
use Rattle.table_meaning.specs.declared.rows.StoredRow.TheVariants as stored
use Rattle.table_meaning.specs.Rows.{unit_key, mark_key, instance_key, columns_of, look_up}
use Rattle.table_worlds.specs.RowsOf.{rows_of_unit}
use Rattle.table_worlds.specs.declared.unit_rows.UnitRows.{UnitRows}
use Rattle.table_reading.specs.declared.rows.Reading.{Reading}

-- the rows are those at the keys of the first `n` instances of a workunit
pub record AreInstancesFound (trees : Trees) (id n : ℕ) (rows : List StoredInstance) : Type 0 where
  pub count : length rows ≡ n
  pub at : (k : ℕ) (i : StoredInstance) → slice_get rows k ≡ Some i → look_up trees (instance_key id k) ≡ Some (columns_of (stored.Instance i))

-- the rows are those at the keys of a workunit, of its mark and of its first `n` instances
pub record AreFound (trees : Trees) (id n : ℕ) (rows : UnitRows) : Type 0 where
  pub unit_at : look_up trees (unit_key id) ≡ Some (columns_of (stored.Unit rows.unit))
  pub mark_at : look_up trees (mark_key id) ≡ Some (columns_of (stored.UnitMark rows.mark))
  pub instances_at : AreInstancesFound trees id n rows.instances

-- there is no row at the key of a workunit, or none at that of its mark
abbrev pub LacksRow : Trees → ℕ → Type 0
LacksRow trees id = (look_up trees (unit_key id) ≡ None) ⊎ (look_up trees (mark_key id) ≡ None)

-- there is no row at one of these keys, or none at that of one of the first `n` instances
abbrev pub HasGap : Trees → ℕ → ℕ → Type 0
HasGap trees id n = LacksRow trees id ⊎ ((k : ℕ) × (k < n) × (look_up trees (instance_key id k) ≡ None))

-- A workunit is sound with the hosts and applications of a world, and its rows are at their keys.
pub record PassesAt (trees : Trees) (w : World) (id n : ℕ) (b : UnitBook) : Type 0 where
  pub sound : IsSoundUnit w.hosts w.apps b
  pub found : AreFound trees id n (rows_of_unit w id b)

-- the name was seen
abbrev pub has_name : SeenSet (List ℕ) → List ℕ → Bool
has_name names name = has_seen bytes_eq names name

-- Each of the first `most` workunits passes, and no two have the same name.
pub record AreTested (trees : Trees) (w : World) (counts : List ℕ) (most : ℕ) (books : List UnitBook) : Type 0 where
  pub all : length books ≡ most
  pub each : (i n : ℕ) (b : UnitBook) → slice_get counts i ≡ Some n → slice_get books i ≡ Some b → PassesAt trees w (i + 1) n b
  pub names : AllPairs (λ a b. a.unit.name ≢ b.unit.name) books

-- A world without its workunits is sound. The workunits are numbered in turn and not too many, each has a mark, and the calls and imports may be kept with the world.
pub record IsFit (w : World) (reading : Reading) : Type 0 where
  pub sound : Sound w
  pub in_turn : IsTrue reading.units.are_in_turn
  pub few : length reading.units.counts ≤ most_workunits
  pub marked : reading.units.last_mark ≡ length reading.units.counts
  pub calls : IsTrue (reading.are_calls && nat_le reading.last_host (length w.hosts))
  pub imports : IsTrue reading.are_imports
