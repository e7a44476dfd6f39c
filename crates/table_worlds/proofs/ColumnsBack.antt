-- The columns of the row of a workunit, of a mark and of an instance determine that row.
use Rattle.std.proofs.Common.{◌≡◌, refl}
use Rattle.table_meaning.specs.declared.rows.StoredInstance.{StoredInstance}
use Rattle.table_meaning.specs.declared.rows.StoredUnit.{StoredUnit}
use Rattle.table_meaning.specs.declared.rows.StoredUnitMark.{StoredUnitMark}
use Rattle.table_meaning.specs.declared.rows.StoredRow.{StoredRow}
use Rattle.table_meaning.specs.declared.rows.StoredRow.TheVariants as stored
use Rattle.table_meaning.specs.declared.tables.TableName.TheVariants as name
use Rattle.table_meaning.specs.Rows.{columns_of, table_of}
use Rattle.table_meaning.proofs.EachRow.{columns_told}

pub one_unit : (u v : StoredUnit) → columns_of (stored.Unit u) ≡ columns_of (stored.Unit v) → u ≡ v
one_unit u v same = let rows = columns_told (stored.Unit u) (stored.Unit v) same in cc

pub one_mark : (m n : StoredUnitMark) → columns_of (stored.UnitMark m) ≡ columns_of (stored.UnitMark n) → m ≡ n
one_mark m n same = let rows = columns_told (stored.UnitMark m) (stored.UnitMark n) same in cc

pub one_instance : (x y : StoredInstance) → columns_of (stored.Instance x) ≡ columns_of (stored.Instance y) → x ≡ y
one_instance x y same = let rows = columns_told (stored.Instance x) (stored.Instance y) same in cc

-- a row of their table is one of theirs
pub is_unit_row : (r : StoredRow) → table_of r ≡ name.Unit → (u : StoredUnit) × (r ≡ stored.Unit u)
is_unit_row (stored.Unit x) is = (x, refl)
is_unit_row _ is = absurd (cc)

pub is_mark_row : (r : StoredRow) → table_of r ≡ name.UnitMark → (m : StoredUnitMark) × (r ≡ stored.UnitMark m)
is_mark_row (stored.UnitMark x) is = (x, refl)
is_mark_row _ is = absurd (cc)

pub is_instance_row : (r : StoredRow) → table_of r ≡ name.Instance → (x : StoredInstance) × (r ≡ stored.Instance x)
is_instance_row (stored.Instance x) is = (x, refl)
is_instance_row _ is = absurd (cc)
