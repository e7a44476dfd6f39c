-- Tables in memory.
use Rattle.std.proofs.Common.{refl}
use Rattle.std.specs.Prelude.{Result, Ok, Err, IfOk}
use Rattle.sqlite.specs.State.{HasCleanDisk}
use Rattle.sqlite.specs.Steps.{over_memory}
use Rattle.sqlite.proofs.Callers.{memory_is_clean}
use Rattle.sqlite_trees.specs.View.{doubt}
use Rattle.sqlite_trees.specs.declared.memory.MemStore.{MemStore}
use Rattle.table_rows.specs.declared.opening.OpenFault.{OpenFault}
use Rattle.sched_tables.specs.Held.{NeverFails}
use Rattle.sched_tables.specs.Views.{state_of}
use Rattle.sched_tables.specs.declared.tables.Tables.{Tables}

pub memory_never_fails : NeverFails over_memory
unfolding doubt
memory_never_fails s = (refl, refl)

-- what tables in memory say of a clean disk, they say with no premise
pub without_premise : (r : Result (Tables MemStore) OpenFault) (P : Tables MemStore → Type 0) → IfOk r (λ t. HasCleanDisk (state_of over_memory t) → P t) → IfOk r P
without_premise (Ok t) P says = says (memory_is_clean t.conn)
without_premise (Err e) P says = tt
