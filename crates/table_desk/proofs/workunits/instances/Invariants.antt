use Rattle.std.proofs.Common.{◌≡◌, map, take}
use Rattle.std.specs.Prelude.{All}
use Rattle.sched_book.specs.Limits.{IsInstanceInLimits}
use Rattle.table_meaning.specs.Rows.{columns_of}
use Rattle.table_meaning.specs.declared.rows.StoredInstance.{StoredInstance}
use Rattle.table_meaning.specs.declared.rows.StoredRow.TheVariants as stored
use Rattle.table_worlds.specs.ReadBack.{job_in}
use Rattle.table_desk.proofs.workunits.instances.Given as goal

-- the instances so far are those of the rows so far, and each is in its ranges
abbrev pub invariant-loop-row : goal.invariant-loop-row
invariant-loop-row l =
    (l.all ≡ map (λ (row : StoredInstance). job_in (columns_of (stored.Instance row))) (take l.row-index l.rows))
    × All IsInstanceInLimits l.all
