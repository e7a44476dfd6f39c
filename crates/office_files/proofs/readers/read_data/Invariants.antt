use Rattle.std.proofs.Common.{◌≡◌, ◌+◌, ◌++◌, map, drop}
use Rattle.std.specs.Prelude.{All}
use Rattle.std.specs.Result.{result_map_both}
use Rattle.csv.specs.Records.{fields_of}
use Rattle.office_files.specs.Importing.{row_of, rows_from}
use Rattle.office_files.proofs.readers.read_data.Given as goal

-- what is read so far, with what is read of the other records, is what is read of all
abbrev pub invariant-loop-index : goal.invariant-loop-index
invariant-loop-index g l =
    (rows_from (row_of g.R.ImportRow.reads l.field_count) 1 (map fields_of l.records)
    ≡ result_map_both (λ rest. l.rows ++ rest) (λ fault. fault) (rows_from (row_of g.R.ImportRow.reads l.field_count) (l.index + 1) (map fields_of (drop l.index l.records))))
    × All g.R.ImportRow.is_in_limits l.rows
