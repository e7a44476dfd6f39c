use Rattle.std.proofs.Common.{◌≡◌, map, drop}
use Rattle.csv.specs.Records.{fields_of}
use Rattle.office_files.specs.Importing.{first_other}
use Rattle.office_files.proofs.kinds.first_other.Given as goal

-- each field so far is its name, so the rest decides
abbrev pub invariant-loop-index : goal.invariant-loop-index
invariant-loop-index l =
    first_other (fields_of l.fields) 0 (map (λ name. name.now) l.names)
    ≡ first_other (fields_of l.fields) l.index (map (λ name. name.now) (drop l.index l.names))
