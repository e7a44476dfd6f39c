use Rattle.std.proofs.Common.{◌≡◌, take, map}
use Rattle.rpc_records.specs.declared.request.Report.{Report}
use Rattle.quorum_credit.proofs.reports.names_of.Given as goal

-- the names so far
abbrev pub invariant-loop-report : goal.invariant-loop-report
invariant-loop-report l = l.names ≡ map (λ (r : Report). r.name) (map (λ r. r.now) (take l.report-index l.reports))
