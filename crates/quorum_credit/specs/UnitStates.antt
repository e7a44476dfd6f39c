-- Words. What the state of a workunit says of its reports, its new instances and its scores.
use Rattle.std.specs.Prelude.{ℕ, List, [], length, Option, None, Some}
use Rattle.rpc_records.specs.declared.request.Report.{Report}
use Rattle.sched_book.specs.Count.{has_failed}
use Rattle.sched_book.specs.declared.delta.Edit.{Edit}
use Rattle.sched_book.specs.declared.instance.Instance.{Instance}
use Rattle.call_working_set.specs.WorkingSets.{instances_now, status_before}
use Rattle.call_working_set.specs.UnitState.{UnitState}
use Rattle.quorum_credit.specs.Growing.{fresh_changes}
use Rattle.quorum_credit.specs.Late.{late_in}
use Rattle.quorum_credit.specs.Scoring.{standings_in, scores_from}
use Rattle.quorum_credit.specs.Settled.{new_instances}
use Rattle.quorum_credit.specs.Taken.{reported_in}
use Rattle.quorum_credit.specs.declared.scores.Score.{Score}

-- the instance of a number with one more report, if it awaits a report from the host
abbrev pub reported_on : ℕ → Report → Option UnitState → ℕ → Option Instance
reported_on host r k number = reported_in host r (has_failed (status_before k)) (instances_now k) number

-- the instance of a number, late, if a host holds it
abbrev pub late_on : Option UnitState → ℕ → Option Instance
late_on k number = late_in (instances_now k) number

-- the changes that give the workunit at a place the instances that it lacks now
abbrev pub growth_on : ℕ → Option UnitState → List Edit
growth_on unit None = []
growth_on unit (Some k) = fresh_changes unit (length k.present) (new_instances k.agreement k.unit k.present)

-- what is new of the workunit's instances since the call came
abbrev pub scores_on : Option UnitState → List Score
scores_on None = []
scores_on (Some k) = scores_from k.unit.credit (standings_in k.agreement k.unit k.before) 0 (standings_in k.agreement k.unit k.present)
