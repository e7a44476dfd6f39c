-- Words. The steps from the world with its changes to the settled one. They look only at workunits that the changes touch.
use Rattle.std.specs.Prelude.{◌≡◌, ℕ, ◌≤◌, ◌++◌, false, if◌then◌else◌, All, List, length, drop, map, Some, is_some, IsTrue}
use Rattle.std.specs.List.{enumerate_from}
use Rattle.sched_book.specs.Classes.{imported}
use Rattle.sched_book.specs.Delta.{edited, EditsFit}
use Rattle.sched_book.specs.Limits.{IsUnitInLimits, IsHostInLimits}
use Rattle.sched_book.specs.Places.{nth, unit_at, host_at}
use Rattle.sched_book.specs.Settle.{grown, next_quota, settled}
use Rattle.sched_book.specs.Sound.{Sound}
use Rattle.sched_book.specs.declared.delta.Edit.{Edit}
use Rattle.sched_book.specs.declared.delta.Edit.TheVariants as edit
use Rattle.sched_book.specs.declared.instance.UnitBook.{UnitBook}
use Rattle.sched_book.specs.declared.rows.App.{App}
use Rattle.sched_book.specs.declared.rows.HostRow.{HostRow}
use Rattle.sched_book.specs.declared.world.World.{World}
use Rattle.quorum_credit.specs.Scoring.{scores_of_units}
use Rattle.quorum_credit.specs.Scores.{charges_in, merits_in}
use Rattle.call_working_set.specs.WorkingSets.{AreRising, IsOfKnown, is_among}
use Rattle.quorum_credit.specs.declared.scores.Score.{Score}

-- Between two worlds only these workunits are touched, and their places rise.
pub record TouchJust (units : List ℕ) (old changed : World) : Type 0 where
  pub rising : AreRising units
  pub settings : changed.settings ≡ old.settings
  pub apps : changed.apps ≡ old.apps
  pub others : (unit : ℕ) → is_among units unit ≡ false → unit_at changed unit ≡ unit_at old unit

-- These are the scores of all that is new between two worlds, in which only the workunits `units` were touched.
pub record AreScores (old new : World) (scores : List Score) : Type 0 where
  pub units : List ℕ
  pub just : TouchJust units old new
  pub are : scores ≡ scores_of_units old new units

-- the workunit of a place; if the place is one of these, with the instances that it needs
abbrev pub grown_among : List App → List ℕ → ℕ × UnitBook → UnitBook
grown_among apps units e = if is_among units e.0 then grown apps e.1 else e.1

abbrev pub with_grown_among : List ℕ → World → World
with_grown_among units w = record w { units = map (grown_among w.apps units) (enumerate_from 1 w.units) }

-- each workunit's numbers are within limits
abbrev pub AreUnitsInLimits : World → Type 0
AreUnitsInLimits w = (unit : ℕ) (b : UnitBook) → unit_at w unit ≡ Some b → IsUnitInLimits (imported b.unit)

-- each host is within limits, and its account exists
abbrev pub AreHostsInLimits : World → Type 0
AreHostsInLimits w =
    (host : ℕ) (h : HostRow) → host_at w host ≡ Some h
    → IsTrue (is_some (nth w.accounts h.account)) × IsHostInLimits w.settings.daily_result_quota h × (host ≤ w.settings.max_hosts)

-- the host of a number, with the quota that results from these scores
abbrev pub quota_by : List Score → ℕ → ℕ × HostRow → HostRow
quota_by scores limit e =
    record e.1 { quota = next_quota e.1.quota (charges_in scores e.0) (merits_in scores e.0) limit }

abbrev pub with_quotas_by : List Score → World → World
with_quotas_by scores w = record w { hosts = map (quota_by scores w.settings.daily_result_quota) (enumerate_from 1 w.hosts) }

-- These changes give the hosts the quotas that result from the scores, and change nothing else.
pub record AreQuotasBy (scores : List Score) (w : World) (quotas : List Edit) : Type 0 where
  pub quoted : AreHostsInLimits w → edited w quotas ≡ with_quotas_by scores w
  pub fit : AreHostsInLimits w → 1 ≤ w.settings.daily_result_quota → EditsFit w quotas
  pub alone : edited w quotas ≡ record w { hosts = (edited w quotas).hosts }
  pub known : All (IsOfKnown w) quotas

-- the later changes are the earlier ones, followed by others
abbrev pub Extends : List Edit → List Edit → Type 0
Extends earlier later = earlier ++ drop (length earlier) later ≡ later

-- These changes are the earlier ones followed by their settlement, if only these workunits are touched.
pub record IsSettlement (w : World) (changes all : List Edit) (units : List ℕ) : Type 0 where
  pub goes_on : Extends changes all
  pub settles : Sound w → EditsFit w changes → TouchJust units w (edited w changes) → edited w all ≡ settled w (edited w changes)
  pub fits : Sound w → EditsFit w changes → TouchJust units w (edited w changes) → EditsFit w all
