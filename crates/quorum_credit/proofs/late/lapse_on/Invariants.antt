use Rattle.std.proofs.Common.{◌≡◌, drop}
use Rattle.std.specs.Prelude.{fold}
use Rattle.sched_book.specs.Reports.{with_changed}
use Rattle.sched_book.specs.Lost.{with_lapse}
use Rattle.sched_book.specs.declared.instance.Lapse.TheVariants.{Late}
use Rattle.quorum_credit.specs.Late.{AreHeldInTurn}
use Rattle.quorum_credit.specs.Limited.{FitWithin}
use Rattle.quorum_credit.proofs.late.lapse_on.Given as goal

-- what the lapses that are left do to the world; and the changes so far fit
abbrev pub invariant-loop-place : goal.invariant-loop-place
invariant-loop-place g l = record {
  works : g.S.Draft.works l.fn.working_set l.working_set;
  told : g.S.Units.honest l.working_set → g.S.Units.well_kept l.fn.working_set
      → fold (with_changed (with_lapse Late)) (g.S.Units.world l.working_set) (drop l.place-index l.places)
      ≡ fold (with_changed (with_lapse Late)) (g.S.Units.world l.fn.working_set) l.places;
  fits : g.S.Units.honest l.working_set → g.S.Units.well_kept l.fn.working_set
      → FitWithin (g.S.Draft.entry l.fn.working_set) (g.S.Draft.edits l.fn.working_set) → FitWithin (g.S.Draft.entry l.fn.working_set) (g.S.Draft.edits l.working_set);
  held : g.S.Units.honest l.working_set → g.S.Units.well_kept l.fn.working_set
      → AreHeldInTurn (g.S.Units.world l.fn.working_set) l.places → AreHeldInTurn (g.S.Units.world l.working_set) (drop l.place-index l.places);
}
