-- A call up to its settlement, by what its parts say.
use Rattle.std.proofs.Common.{◌≡◌, ℕ, List, map, sym, ap, ap₂, ◌∙◌, subst}
use Rattle.std.specs.Prelude.{fold}
use Rattle.rpc_records.specs.declared.request.Report.{Report}
use Rattle.rpc_records.specs.declared.request.Request.{Request}
use Rattle.sched_book.specs.Delta.{edited, EditsFit}
use Rattle.sched_book.specs.Reports.{record_one, first_reports}
use Rattle.sched_book.specs.Settle.{settled}
use Rattle.sched_book.specs.Step.{at_entry, after_reports, after_lost, resent_of}
use Rattle.sched_book.specs.declared.delta.Edit.{Edit}
use Rattle.sched_book.specs.declared.world.World.{World}
use Rattle.quorum_credit.specs.Limited.{IsLimited, FitWithin}
use Rattle.quorum_credit.specs.Settling.{AreScores}
use Rattle.quorum_credit.proofs.FitReports.{limited_from_sound}
use Rattle.sched_machine.specs.Calling.{IsEntered}
use Rattle.sched_machine.specs.Prepared.{IsSettledCall}
use Rattle.sched_machine.specs.declared.caller.Calling.{Calling}
use Rattle.sched_machine.specs.declared.settlement.SettledCall.{SettledCall}
use Rattle.sched_machine.proofs.Rows.Entry.{entry_keeps_sound}

module _ (w v : World) (r : Request) (k : Calling) (changes : List Edit) (entered : IsEntered w r k v changes) where
  -- what was put fits, and leaves a world within limits
  pub entered_within : v ≡ edited w changes → FitWithin w changes
  entered_within here = record {
    fits = entered.fits;
    limited = subst IsLimited (sym entered.left ∙ here)
        (limited_from_sound (at_entry w k.caller r)
        (entry_keeps_sound w k.caller r entered.calling.sound entered.calling.admitted.caller entered.calling.room entered.calling.admitted.limits));
  }

  -- reports depend on the workunits and the applications of the world before, and entry keeps these
  pub reports_known : (u : World) → u ≡ fold (record_one w k.number) v (first_reports r.results) → u ≡ after_reports w k.caller r
  reports_known u is =
      is ∙ ap₂ (λ (n : ℕ) (z : World). fold (record_one w n) z (first_reports r.results)) entered.calling.number entered.left

-- settlement depends on them too
pub settled_call : (w v u : World) (r : Request) (k : Calling) (now : ℕ) (done : SettledCall) (changes : List Edit)
    → v ≡ after_lost w k.caller r now → u ≡ settled w v → EditsFit w changes
    → done.acked ≡ map (λ (x : Report). x.name) (first_reports r.results) → done.resent ≡ resent_of w k.caller r → AreScores w u done.scores
    → IsSettledCall w r k now done u changes
settled_call w v u r k now done changes left settles fits acked resent scores = record {
  left = settles ∙ ap (settled w) left;
  fits = fits;
  acked = acked;
  resent = resent;
  scores = scores;
}
