-- A call up to the choice of new jobs, by what its parts say of the worlds that they read.
use Rattle.std.proofs.Common.{◌≡◌, ℕ, List, length, sym, ap, ap₂, ◌∙◌, subst}
use Rattle.std.specs.Prelude.{sum_by, unwrap_or}
use Rattle.rpc_records.specs.declared.request.Request.{Request}
use Rattle.sched_book.specs.Fits.{estimate_at}
use Rattle.sched_book.specs.Lost.{aborts}
use Rattle.sched_book.specs.Places.{host_at, held_by}
use Rattle.sched_book.specs.Step.{after_settlement}
use Rattle.sched_book.specs.declared.delta.Edit.{Edit}
use Rattle.sched_book.specs.declared.instance.Place.{Place}
use Rattle.sched_book.specs.declared.world.World.{World}
use Rattle.lost_jobs.specs.Holding.{HoldsNoMore}
use Rattle.sched_machine.specs.Calling.{IsCalling, IsEntered}
use Rattle.sched_machine.specs.Prepared.{IsSettledCall, IsReady}
use Rattle.sched_machine.specs.declared.caller.Calling.{Calling}
use Rattle.sched_machine.specs.declared.preparing.Ready.{Ready}
use Rattle.sched_machine.proofs.Held.Settled.{after_settlement_holds}

-- v is the world that settlement left, u the one in which the host was asked about, and t the one after that
pub ready_call : (w v u t : World) (r : Request) (now : ℕ) (ready : Ready) (before after : List Edit) (resent : List Place) → u ≡ v → t ≡ u
    → after ≡ before → resent ≡ ready.settled.resent → IsCalling w r ready.call → IsSettledCall w r ready.call now ready.settled v before
    → ready.aborted ≡ aborts v ready.call.number r.other_results
    → ready.wish.row ≡ unwrap_or (host_at u ready.call.number) ready.call.host
    → (HoldsNoMore w u ready.call.number → ready.wish.held ≡ length (held_by u ready.call.number))
    → ready.wish.before ≡ sum_by (estimate_at u ready.call.host) resent
    → IsReady w r now ready t after
ready_call w v u t r now ready before after resent asked last same slice calling settled aborted row held seconds =
    let k = ready.call in
    let all : t ≡ v = last ∙ asked in
    let holds : HoldsNoMore w u k.number =
    subst (λ z. HoldsNoMore w z k.number) (sym (asked ∙ settled.left))
    (subst (λ n. HoldsNoMore w (after_settlement w k.caller r now) n) (sym calling.number) (after_settlement_holds w k.caller r now)) in
    record {
      calling = calling;
      settled = subst (IsSettledCall w r k now ready.settled t) (sym same) (subst (λ z. IsSettledCall w r k now ready.settled z before) (sym all) settled);
      aborted = aborted ∙ ap (λ z. aborts z k.number r.other_results) (sym all);
      row = row ∙ ap (λ z. unwrap_or (host_at z k.number) k.host) (sym last);
      held = held holds ∙ ap (λ z. length (held_by z k.number)) (sym last);
      before = seconds ∙ ap₂ (λ (z : World) ps. sum_by (estimate_at z k.host) ps) (sym last) slice;
    }

-- a read keeps what was entered
pub still_entered : (w v u : World) (r : Request) (k : Calling) (before after : List Edit) → u ≡ v → after ≡ before
    → IsEntered w r k v before → IsEntered w r k u after
still_entered w v u r k before after same changes entered =
    subst (IsEntered w r k u) (sym changes) (subst (λ z. IsEntered w r k z before) (sym same) entered)
