-- What a call asks of the choice of new jobs, and what is chosen. The candidates are read before the call's changes.
use Rattle.std.proofs.Common.{◌≡◌, ℕ, cond, List, [], get_or, length, Option, None, sym, ap, ◌∙◌, subst}
use Rattle.std.specs.Prelude.{bytes_eq, sum_by, option_and_then, unwrap_or}
use Rattle.std.specs.List.{list_any}
use Rattle.rpc_records.specs.declared.request.Request.{Request}
use Rattle.sched_book.specs.Fits.{estimate_at, version_among, version_for}
use Rattle.sched_book.specs.Grant.{Asking, IsGrant, end_word}
use Rattle.sched_book.specs.Places.{unit_at, host_at, held_by}
use Rattle.sched_book.specs.Step.{host_number, host_at_entry, after_settlement, asking_of}
use Rattle.sched_book.specs.declared.delta.Edit.{Edit}
use Rattle.sched_book.specs.declared.instance.Place.{Place}
use Rattle.sched_book.specs.declared.instance.UnitBook.{UnitBook}
use Rattle.sched_book.specs.declared.machine.Caller.{Caller}
use Rattle.sched_book.specs.declared.rows.App.{App}
use Rattle.sched_book.specs.declared.rows.HostRow.{HostRow}
use Rattle.sched_book.specs.declared.rows.Version.{Version}
use Rattle.sched_book.specs.declared.world.World.{World}
use Rattle.job_choice.specs.Chosen.{IsChoice, places_of}
use Rattle.job_choice.specs.declared.granted.Grant.{Grant}
use Rattle.job_choice.proofs.Carried.{grants_carry_over}
use Rattle.sched_machine.specs.Granting.{AreRunBy}
use Rattle.sched_machine.specs.Prepared.{IsReady, asking_by}
use Rattle.sched_machine.specs.declared.preparing.Ready.{Ready}
use Rattle.sched_machine.proofs.Alike.Settled.{the_settled_world_is_like_the_first}
use Rattle.sched_machine.proofs.Held.Said.{platforms_stay}

-- A call that is ready for its grant, and the world after its settlement.
module _ (w v : World) (r : Request) (now : ℕ) (ready : Ready) (changes : List Edit) (is : IsReady w r now ready v changes) where
  abbrev caller : Caller
  caller = ready.call.caller

  abbrev settlement : World
  settlement = after_settlement w caller r now

  left : v ≡ settlement
  left = is.settled.left

  -- what is asked for, made of these parts
  abbrev parts : ℕ → World → HostRow → List Place → Asking
  parts number after host resent = record {
    number = number;
    host = unwrap_or (host_at after number) host;
    before = sum_by (estimate_at after host) resent;
    held = length (held_by after number);
    asked = r.asked;
    now = now;
  }

  abbrev asked_with : HostRow → ℕ → ℕ → Asking
  asked_with row before held = record { number = ready.call.number; host = row; before = before; held = held; asked = r.asked; now = now }

  -- it is what is asked for after settlement
  asking_is : asking_by ready r now ≡ asking_of w caller r now
  asking_is =
      ap (λ row. asked_with row ready.wish.before ready.wish.held) is.row
      ∙ ap (λ n. asked_with (unwrap_or (host_at v ready.call.number) ready.call.host) n ready.wish.held) is.before
      ∙ ap (asked_with (unwrap_or (host_at v ready.call.number) ready.call.host) (sum_by (estimate_at v ready.call.host) ready.settled.resent)) is.held
      ∙ ap (λ n. parts n v ready.call.host ready.settled.resent) is.calling.number
      ∙ ap (λ z. parts (host_number w caller) z ready.call.host ready.settled.resent) left
      ∙ ap (λ h. parts (host_number w caller) settlement h ready.settled.resent) is.calling.host
      ∙ ap (parts (host_number w caller) settlement (host_at_entry w caller r)) is.settled.resent

  -- the choice made in the world before is a grant after settlement, and ends for the same reason
  module _ (g : Grant) (chosen : IsChoice w (asking_by ready r now) g) where
    choice : IsChoice w (asking_of w caller r now) g
    choice = subst (λ q. IsChoice w q g) asking_is chosen

    carried : IsGrant settlement (asking_of w caller r now) (places_of g.jobs)
        × (end_word settlement (asking_of w caller r now) (places_of g.jobs) ≡ end_word w (asking_of w caller r now) (places_of g.jobs))
    carried =
        grants_carry_over w settlement (asking_of w caller r now) (places_of g.jobs)
        (the_settled_world_is_like_the_first w caller r now is.calling.sound is.calling.admitted.caller is.calling.room) choice.grant

    pub choice_settled : IsGrant settlement (asking_of w caller r now) (places_of g.jobs)
    choice_settled = carried.0

    pub choice_ends : g.end_word ≡ end_word settlement (asking_of w caller r now) (places_of g.jobs)
    choice_ends = choice.end_word_is ∙ sym carried.1

    -- the host runs the version of each job, because settlement keeps its platforms
    same_version : (app : List ℕ) → version_for w (asking_of w caller r now).host app ≡ version_for w ready.call.host app
    same_version app =
        ap (λ platforms. cond (list_any (λ (a : App). bytes_eq a.name app) w.apps) (version_among w.versions app platforms) None)
        (platforms_stay w caller r now [] is.calling.admitted.caller ∙ ap (λ (h : HostRow). h.platforms) (sym is.calling.host))

    pub jobs_run : AreRunBy w ready.call.host g.jobs
    jobs_run i d within =
        let job = choice.jobs i d within in
        let same : version_for w (asking_of w caller r now).host ≡ version_for w ready.call.host = λ j app. same_version app j in
        sym job.version_is ∙ ap (λ (version : List ℕ → Option Version). option_and_then (λ (b : UnitBook). version b.unit.app) (unit_at w (get_or g.jobs i d).place.unit)) same
