use Rattle.std.proofs.Common.{◌≡◌, ℕ, List}
use Rattle.sched_book.specs.Places.{host_at}
use Rattle.sched_book.specs.Delta.{edited}
use Rattle.call_working_set.specs.WorkingSets.{HasPlace}
use Rattle.std.proofs.Common.{sym, ap, ◌∙◌, Option, Some, List}
use Rattle.sched_book.specs.declared.delta.Edit.{Edit}
use Rattle.sched_book.specs.declared.rows.HostRow.{HostRow}
use Rattle.sched_book.specs.declared.world.World.{World}
use Rattle.call_working_set.proofs.CallStates.{stands_there}
use Rattle.call_working_set.proofs.reading.put_host.Goals as goal

-- the host exists, so its number is a place
has_place : (w : World) (old new : List Edit) (number : ℕ) (r : Option HostRow) (h : HostRow) → new ≡ old → r ≡ host_at (edited w old) number → r ≡ Some h
    → HasPlace (edited w new) number
has_place w old new number r h same is found =
    stands_there (edited w new) number h (ap (λ cs. host_at (edited w cs) number) same ∙ sym is ∙ found)

pub returns-in_err-put_host-clause-call_state : goal.returns-in_err-put_host-clause-call_state
returns-in_err-put_host-clause-call_state g c honest kept call_state =
    c.put_host.ensures.call_state (g.D.Units.world c.args.desk.now)
    (has_place (g.D.Units.world c.args.desk.now) c.args.call_state.now.edits c.read_host.new.call_state.edits c.args.number _ c.in-Some.field-0
    c.read_host.ensures.edits (c.in_ok-read_host.ensures.answer honest kept call_state) c.in-Some.is)
    (c.read_host.ensures.call_state honest kept call_state)

pub returns-clause-call_state : goal.returns-clause-call_state
returns-clause-call_state g c honest kept call_state =
    c.put_host.ensures.call_state (g.D.Units.world c.args.desk.now)
    (has_place (g.D.Units.world c.args.desk.now) c.args.call_state.now.edits c.read_host.new.call_state.edits c.args.number _ c.in-Some.field-0
    c.read_host.ensures.edits (c.in_ok-read_host.ensures.answer honest kept call_state) c.in-Some.is)
    (c.read_host.ensures.call_state honest kept call_state)
