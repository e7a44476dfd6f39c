use Rattle.std.proofs.Common.{◌≡◌, ◌+◌, drop}
use Rattle.std.specs.Prelude.{count_by}
use Rattle.sched_book.specs.declared.instance.Place.{Place}
use Rattle.sched_machine.specs.Asked.{still_holds}
use Rattle.sched_machine.proofs.preparing.held_now.Given as goal

-- the count so far, and those among the places that are left
abbrev pub invariant-loop-place : goal.invariant-loop-place
invariant-loop-place g l =
    l.count + count_by (λ (p : Place). still_holds (g.S.Draft.kept l.working_set p.unit) l.host p.number) (drop l.place-index l.held)
    ≡ count_by (λ (p : Place). still_holds (g.S.Draft.kept l.working_set p.unit) l.host p.number) l.held
