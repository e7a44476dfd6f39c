use Rattle.std.proofs.Common.{take}
use Rattle.sqlite.specs.Held.{state}
use Rattle.table_meaning.specs.Reads.{Reads}
use Rattle.table_desk.specs.Asked.{LooksUp}
use Rattle.table_desk.specs.Users.{HasAdded}
use Rattle.table_desk.proofs.users.add_units_of.Given as goal

abbrev pub invariant-loop-host : goal.invariant-loop-host
invariant-loop-host g l =
    Reads (state g.S.Store l.fn.conn) (state g.S.Store l.conn)
    × LooksUp g.S.Store l.fn.conn l.conn (λ w. HasAdded w (take l.host-index l.hosts) l.initial.units l.units)
