use Rattle.std.proofs.Common.{◌≡◌, List, Option, length}
use Rattle.stores.specs.Acting.{parts_of}
use Rattle.sched_server.specs.Arrivals.{Came}
use Rattle.sched_server.specs.Serving.{ServesInTurn, messages_of}
use Rattle.commands.specs.Wire.{AreConnections}
use Rattle.commands.proofs.serving.serve_connections.Given as goal

-- the connections so far were served, one after the other
abbrev pub invariant-loop : goal.invariant-loop
invariant-loop g l =
    (came : List (Option Came)) × (length came ≡ l.counter)
    × AreConnections g.C.Connections g.C.Reader.Source g.C.Writer.Sink came l.fn.connections l.connections
    × ServesInTurn (parts_of g.S.Units g.S.Store.holds g.S.Store.clean g.S.Store.lasting g.S.Store.may_leave g.S.Store.reopens) (messages_of came) l.fn.service l.service
