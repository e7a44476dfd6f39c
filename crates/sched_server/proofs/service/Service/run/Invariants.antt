use Rattle.std.proofs.Common.{◌≡◌, ℕ, List, [], length, take}
use Rattle.stores.specs.Acting.{parts_of}
use Rattle.sched_server.specs.Arrivals.{Came, StoreStandsFor, HandledInTurn, followed}
use Rattle.sched_server.specs.Views.{store_of, operator_key_of}
use Rattle.sched_server.proofs.service.Service.run.Given as goal

-- the arrivals so far were answered, and the store agrees with what came before and with them
abbrev pub invariant-loop-arrival : goal.invariant-loop-arrival
invariant-loop-arrival g l =
    (g.S.Units.honest (store_of l.self) → g.S.Units.honest (store_of l.fn.self))
    × (g.S.Units.honest (store_of l.self) → g.S.Units.well_kept (store_of l.fn.self) → g.S.Units.well_kept (store_of l.self))
    × (operator_key_of l.self ≡ operator_key_of l.fn.self)
    × (length l.answers.items ≡ l.arrival-index)
    × (g.S.Store.clean (store_of l.self) → g.S.Store.clean (store_of l.fn.self))
    × (g.S.Store.lasting → g.S.Units.honest (store_of l.fn.self) → g.S.Units.honest (store_of l.self))
    × ((points : List ℕ) (before : List Came) → StoreStandsFor (parts_of g.S.Units g.S.Store.holds g.S.Store.clean g.S.Store.lasting g.S.Store.may_leave g.S.Store.reopens) (operator_key_of l.fn.self) points before (store_of l.fn.self) → g.S.Store.clean (store_of l.self)
    → StoreStandsFor (parts_of g.S.Units g.S.Store.holds g.S.Store.clean g.S.Store.lasting g.S.Store.may_leave g.S.Store.reopens) (operator_key_of l.fn.self) points
    (followed before (take l.arrival-index l.arrivals) l.answers.items) (store_of l.self))
    × (g.S.Units.honest (store_of l.self) → g.S.Units.well_kept (store_of l.fn.self)
    → HandledInTurn (operator_key_of l.fn.self) (followed [] (take l.arrival-index l.arrivals) l.answers.items) (g.S.Store.holds (store_of l.fn.self)) (g.S.Store.holds (store_of l.self)))
    × ((g.S.Units.honest (store_of l.fn.self) → g.S.Units.well_kept (store_of l.fn.self)) → g.S.Store.reopens (store_of l.fn.self) → g.S.Store.reopens (store_of l.self))
