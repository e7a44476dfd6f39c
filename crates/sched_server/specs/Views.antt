-- Rule. The parts of a service, as the promises name them. (This project's own.)
use Rattle.std.specs.Prelude.{ℕ, List}
use Rattle.sched_server.specs.declared.service.Service.{Service}

abbrev pub store_of : {S : Type 0} → Service S → S
store_of service = service.store

-- the operator's key
abbrev pub operator_key_of : {S : Type 0} → Service S → List ℕ
operator_key_of service = service.key
