-- If what a store held before a message can be opened again, so can what it holds after the message.
use Rattle.std.proofs.Common.{ℕ, List, Result, Ok, Err, subst, sym}
use Rattle.http_messages.specs.Deciding.{Asked}
use Rattle.http_messages.specs.Deciding as asks
use Rattle.http_messages.specs.Meaning.{Means}
use Rattle.http_messages.proofs.ImportLemmas.{import_fits}
use Rattle.rpc_records.specs.Reading.{meaning}
use Rattle.rpc_records.specs.declared.fault.Fault.{Fault}
use Rattle.rpc_records.specs.declared.request.Request.{Request}
use Rattle.stores.specs.Held.{Held}
use Rattle.stores.specs.Standing.{MayStand}
use Rattle.pasts.specs.Messages.{Said}
use Rattle.message_engine.specs.Stores.{MayBeSaid}
use Rattle.message_engine.proofs.KeptStanding.{sound_where_stands}
use Rattle.sched_server.specs.Handled.{IsHandled}
use Rattle.sched_server.specs.Meanings.{SaysInThisEra, said_by}

-- what bytes say may be kept
may_be_said : (key bytes : List ℕ) (asked : Asked) (said : Said) → Means key bytes asked → SaysInThisEra asked said → MayBeSaid said
may_be_said key bytes (asks.call body) said means says = subst MayBeSaid (sym says) (cases (meaning body))
  where
    cases : (r : Result Request Fault) → MayBeSaid (said_by r)
    cases (Ok request) = tt
    cases (Err fault) = tt
may_be_said key bytes (asks.import kind batch text) said means says = subst MayBeSaid (sym says.2) (import_fits key bytes kind batch text means)
may_be_said key bytes asks.tick said means says = subst MayBeSaid (sym says) tt
may_be_said key bytes (asks.statement host) said means says = subst MayBeSaid (sym says) tt
may_be_said key bytes (asks.wrong_method allowed) said means says = subst MayBeSaid (sym says) tt
may_be_said key bytes (asks.refused f) said means says = subst MayBeSaid (sym says) tt

pub handled_may_stand : (key bytes : List ℕ) (now : ℕ) (old new : Held) → MayStand old → IsHandled key bytes now old new → MayStand new
handled_may_stand key bytes now old new stands handled =
    let done = handled.1 in
    (done.serves (sound_where_stands old stands)).stands (may_be_said key bytes done.asked done.said done.means done.says) stands
