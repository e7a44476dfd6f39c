-- A message that is refused, or for which there is no memory, leaves a store as it was.
use Rattle.std.proofs.Common.{ℕ, refl}
use Rattle.rpc_records.specs.declared.fault.Fault.{Fault}
use Rattle.stores.specs.Held.{Held, IsLeft}
use Rattle.pasts.specs.Messages.{Refused, heard_now}
use Rattle.pasts.specs.declared.answer.AnswerContent.TheVariants.{Refusal}
use Rattle.message_engine.specs.Stores.{ServesIn}
use Rattle.message_engine.proofs.EntriesKept.{told_serves}

-- a refusal for the bytes alone leaves everything as it was
pub refused_serves : (f : Fault) (now : ℕ) (old new : Held) → IsLeft old new → ServesIn (heard_now now (Refused f)) (Refusal f) old new
refused_serves f now old new left = told_serves (heard_now now (Refused f)) (Refusal f) old new refl left
