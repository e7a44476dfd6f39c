-- Words. The answer to a call of an admitted caller, and what the call does. (This project's own.)
use Rattle.std.specs.Prelude.{◌≡◌, ℕ, true, List, Option, None}
use Rattle.rpc_records.specs.Replies.{reply_text_of}
use Rattle.rpc_records.specs.Spelling.{canonical_text}
use Rattle.rpc_records.specs.declared.reply.Reply.{Reply}
use Rattle.rpc_records.specs.declared.request.Request.{Request}
use Rattle.sched_book.specs.Step.{IsCaller}
use Rattle.sched_book.specs.declared.machine.Caller.{Caller}
use Rattle.sched_book.specs.declared.world.World.{World}
use Rattle.sched_machine.specs.Admission.{names_host}
use Rattle.stores.specs.Held.{Calls, Held}
use Rattle.stores.specs.declared.entry.Entry.{Entry}
use Rattle.stores.specs.declared.entry.Entry.TheVariants.{Kept}
use Rattle.pasts.specs.ByNumber.{kept_at}
use Rattle.pasts.specs.Messages.{Rpc, heard_now}
use Rattle.pasts.specs.Told.{answer_from_kept}
use Rattle.pasts.specs.declared.answer.AnswerContent.{AnswerContent}
use Rattle.message_engine.specs.Stores.{ServesIn, IsServed}

-- the caller is the one that the call names, and the call names no wrong number of its host
abbrev pub IsNamedCaller : World → Caller → Request → Type 0
IsNamedCaller w c r = IsCaller w c r × (names_host r.hostid c.host ≡ true)

-- The answer to a call of this number and text without a step. It follows from the kept calls of its caller, if there is room for its host.
abbrev pub told_caller : Calls → Caller → ℕ → List ℕ → Option AnswerContent
told_caller calls c seqno text = answer_from_kept true (kept_at calls c.host) seqno text

-- a call that only a lack of room may refuse
abbrev pub MayAct : Held → Caller → Request → Type 0
MayAct held c r = IsNamedCaller held.world c r × (told_caller held.calls c r.rpc_seqno (canonical_text r) ≡ None)

-- the entry of a call of this number and text, with its reply
abbrev pub entry_of_call : ℕ → List ℕ → Reply → Entry
entry_of_call seqno text reply = Kept reply.hostid (record { seqno = seqno; text = text; reply = reply_text_of reply })

-- what a call does to a store
abbrev pub ServesCall : Request → ℕ → AnswerContent → Held → Held → Type 0
ServesCall r now = ServesIn (heard_now now (Rpc r))

-- the same, with some answer
abbrev pub IsCallServed : Request → ℕ → Held → Held → Type 0
IsCallServed r now = IsServed (heard_now now (Rpc r))
