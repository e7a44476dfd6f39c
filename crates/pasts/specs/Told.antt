-- Promise. The answers that change nothing: they follow from the world, the kept calls and the kept batches, not from the messages before.
-- (The refusals and their order are this profile's.)
use Rattle.std.specs.Prelude.{ℕ, Bool, if◌then◌else◌, List, length, Option, Some, None, option_map, Result, Ok, Err}
use Rattle.std.specs.Str.{bytes_eq}
use Rattle.reply_register.specs.Calls.{heard, reply_at}
use Rattle.reply_register.specs.declared.kept.Heard.{Heard}
use Rattle.reply_register.specs.declared.kept.Heard.TheVariants as call
use Rattle.reply_register.specs.declared.kept.Kept.{Kept}
use Rattle.reply_register.specs.declared.key.Key.{Key}
use Rattle.rpc_records.specs.Spelling.{canonical_text}
use Rattle.rpc_records.specs.declared.fault.Fault.{Fault}
use Rattle.rpc_records.specs.declared.fault.Fault.TheVariants as fault
use Rattle.rpc_records.specs.declared.request.Request.{Request}
use Rattle.sched_book.specs.Imports.{fault_of_rows, shelf_of}
use Rattle.sched_book.specs.Places.{account_place, known_host}
use Rattle.sched_book.specs.declared.rows.Rows.{Rows}
use Rattle.sched_book.specs.declared.world.World.{World}
use Rattle.pasts.specs.FirstHeard.{names_host, has_host_room}
use Rattle.pasts.specs.Messages.{Said, Rpc, Import, Tick, Read, Refused, key_of}
use Rattle.pasts.specs.declared.answer.AnswerContent.{AnswerContent}
use Rattle.pasts.specs.declared.answer.AnswerContent.TheVariants.{Good, Refusal}
use Rattle.stores.specs.declared.batch.KeptBatch.{KeptBatch}
use Rattle.stores.specs.declared.kind.Kind.{Kind}

-- a fresh call has no such answer if there is room for its host
abbrev pub told_fresh : Bool → Option AnswerContent
told_fresh room = if room then None else Some (Refusal fault.HostsFull)

-- a repeat gets the reply of its kept call again, the same bytes
abbrev pub told_heard : Bool → List Kept → Heard → Option AnswerContent
told_heard room kept call.Fresh = told_fresh room
told_heard room kept (call.Repeat place) = Some (Good (reply_at kept place))
told_heard room kept (call.Reused last) = Some (Refusal (fault.Reused last))
told_heard room kept (call.Stale last) = Some (Refusal (fault.Stale last))

-- a call of this number and canonical text, compared with the kept calls of its key
abbrev pub answer_from_kept : Bool → List Kept → ℕ → List ℕ → Option AnswerContent
answer_from_kept room kept seqno text = told_heard room kept (heard kept seqno text)

-- a call of an account that exists, whose host has this number or none
abbrev pub told_number : World → List Kept → Request → Option ℕ → Option AnswerContent
told_number w kept r number =
    if names_host r.hostid number
    then answer_from_kept (has_host_room w.settings.max_hosts number (length w.hosts)) kept r.rpc_seqno (canonical_text r)
    else Some (Refusal fault.BadHost)

abbrev pub told_account : World → List Kept → Request → Option ℕ → Option AnswerContent
told_account w kept r None = Some (Refusal fault.BadAccount)
told_account w kept r (Some account) = told_number w kept r (known_host w account r.host.host_cpid)

-- the answer to a call without a step; the first of these that fails decides: account, number, place among the host's calls, room
abbrev pub told_call : World → List Kept → Request → Option AnswerContent
told_call w kept r = told_account w kept r (account_place w r.authenticator)

-- A kept batch with the same bytes gets its answer again. Another batch gets the first fault of its bytes, or else that of its rows with
-- those that exist.
abbrev pub told_import : World → Option KeptBatch → List ℕ → Result Rows Fault → Option AnswerContent
told_import w (Some kept) text read = Some (if bytes_eq kept.text text then Good kept.answer else Refusal fault.BatchReused)
told_import w None text (Err fault) = Some (Refusal fault)
told_import w None text (Ok rows) = option_map Refusal (fault_of_rows (shelf_of w) rows)

-- the answer to a message that is not first heard; none for one that is
abbrev pub told : World → (Key → List Kept) → (Kind → List ℕ → Option KeptBatch) → Said → Option AnswerContent
told w calls batches (Rpc request) = told_call w (calls (key_of request)) request
told w calls batches (Import kind batch text read) = told_import w (batches kind batch) text read
told w calls batches Tick = None
told w calls batches (Read tells) = Some (tells w)
told w calls batches (Refused fault) = Some (Refusal fault)
