-- After the messages of a run, a message is first heard exactly if the run's world and what it kept have no answer for it.
use Rattle.std.proofs.Common.{◌≡◌, ℕ, List, [], ◌∷◌, take, length, Bool, true, false, refl, sym, ◌∙◌, ap, nat_lt}
use Rattle.std.specs.Prelude.{◌&&◌, ◌||◌, not, if◌then◌else◌, position, Option, Some, None, option_map, option_and_then, is_none, is_some, Ok, Err}
use Rattle.std.specs.Str.{bytes_eq}
use Rattle.reply_register.specs.Calls.{greatest, has_number, heard_at, is_above_all, text_at}
use Rattle.reply_register.specs.Keys.{same_key}
use Rattle.reply_register.specs.declared.kept.Heard.TheVariants.{Fresh, Repeat, Reused}
use Rattle.reply_register.specs.declared.kept.Kept.{Kept}
use Rattle.reply_register.specs.declared.key.Key.{Key}
use Rattle.reply_register.proofs.Calls.{same_key-is}
use Rattle.reply_register.proofs.Numbers.{above_more, above_taken}
use Rattle.rpc_records.specs.Spelling.{canonical_text}
use Rattle.rpc_records.specs.declared.fault.Fault.{Fault}
use Rattle.rpc_records.specs.declared.request.Request.{Request}
use Rattle.sched_book.specs.Imports.{shelf_of, fault_of_rows}
use Rattle.sched_book.specs.Places.{place_where, account_place, known_host}
use Rattle.sched_book.specs.declared.rows.Rows.{Rows}
use Rattle.sched_book.specs.declared.settings.Settings.{Settings}
use Rattle.sched_book.specs.declared.world.World.{World}
use Rattle.stores.specs.Eras.{kept_before_last}
use Rattle.pasts.specs.Answers.{kept_call, kept_after, batch_after}
use Rattle.pasts.specs.FirstHeard.{account_on, above_said, has_batch, has_host_room, is_above, is_batch, is_first_call, is_first_heard, keys_of, names_host, rows_of}
use Rattle.pasts.specs.Leaves.{host_of_key}
use Rattle.pasts.specs.Messages.{Said, Rpc, Import, Tick, Read, Refused, Message, key_of}
use Rattle.pasts.specs.Runs.{Turn, turn_body, world_of_run, messages_of, kept_of, batch_of}
use Rattle.pasts.specs.Told.{told_fresh, told_heard, answer_from_kept, told_account, told_import, told}
use Rattle.pasts.specs.declared.answer.AnswerContent.{AnswerContent}
use Rattle.pasts.specs.declared.answer.AnswerContent.TheVariants.{Refusal}
use Rattle.stores.specs.declared.batch.KeptBatch.{KeptBatch}
use Rattle.stores.specs.declared.kind.Kind.{Kind}
use Rattle.pasts.proofs.HostKeys.{host_of_key-place, host_count}
use Rattle.pasts.proofs.RunLeaves.{Leaves, IsRun, run_leaves}

-- ---- kept calls

both_alike : (a b c : Bool) → (a ≡ true → b ≡ true) → (a ≡ true → c ≡ true) → (a && b) ≡ (a && c)
both_alike true b c left right = left refl ∙ sym (right refl)
both_alike false b c left right = refl

-- a number above the newest of the key's calls is above each of them
above_call : (same : Bool) (era : ℕ) (kept : List Kept) (newest : Kept) (seqno : ℕ) → (same ≡ true → is_above_all newest.seqno kept ≡ true)
    → ((if same then nat_lt newest.seqno seqno else true) && is_above_all seqno kept)
    ≡ is_above_all seqno (if same then newest ∷ take (kept_before_last era) kept else kept)
above_call false era kept newest seqno rises = refl
above_call true era kept newest seqno rises =
    both_alike (nat_lt newest.seqno seqno) (is_above_all seqno kept) (is_above_all seqno (take (kept_before_last era) kept))
    (λ less. above_more kept newest.seqno seqno less (rises refl))
    (λ less. above_taken (kept_before_last era) kept seqno (above_more kept newest.seqno seqno less (rises refl)))

is_third : (a b c d : Bool) → (a && b && c && d) ≡ true → c ≡ true
is_third a b true d all = refl
is_third true true false d all = all
is_third true false false d all = all
is_third false b false d all = all

-- the number of a first-heard call is above the earlier ones of its key
pub call_rises : (s : Settings) (request : Request) (older : List Message) → is_first_heard s older (Rpc request) ≡ true
    → is_above (key_of request) request.rpc_seqno older ≡ true
call_rises s request older first =
    let number : Option ℕ = place_where (same_key (key_of request)) (keys_of older) in
    is_third (is_some (account_on (rows_of older) request.authenticator)) (names_host request.hostid number)
    (is_above (key_of request) request.rpc_seqno older) (has_host_room s.max_hosts number (length (keys_of older))) first

above_step : (s : Settings) (era : ℕ) (said : Said) (body : List ℕ) (older : List Message) (kept : Key → List Kept) → is_first_heard s older said ≡ true
    → ((key : Key) (seqno : ℕ) → is_above key seqno older ≡ is_above_all seqno (kept key))
    → (key : Key) (seqno : ℕ) → (above_said key seqno said && is_above key seqno older) ≡ is_above_all seqno (kept_after era key said body (kept key))
above_step s era (Rpc request) body older kept first above key seqno =
    ap (λ rest. (if same_key key (key_of request) then nat_lt request.rpc_seqno seqno else true) && rest) (above key seqno)
    ∙ above_call (same_key key (key_of request)) era (kept key) (kept_call request body) seqno
    (λ same. sym (above key request.rpc_seqno)
    ∙ ap (λ k. is_above k request.rpc_seqno older) (same_key-is key (key_of request) same) ∙ call_rises s request older first)
above_step s era (Import kind batch text read) body older kept first above key seqno = above key seqno
above_step s era Tick body older kept first above key seqno = above key seqno
above_step s era (Read tells) body older kept first above key seqno = above key seqno
above_step s era (Refused fault) body older kept first above key seqno = above key seqno

-- a number is above the first-heard calls of a key exactly if it is above the kept ones
pub above_run : (s : Settings) (turns : List Turn) → IsRun s turns
    → (key : Key) (seqno : ℕ) → is_above key seqno (messages_of turns) ≡ is_above_all seqno (kept_of turns key)
above_run s [] run = λ key seqno. refl
above_run s (turn ∷ older) run =
    above_step s turn.message.era turn.message.said (turn_body turn) (messages_of older) (kept_of older) run.0 (above_run s older run.2)

-- ---- kept batches

batch_step : (kind : Kind) (batch : List ℕ) (said : Said) (body : List ℕ) (older : Bool) (kept : Option KeptBatch) → older ≡ is_some kept
    → (is_batch kind batch said || older) ≡ is_some (batch_after kind batch said body kept)
batch_step kind batch (Import k b text read) body older kept same = cases (is_batch kind batch (Import k b text read))
  where
    cases : (is : Bool) → (is || older) ≡ is_some (if is then Some (record { text = text; answer = body }) else kept)
    cases true = refl
    cases false = same
batch_step kind batch (Rpc request) body older kept same = same
batch_step kind batch Tick body older kept same = same
batch_step kind batch (Read tells) body older kept same = same
batch_step kind batch (Refused fault) body older kept same = same

batch_run : (turns : List Turn) (kind : Kind) (batch : List ℕ) → has_batch kind batch (messages_of turns) ≡ is_some (batch_of turns kind batch)
batch_run [] kind batch = refl
batch_run (turn ∷ older) kind batch = batch_step kind batch turn.message.said (turn_body turn) _ _ (batch_run older kind batch)

-- ---- first heard, and not answered without a step

fresh_none : (room : Bool) → is_none (told_fresh room) ≡ room
fresh_none true = refl
fresh_none false = refl

heard_none : (room above : Bool) (kept : List Kept) (text : List ℕ) (place : Option ℕ)
    → is_none (told_heard room kept (if above then Fresh else heard_at kept text place)) ≡ (above && room)
heard_none room true kept text place = fresh_none room
heard_none room false kept text None = refl
heard_none room false kept text (Some place) = cases (bytes_eq (text_at kept place) text)
  where
    cases : (same : Bool) → is_none (told_heard room kept (if same then Repeat place else Reused (greatest kept))) ≡ false
    cases true = refl
    cases false = refl

pub beside_none : (room : Bool) (kept : List Kept) (seqno : ℕ) (text : List ℕ) → is_none (answer_from_kept room kept seqno text) ≡ (is_above_all seqno kept && room)
beside_none room kept seqno text = heard_none room (is_above_all seqno kept) kept text (position (has_number seqno) kept)

number_cases : (names above room : Bool) (beside : Option AnswerContent) (x : AnswerContent) → is_none beside ≡ (above && room)
    → (names && above && room) ≡ is_none (if names then beside else Some x)
number_cases true above room beside x same = sym same
number_cases false above room beside x same = refl

call_told : (w : World) (kept : List Kept) (r : Request) (account number : Option ℕ) (above : Bool) (count : ℕ)
    → ((a : ℕ) → account ≡ Some a → number ≡ known_host w a r.host.host_cpid) → above ≡ is_above_all r.rpc_seqno kept → count ≡ length w.hosts
    → is_first_call w.settings r account number above count ≡ is_none (told_account w kept r account)
call_told w kept r None number above count is above_is count_is = refl
call_told w kept r (Some a) number above count is above_is count_is =
    let known : Option ℕ = known_host w a r.host.host_cpid in
    let here : is_first_call w.settings r (Some a) number above count
    ≡ is_first_call w.settings r (Some a) known (is_above_all r.rpc_seqno kept) (length w.hosts) =
    λ i. is_first_call w.settings r (Some a) (is a refl i) (above_is i) (count_is i) in
    here
    ∙ number_cases (names_host r.hostid known) (is_above_all r.rpc_seqno kept) (has_host_room w.settings.max_hosts known (length w.hosts))
    (answer_from_kept (has_host_room w.settings.max_hosts known (length w.hosts)) kept r.rpc_seqno (canonical_text r)) _
    (beside_none (has_host_room w.settings.max_hosts known (length w.hosts)) kept r.rpc_seqno (canonical_text r))

import_told : (w : World) (kept : Option KeptBatch) (text : List ℕ) (rows : Rows)
    → (not (is_some kept) && is_none (fault_of_rows (shelf_of w) rows)) ≡ is_none (told_import w kept text (Ok rows))
import_told w (Some kept) text rows = refl
import_told w None text rows = cases (fault_of_rows (shelf_of w) rows)
  where
    cases : (fault : Option Fault) → is_none fault ≡ is_none (option_map Refusal fault)
    cases None = refl
    cases (Some fault) = refl

bad_import_told : (w : World) (kept : Option KeptBatch) (text : List ℕ) (fault : Fault) → false ≡ is_none (told_import w kept text (Err fault))
bad_import_told w (Some kept) text fault = refl
bad_import_told w None text fault = refl

-- The whole law that connects the two definitions.
pub told_none : (s : Settings) (turns : List Turn) → IsRun s turns → (said : Said)
    → is_first_heard s (messages_of turns) said ≡ is_none (told (world_of_run s turns) (kept_of turns) (batch_of turns) said)
told_none s turns run (Rpc request) =
    let key : Key = key_of request in
    let w : World = world_of_run s turns in
    let messages : List Message = messages_of turns in
    let leaves : Leaves s w (rows_of messages) (keys_of messages) = run_leaves s turns run in
    let account : account_on (rows_of messages) request.authenticator ≡ account_place w request.authenticator =
    ap (λ shelf. account_on shelf request.authenticator) (sym leaves.shelf_is) in
    let number : host_of_key w key ≡ place_where (same_key key) (keys_of messages) = host_of_key-place w (keys_of messages) key leaves.are in
    let asked : is_first_call s request (account_on (rows_of messages) request.authenticator) (place_where (same_key key) (keys_of messages))
    (is_above key request.rpc_seqno messages) (length (keys_of messages))
    ≡ is_first_call w.settings request (account_place w request.authenticator) (place_where (same_key key) (keys_of messages))
    (is_above key request.rpc_seqno messages) (length (keys_of messages)) =
    λ i. is_first_call (sym leaves.settings i) request (account i) (place_where (same_key key) (keys_of messages))
    (is_above key request.rpc_seqno messages) (length (keys_of messages)) in
    asked
    ∙ call_told w (kept_of turns key) request (account_place w request.authenticator) (place_where (same_key key) (keys_of messages))
    (is_above key request.rpc_seqno messages) (length (keys_of messages))
    (λ a is. sym number ∙ ap (λ o. option_and_then (λ account. known_host w account request.host.host_cpid) o) is)
    (above_run s turns run key request.rpc_seqno) (sym (host_count w (keys_of messages) leaves.are))
told_none s turns run (Import kind batch text (Ok rows)) =
    let w : World = world_of_run s turns in
    let leaves : Leaves s w (rows_of (messages_of turns)) (keys_of (messages_of turns)) = run_leaves s turns run in
    (λ i. not (batch_run turns kind batch i) && is_none (fault_of_rows (sym leaves.shelf_is i) rows))
    ∙ import_told w (batch_of turns kind batch) text rows
told_none s turns run (Import kind batch text (Err fault)) = bad_import_told (world_of_run s turns) (batch_of turns kind batch) text fault
told_none s turns run Tick = refl
told_none s turns run (Read tells) = refl
told_none s turns run (Refused fault) = refl
