-- Rule. The answer to a message that comes again, or resembles one that came. It follows from the past alone. (This profile's; that a lost
-- reply is asked for again is BOINC's.)
use Rattle.std.specs.Prelude.{◌≡◌, ◌≢◌, ℕ, ◌<◌, ◌≤◌, Bool, true, false, ◌&&◌, if◌then◌else◌, List, [], ◌∷◌, ◌++◌, take, Contains, Option, Some, None, Result}
use Rattle.std.specs.List.{AllByRecursion}
use Rattle.reply_register.specs.Keys.{same_key}
use Rattle.reply_register.specs.declared.key.Key.{Key}
use Rattle.rpc_records.specs.Spelling.{canonical_text}
use Rattle.rpc_records.specs.declared.fault.Fault.{Fault}
use Rattle.rpc_records.specs.declared.fault.Fault.TheVariants as fault
use Rattle.rpc_records.specs.declared.request.Request.{Request}
use Rattle.sched_book.specs.declared.rows.Rows.{Rows}
use Rattle.sched_book.specs.declared.settings.Settings.{Settings}
use Rattle.stores.specs.Eras.{kept_before_last}
use Rattle.pasts.specs.FirstHeard.{names_host, is_batch, is_first_heard, first_heard}
use Rattle.pasts.specs.Leaves.{host_of_key}
use Rattle.pasts.specs.Messages.{Said, Rpc, Import, key_of}
use Rattle.pasts.specs.Stands.{Heard, Past, Tables, Stands, messages_in, told_by}
use Rattle.pasts.specs.declared.answer.AnswerContent.TheVariants.{Refusal}
use Rattle.stores.specs.declared.kind.Kind.{Kind}

-- a call of this key
abbrev pub is_call_of : Key → Said → Bool
is_call_of key (Rpc request) = same_key key (key_of request)
is_call_of key said = false

-- the newest first-heard message of a past that passes
abbrev pub newest_heard : Settings → (Said → Bool) → Past → Option Heard
newest_heard s passes [] = None
newest_heard s passes (h ∷ past) =
    if is_first_heard s (first_heard s (messages_in past)) h.message.said && passes h.message.said then Some h else newest_heard s passes past

-- this message, after this past, is a first-heard call of the key
abbrev pub is_first_of : Settings → Key → Past → Heard → Bool
is_first_of s key past h = is_first_heard s (first_heard s (messages_in past)) h.message.said && is_call_of key h.message.said

-- all first-heard calls of a key, the newest first
abbrev pub calls_heard : Settings → Key → Past → List Heard
calls_heard s key [] = []
calls_heard s key (h ∷ past) = if is_first_of s key past h then h ∷ calls_heard s key past else calls_heard s key past

-- the kept ones of them: at each one, that call and the latest of those that were kept
abbrev pub kept_calls : Settings → Key → Past → List Heard
kept_calls s key [] = []
kept_calls s key (h ∷ past) = if is_first_of s key past h then h ∷ take (kept_before_last h.message.era) (kept_calls s key past) else kept_calls s key past

-- If all messages are of later eras than the first, the kept calls are the latest four. If messages of the first era come before, they are the
-- latest four, counted from the last call of that era on.
abbrev pub KeptAreTheLatestFour : Type 0
KeptAreTheLatestFour =
    (s : Settings) (key : Key) (newer older : Past)
    → AllByRecursion (λ h. 1 ≤ h.message.era) newer → AllByRecursion (λ h. h.message.era ≡ 0) older
    → (since : List Heard) × (calls_heard s key (newer ++ older) ≡ since ++ calls_heard s key older)
    × (kept_calls s key (newer ++ older) ≡ take 4 (since ++ take 1 (calls_heard s key older)))

-- a call of this key that names its host's number or none
abbrev pub IsCallOf : Tables → Key → Request → Type 0
IsCallOf t key q = (key_of q ≡ key) × (names_host q.hostid (host_of_key t.world key) ≡ true)

-- this message is among the kept calls, and says this request
abbrev pub IsHeardAs : List Heard → Heard → Request → Type 0
IsHeardAs kept h r = Contains kept h × (h.message.said ≡ Rpc r)

-- The answers to calls of a key that has these kept calls, the last with this number. A repeat of a kept call gets the same answer. Another
-- text with its number is refused, and so is any other number below the last one. A greater number has no such answer, since it is first
-- heard.
pub record AreToldBeside (t : Tables) (key : Key) (kept : List Heard) (last : ℕ) : Type 0 where
  pub repeat : (h : Heard) (r : Request) → IsHeardAs kept h r → told_by t (Rpc r) ≡ Some h.answer
  pub reused : (h : Heard) (r q : Request) → IsHeardAs kept h r → IsCallOf t key q → q.rpc_seqno ≡ r.rpc_seqno
      → canonical_text q ≢ canonical_text r → told_by t (Rpc q) ≡ Some (Refusal (fault.Reused last))
  pub stale : (q : Request) → IsCallOf t key q → q.rpc_seqno < last
      → ((h : Heard) (r : Request) → IsHeardAs kept h r → q.rpc_seqno ≢ r.rpc_seqno) → told_by t (Rpc q) ≡ Some (Refusal (fault.Stale last))
  pub fresh : (q : Request) → IsCallOf t key q → last < q.rpc_seqno → told_by t (Rpc q) ≡ None

abbrev pub CallsAreToldBesideTheKept : Type 0
CallsAreToldBesideTheKept =
    (t : Tables) (past : Past) (h : Heard) (older : List Heard) (r : Request) → Stands t past
    → kept_calls t.world.settings (key_of r) past ≡ h ∷ older → h.message.said ≡ Rpc r → AreToldBeside t (key_of r) (h ∷ older) r.rpc_seqno

-- What follows if the name of an import was heard, with this answer: the same bytes get that answer again, and other bytes are refused.
pub record IsBatchTold (t : Tables) (h : Heard) (kind : Kind) (batch text : List ℕ) : Type 0 where
  pub again : (read : Result Rows Fault) → told_by t (Import kind batch text read) ≡ Some h.answer
  pub reused : (other : List ℕ) (read : Result Rows Fault) → other ≢ text → told_by t (Import kind batch other read) ≡ Some (Refusal fault.BatchReused)

abbrev pub BatchesCountOnce : Type 0
BatchesCountOnce =
    (t : Tables) (past : Past) (h : Heard) (kind : Kind) (batch text : List ℕ) (read : Result Rows Fault) → Stands t past
    → newest_heard t.world.settings (is_batch kind batch) past ≡ Some h → h.message.said ≡ Import kind batch text read → IsBatchTold t h kind batch text
