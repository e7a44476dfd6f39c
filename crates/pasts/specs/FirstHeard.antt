-- Promise. Which messages are first heard: this follows from the messages and the settings alone, not from what is stored. Lists of messages
-- have the newest first. (The names rpc_seqno and hostid are BOINC's. What a repeated, an older or a wrong number means is this profile's,
-- and so is that a batch counts once.)
use Rattle.std.specs.Prelude.{ℕ, Bool, true, false, not, ◌&&◌, ◌||◌, nat_lt, if◌then◌else◌, List, [], ◌∷◌, length, Option, is_none, is_some, Ok, Err}
use Rattle.std.specs.Str.{bytes_eq}
use Rattle.reply_register.specs.Keys.{same_key}
use Rattle.reply_register.specs.declared.key.Key.{Key}
pub use Rattle.rpc_records.specs.HostNumbers.{names_host}
use Rattle.rpc_records.specs.declared.request.Request.{Request}
use Rattle.sched_book.specs.Imports.{Shelf, empty_shelf, shelved, fault_of_rows}
use Rattle.sched_book.specs.Places.{place_where}
use Rattle.sched_book.specs.declared.rows.Account.{Account}
use Rattle.sched_book.specs.declared.settings.Settings.{Settings}
use Rattle.stores.specs.Kinds.{same_kind}
use Rattle.pasts.specs.Messages.{Said, Rpc, Import, Tick, Read, Refused, Message, key_of}
use Rattle.stores.specs.declared.kind.Kind.{Kind}

-- the rows of these imports, the oldest first
abbrev pub shelf_said : Said → Shelf → Shelf
shelf_said (Import kind batch text (Ok rows)) shelf = shelved shelf rows
shelf_said said shelf = shelf

abbrev pub rows_of : List Message → Shelf
rows_of [] = empty_shelf
rows_of (m ∷ older) = shelf_said m.said (rows_of older)

-- the keys, with this one at the end if it is not among them
abbrev pub with_key : Key → List Key → List Key
with_key key [] = key ∷ []
with_key key (k ∷ keys) = if same_key key k then k ∷ keys else k ∷ with_key key keys

-- the distinct keys of these calls, the oldest first; a host's number is the place of its key
abbrev pub keys_said : Said → List Key → List Key
keys_said (Rpc request) keys = with_key (key_of request) keys
keys_said said keys = keys

abbrev pub keys_of : List Message → List Key
keys_of [] = []
keys_of (m ∷ older) = keys_said m.said (keys_of older)

-- Whether there is room for the host of a call: it has a number, or there are fewer hosts than the settings allow. This decides the HasRoom
-- of a step.
abbrev pub has_host_room : ℕ → Option ℕ → ℕ → Bool
has_host_room max_hosts number count = is_some number || nat_lt count max_hosts

-- a number is greater than that of each of these calls of a key
abbrev pub above_said : Key → ℕ → Said → Bool
above_said key seqno (Rpc request) = if same_key key (key_of request) then nat_lt request.rpc_seqno seqno else true
above_said key seqno said = true

abbrev pub is_above : Key → ℕ → List Message → Bool
is_above key seqno [] = true
is_above key seqno (m ∷ older) = above_said key seqno m.said && is_above key seqno older

-- one of these is an import of this kind and name
abbrev pub is_batch : Kind → List ℕ → Said → Bool
is_batch kind batch (Import k b text read) = same_kind k kind && bytes_eq b batch
is_batch kind batch said = false

abbrev pub has_batch : Kind → List ℕ → List Message → Bool
has_batch kind batch [] = false
has_batch kind batch (m ∷ older) = is_batch kind batch m.said || has_batch kind batch older

-- the place of the account with this word among these rows
abbrev pub account_on : Shelf → List ℕ → Option ℕ
account_on shelf authenticator = place_where (λ (a : Account). bytes_eq a.authenticator authenticator) shelf.accounts

-- whether a call is first heard, from what it needs of the older messages
abbrev pub is_first_call : Settings → Request → Option ℕ → Option ℕ → Bool → ℕ → Bool
is_first_call s request account number above count =
    is_some account && names_host request.hostid number && above && has_host_room s.max_hosts number count

-- Whether a message is first heard after these first-heard messages. A call must be of an existing account, and name its host's number or
-- none. Its number must be above the earlier ones of its key, and there must be room for its host. An import must have a new name and good
-- rows, and its rows no fault with those that exist. A tick always is.
abbrev pub is_first_heard : Settings → List Message → Said → Bool
is_first_heard s older (Rpc request) =
    is_first_call s request (account_on (rows_of older) request.authenticator) (place_where (same_key (key_of request)) (keys_of older))
    (is_above (key_of request) request.rpc_seqno older) (length (keys_of older))
is_first_heard s older (Import kind batch text (Ok rows)) = not (has_batch kind batch older) && is_none (fault_of_rows (rows_of older) rows)
is_first_heard s older (Import kind batch text (Err fault)) = false
is_first_heard s older Tick = true
is_first_heard s older (Read tells) = false
is_first_heard s older (Refused fault) = false

-- the first-heard ones of these messages
abbrev pub first_heard : Settings → List Message → List Message
first_heard s [] = []
first_heard s (m ∷ messages) =
    let older = first_heard s messages in
    if is_first_heard s older m.said then m ∷ older else older
