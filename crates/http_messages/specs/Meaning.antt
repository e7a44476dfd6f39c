-- Promise. What the bytes of a connection mean: one request, with its body.
use Rattle.std.specs.Prelude.{◌≡◌, ◌<◌, ◌≤◌, ◌⊎◌, ℕ, List, ◌++◌, length, IsTrue}
use Rattle.httparse.specs.Grammar.{RequestHead}
use Rattle.rpc_records.specs.declared.fault.Fault.TheVariants.{BadHttp}
use Rattle.http_messages.specs.Deciding.{Asked, call, import, tick, statement, wrong_method, refused, head_decision, asked_with, is_cut}
use Rattle.http_messages.specs.Heads.{IsHead, HasNoHead, AwaitsHead}
use Rattle.http_messages.specs.declared.message.Message.{Message}
use Rattle.http_messages.specs.declared.message.Message.TheVariants as message

-- Under this operator's key, the bytes ask for this. If they begin with a head, the head and the bytes after it decide. If they begin with
-- none, they are refused.
abbrev pub Means : List ℕ → List ℕ → Asked → Type 0
Means key bytes asked =
    ((h : RequestHead) × (rest : List ℕ) × IsHead bytes h rest × (asked ≡ asked_with (head_decision key h) rest))
    ⊎ (HasNoHead bytes × (asked ≡ refused BadHttp))

-- the bytes ask for this, and no further bytes can change that
abbrev pub IsDetermined : List ℕ → List ℕ → Asked → Type 0
IsDetermined key bytes asked = (more : List ℕ) → Means key (bytes ++ more) asked

-- the bytes are no whole message yet, and further bytes may make them one: the head is not whole, or its body is not
abbrev pub Awaits : List ℕ → List ℕ → Type 0
Awaits key bytes =
    AwaitsHead bytes
    ⊎ ((h : RequestHead) × (rest : List ℕ) × IsHead bytes h rest × IsTrue (is_cut (head_decision key h) rest))

-- at least `count` further bytes are needed: after fewer the bytes still await more
abbrev pub Misses : List ℕ → List ℕ → ℕ → Type 0
Misses key bytes count = (more : List ℕ) → length more < count → Awaits key (bytes ++ more)

-- after a whole head `count` bytes are enough: with them the bytes mean something that no further bytes can change
abbrev pub MissesNoMore : List ℕ → List ℕ → ℕ → Type 0
MissesNoMore key bytes count = (h : RequestHead) (rest more : List ℕ) → IsHead bytes h rest → count ≤ length more
    → (asked : Asked) × IsDetermined key (bytes ++ more) asked

-- no bytes ask for two things
abbrev pub MessagesHaveOneMeaning : Type 0
MessagesHaveOneMeaning = (key bytes : List ℕ) (a b : Asked) → Means key bytes a → Means key bytes b → a ≡ b

-- what a message asks for
abbrev pub message_seen : Message → Asked
message_seen (message.Call body) = call body.now
message_seen (message.Import kind batch text) = import kind batch.now text.now
message_seen message.Tick = tick
message_seen (message.Statement host) = statement host
message_seen (message.WrongMethod allowed) = wrong_method allowed
message_seen (message.Refused fault) = refused fault
