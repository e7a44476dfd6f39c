-- Rule. The bodies of the answers to first-heard messages, and what is kept of these. (A reply is BOINC's scheduler reply as compact JSON; the
-- answers to imports and ticks, and what is kept, are this profile's.)
use Rattle.std.specs.Prelude.{ℕ, if◌then◌else◌, List, [], ◌∷◌, codes, take, Option, Some}
use Rattle.serde_json.specs.Data.{Data, string, object, member, no_members}
use Rattle.serde_json.specs.Written.{compact_text}
use Rattle.reply_register.specs.Keys.{same_key}
use Rattle.reply_register.specs.declared.kept.Kept.{Kept}
use Rattle.reply_register.specs.declared.key.Key.{Key}
use Rattle.rpc_records.specs.Replies.{reply_text_of}
use Rattle.rpc_records.specs.Spelling.{whole_json, canonical_text}
use Rattle.rpc_records.specs.declared.request.Request.{Request}
use Rattle.sched_book.specs.declared.machine.Answered.{Answered}
use Rattle.sched_book.specs.declared.machine.Answered.TheVariants as answered
use Rattle.stores.specs.Eras.{kept_before_last}
use Rattle.pasts.specs.FirstHeard.{is_batch}
use Rattle.stores.specs.Kinds.{kind_name}
use Rattle.pasts.specs.Messages.{Said, Rpc, Import, key_of}
use Rattle.stores.specs.declared.batch.KeptBatch.{KeptBatch}
use Rattle.stores.specs.declared.kind.Kind.{Kind}

-- the answer to an import: its batch, its kind, and how many rows it brought
abbrev pub imported_json : List ℕ → List ℕ → ℕ → Data
imported_json kind batch rows = object (
    member (codes "batch") (string batch) (
    member (codes "kind") (string kind) (
    member (codes "rows") (whole_json rows)
    no_members)))

unfoldable pub imported_text : List ℕ → List ℕ → ℕ → List ℕ
imported_text kind batch rows = compact_text (imported_json kind batch rows)

-- the answer to a tick: how many instances lapsed
abbrev pub lapsed_json : ℕ → Data
lapsed_json count = object (member (codes "lapsed") (whole_json count) no_members)

unfoldable pub lapsed_text : ℕ → List ℕ
lapsed_text count = compact_text (lapsed_json count)

-- the body of the machine's answer to a message
abbrev pub body_of : Answered → Said → List ℕ
body_of (answered.Rpc reply) said = reply_text_of reply
body_of (answered.Lapsed count) said = lapsed_text count
body_of (answered.Imported count) (Import kind batch text read) = imported_text (kind_name kind) batch count
body_of (answered.Imported count) said = []

abbrev pub kept_call : Request → List ℕ → Kept
kept_call request reply = record { seqno = request.rpc_seqno; text = canonical_text request; reply = reply }

-- what is kept of a key after a first-heard message of an era with this body, the last call first
abbrev pub kept_after : ℕ → Key → Said → List ℕ → List Kept → List Kept
kept_after era key (Rpc request) body older = if same_key key (key_of request) then kept_call request body ∷ take (kept_before_last era) older else older
kept_after era key said body older = older

-- what is kept of a batch after a first-heard message with this body
abbrev pub batch_after : Kind → List ℕ → Said → List ℕ → Option KeptBatch → Option KeptBatch
batch_after kind batch (Import k b text read) body older =
    if is_batch kind batch (Import k b text read) then Some (record { text = text; answer = body }) else older
batch_after kind batch said body older = older
