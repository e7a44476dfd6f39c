-- Rule. The texts of the answers to a scheduler call: compact JSON as serde_json writes it. The members of each object are in byte order of
-- their names. If BOINC's scheduler RPC protocol has a member of a reply, it has BOINC's name. The refusals are this profile's.
use Rattle.std.specs.Prelude.{ℕ, List, [], ◌∷◌, codes}
use Rattle.serde_json.specs.Data.{Data, string, boolean, object, member, no_members}
use Rattle.serde_json.specs.Written.{compact_text}
use Rattle.rpc_records.specs.Members.{path_of}
use Rattle.rpc_records.specs.Spelling.{whole_json, list_json, with_members}
use Rattle.rpc_records.specs.declared.reply.EndWord.{EndWord}
use Rattle.rpc_records.specs.declared.reply.EndWord.TheVariants.{Enough, ReplyLimit, InProgressLimit, DailyQuota, NoEligibleWork}
use Rattle.rpc_records.specs.declared.reply.Job.{Job}
use Rattle.rpc_records.specs.declared.reply.Reply.{Reply}
use Rattle.rpc_records.specs.declared.fault.Fault.{Fault}
use Rattle.rpc_records.specs.declared.fault.Fault.TheVariants.{BadHttp, NoRoute, WrongMethod, LengthRequired, TooLarge, BadJson, BadMember, BadAccount, BadHost, Stale, Reused, HostsFull, NotOperator, BadCsv, DuplicateName, UnknownReference, BatchReused, TableFull, NoSuchHost, Unavailable}

-- ---- replies

-- Why a reply has no more jobs, as a word.
abbrev pub end_word_of : EndWord → List ℕ
end_word_of Enough = codes "enough"
end_word_of ReplyLimit = codes "reply_limit"
end_word_of InProgressLimit = codes "in_progress_limit"
end_word_of DailyQuota = codes "daily_quota"
end_word_of NoEligibleWork = codes "no_eligible_work"

-- One job, to do or to do again.
abbrev pub job_json : Job → Data
job_json j = object (
    member (codes "app_name") (string j.app_name) (
    member (codes "estimate") (whole_json j.estimate) (
    member (codes "name") (string j.name) (
    member (codes "platform") (string j.platform) (
    member (codes "report_deadline") (whole_json j.report_deadline) (
    member (codes "resent") (boolean j.resent) (
    member (codes "version_num") (whole_json j.version_num) (
    member (codes "wu_name") (string j.wu_name)
    no_members))))))))

-- A reply as a value.
unfoldable pub reply_json : Reply → Data
reply_json r = object (
    member (codes "end_word") (string (end_word_of r.end_word)) (
    member (codes "host_total_credit") (whole_json r.host_total_credit) (
    member (codes "hostid") (whole_json r.hostid) (
    member (codes "request_delay") (whole_json r.request_delay) (
    member (codes "result_abort") (list_json string r.result_abort) (
    member (codes "result_ack") (list_json string r.result_ack) (
    member (codes "results") (list_json job_json r.results) (
    member (codes "rpc_seqno") (whole_json r.rpc_seqno) (
    member (codes "user_name") (string r.user_name) (
    member (codes "user_total_credit") (whole_json r.user_total_credit)
    no_members))))))))))

-- The body of a reply.
unfoldable pub reply_text_of : Reply → List ℕ
reply_text_of r = compact_text (reply_json r)

-- ---- refusals

-- The number of a refusal.
abbrev pub fault_number : Fault → ℕ
fault_number BadHttp = 1
fault_number NoRoute = 2
fault_number WrongMethod = 3
fault_number LengthRequired = 4
fault_number TooLarge = 5
fault_number BadJson = 6
fault_number (BadMember m) = 7
fault_number BadAccount = 8
fault_number BadHost = 9
fault_number (Stale last) = 10
fault_number (Reused last) = 11
fault_number HostsFull = 12
fault_number NotOperator = 13
fault_number (BadCsv row column) = 14
fault_number (DuplicateName row) = 15
fault_number (UnknownReference row) = 16
fault_number BatchReused = 17
fault_number TableFull = 18
fault_number NoSuchHost = 19
fault_number Unavailable = 20

-- The name of a refusal.
abbrev pub name_of : Fault → List ℕ
name_of BadHttp = codes "bad_http"
name_of NoRoute = codes "no_route"
name_of WrongMethod = codes "wrong_method"
name_of LengthRequired = codes "length_required"
name_of TooLarge = codes "too_large"
name_of BadJson = codes "bad_json"
name_of (BadMember m) = codes "bad_member"
name_of BadAccount = codes "bad_account"
name_of BadHost = codes "bad_host"
name_of (Stale last) = codes "stale"
name_of (Reused last) = codes "reused"
name_of HostsFull = codes "hosts_full"
name_of NotOperator = codes "not_operator"
name_of (BadCsv row column) = codes "bad_csv"
name_of (DuplicateName row) = codes "duplicate_name"
name_of (UnknownReference row) = codes "unknown_reference"
name_of BatchReused = codes "batch_reused"
name_of TableFull = codes "table_full"
name_of NoSuchHost = codes "no_such_host"
name_of Unavailable = codes "unavailable"

-- The status code of the HTTP response to a refusal.
abbrev pub http_status_of : Fault → ℕ
http_status_of BadHttp = 400
http_status_of NoRoute = 404
http_status_of WrongMethod = 405
http_status_of LengthRequired = 411
http_status_of TooLarge = 413
http_status_of BadJson = 400
http_status_of (BadMember m) = 400
http_status_of BadAccount = 403
http_status_of BadHost = 409
http_status_of (Stale last) = 409
http_status_of (Reused last) = 409
http_status_of HostsFull = 409
http_status_of NotOperator = 403
http_status_of (BadCsv row column) = 400
http_status_of (DuplicateName row) = 409
http_status_of (UnknownReference row) = 409
http_status_of BatchReused = 409
http_status_of TableFull = 409
http_status_of NoSuchHost = 404
http_status_of Unavailable = 503

-- What a refusal says in addition to its name and number.
abbrev pub details_of : Fault → List (List ℕ × Data)
details_of (BadMember m) = (codes "member", string (path_of m)) ∷ []
details_of (Stale last) = (codes "last", whole_json last) ∷ []
details_of (Reused last) = (codes "last", whole_json last) ∷ []
details_of (BadCsv row column) = (codes "column", whole_json column) ∷ (codes "row", whole_json row) ∷ []
details_of (DuplicateName row) = (codes "row", whole_json row) ∷ []
details_of (UnknownReference row) = (codes "row", whole_json row) ∷ []
details_of _ = []

-- A refusal as a value: its name, its number and its details.
abbrev pub fault_json : Fault → Data
fault_json f = object (with_members (details_of f) (
    member (codes "error") (string (name_of f)) (
    member (codes "number") (whole_json (fault_number f))
    no_members)))

-- The body of a refusal.
unfoldable pub fault_text_of : Fault → List ℕ
fault_text_of f = compact_text (fault_json f)
