-- Rule. The canonical text of a request: compact JSON as serde_json writes it, with every member, defaults included. Only other_results may
-- be absent: it is there if the request has it, so an absent list and an empty one are two texts. The members of each object are in byte
-- order of their names.
use Rattle.std.specs.Prelude.{ℕ, List, [], ◌∷◌, drop, map, slice_index_or, codes, Option, Some, None}
use Rattle.serde_json.specs.Data.{Data, string, number, unsigned, array, object, Members, member, no_members, put}
use Rattle.serde_json.specs.Find.{of_integer}
use Rattle.serde_json.specs.View.{items_of}
use Rattle.serde_json.specs.Written.{compact_text}
use Rattle.rpc_records.specs.declared.request.HostInfo.{HostInfo}
use Rattle.rpc_records.specs.declared.request.Report.{Report}
use Rattle.rpc_records.specs.declared.request.Request.{Request}

-- A whole number.
abbrev pub whole_json : ℕ → Data
whole_json n = number (unsigned n)

-- The values of a list, in order.
abbrev pub list_json : {A : Type 0} → (A → Data) → List A → Data
list_json each xs = array (items_of (map each xs))

-- The members and these, each at the place of its name.
abbrev pub with_members : List (List ℕ × Data) → Members → Members
with_members [] members = members
with_members (m ∷ ms) members = with_members ms (put m.0 m.1 members)

-- The host's own platform; empty if a request has none.
abbrev pub own_platform : Request → List ℕ
own_platform r = slice_index_or r.platforms 0 []

-- The alternative platforms: those after the host's own.
abbrev pub alternatives : Request → List (List ℕ)
alternatives r = drop 1 r.platforms

-- What a host says of itself.
abbrev pub host_json : HostInfo → Data
host_json h = object (
    member (codes "d_free") (whole_json h.d_free) (
    member (codes "host_cpid") (string h.host_cpid) (
    member (codes "m_nbytes") (whole_json h.m_nbytes) (
    member (codes "p_fpops") (whole_json h.p_fpops)
    no_members))))

-- One report.
abbrev pub report_json : Report → Data
report_json p = object (
    member (codes "exit_status") (number (of_integer p.exit_status)) (
    member (codes "name") (string p.name) (
    member (codes "output") (string p.output)
    no_members)))

-- The list of what the host has, if the request has one, before the members that come after it.
abbrev pub with_other_results : Option (List (List ℕ)) → Members → Members
with_other_results None rest = rest
with_other_results (Some names) rest = member (codes "other_results") (list_json string names) rest

-- A request as a value.
unfoldable pub request_json : Request → Data
request_json r = object (
    member (codes "alt_platforms") (list_json string (alternatives r)) (
    member (codes "authenticator") (string r.authenticator) (
    member (codes "host_info") (host_json r.host) (
    member (codes "hostid") (whole_json r.hostid) (
    with_other_results r.other_results (
    member (codes "platform_name") (string (own_platform r)) (
    member (codes "results") (list_json report_json r.results) (
    member (codes "rpc_seqno") (whole_json r.rpc_seqno) (
    member (codes "work_req_seconds") (whole_json r.asked)
    no_members)))))))))

-- The canonical text: two requests are equal exactly if theirs are.
unfoldable pub canonical_text : Request → List ℕ
canonical_text r = compact_text (request_json r)
