-- Promise. The meaning of a body as a scheduler_request, with this profile's ranges. The members are read in the order in which they are
-- listed here. The refusal names the first that is missing or faulty. Other members are ignored.
use Rattle.std.specs.Prelude.{ℕ, List, [], ◌∷◌, Option, None, option_and_then, ok_or, is_some, Result, Ok, Err, if◌then◌else◌}
use Rattle.std.specs.Str.{is_utf8}
use Rattle.serde_json.specs.Data.{Data}
use Rattle.serde_json.specs.Find.{get, as_object}
use Rattle.serde_json.specs.Read.{read}
use Rattle.rpc_records.specs.Members.{member_name}
use Rattle.rpc_records.specs.Values.{object_in, word_in, number_in, speed_in, size_in, seconds_in, alternatives_in, listed_in, reports_in, read_or}
use Rattle.rpc_records.specs.declared.fault.Fault.{Fault}
use Rattle.rpc_records.specs.declared.fault.Fault.TheVariants.{BadJson, BadMember}
use Rattle.rpc_records.specs.declared.fault.Member.{Member}
use Rattle.rpc_records.specs.declared.fault.Member.TheVariants.{Authenticator, Hostid, RpcSeqno, HostInfo, HostCpid, PFpops, MNbytes, DFree, PlatformName, AltPlatforms, WorkReqSeconds, OtherResults, Results}
use Rattle.rpc_records.specs.declared.request.HostInfo.{HostInfo as Host}
use Rattle.rpc_records.specs.declared.request.Request.{Request}
use Rattle.texts.specs.Reading.{◌>>=◌}

-- A member that must exist.
unfoldable pub needed : {A : Type 0} → Member → (Data → Option A) → Data → Result A Fault
needed m reads d = ok_or (option_and_then reads (get (member_name m) d)) (BadMember m)

-- A member that may be absent; it is then `default`.
unfoldable pub defaulted : {A : Type 0} → Member → A → (Data → Option A) → Data → Result A Fault
defaulted m default reads d = ok_or (read_or default reads (get (member_name m) d)) (BadMember m)

-- What a host says of itself.
unfoldable pub host_info_at : Data → Result Host Fault
host_info_at d = do
  info ← needed HostInfo object_in d
  host_cpid ← needed HostCpid word_in info
  p_fpops ← needed PFpops speed_in info
  m_nbytes ← needed MNbytes size_in info
  d_free ← needed DFree size_in info
  Ok (record { host_cpid = host_cpid; p_fpops = p_fpops; m_nbytes = m_nbytes; d_free = d_free })

-- The host's own platform, and after it the alternatives.
unfoldable pub platforms_at : Data → Result (List (List ℕ)) Fault
platforms_at d = do
  own ← needed PlatformName word_in d
  alternatives ← defaulted AltPlatforms [] alternatives_in d
  Ok (own ∷ alternatives)

-- The request that an object says. Without other_results it is unknown what the host has. An empty list says that it has nothing.
unfoldable pub request_at : Data → Result Request Fault
request_at d = do
  authenticator ← needed Authenticator word_in d
  hostid ← defaulted Hostid 0 number_in d
  rpc_seqno ← needed RpcSeqno number_in d
  host ← host_info_at d
  platforms ← platforms_at d
  asked ← defaulted WorkReqSeconds 0 seconds_in d
  other_results ← defaulted OtherResults None listed_in d
  results ← defaulted Results [] reports_in d
  Ok (record {
    authenticator = authenticator;
    hostid = hostid;
    rpc_seqno = rpc_seqno;
    host = host;
    platforms = platforms;
    asked = asked;
    other_results = other_results;
    results = results;
  })

-- The value of a body: the one JSON text (RFC 8259) of its bytes, which are UTF-8, nested at most 127 deep. A name that occurs twice in one
-- object has its last value. A text with a number too large for a float has no value.
unfoldable pub json_of : List ℕ → Option Data
json_of body = if is_utf8 body then read body else None

-- The meaning of a value: a request, or the first fault.
unfoldable pub value_meaning : Data → Result Request Fault
value_meaning d = if is_some (as_object d) then request_at d else Err BadJson

-- The meaning of a body. It depends on the bytes alone.
unfoldable pub meaning : List ℕ → Result Request Fault
meaning body = ok_or (json_of body) BadJson >>= value_meaning
