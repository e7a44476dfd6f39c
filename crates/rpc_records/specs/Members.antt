-- Rule. The members of a scheduler_request by name, and the kinds of text that they hold.
-- The names are those of BOINC's scheduler RPC protocol; the kinds are this profile's.
use Rattle.std.specs.Prelude.{ℕ, List, length, Bool, ◌&&◌, nat_le, codes}
use Rattle.texts.specs.Words.{is_word}
use Rattle.rpc_records.specs.declared.fault.Member.{Member}
use Rattle.rpc_records.specs.declared.fault.Member.TheVariants.{Authenticator, Hostid, RpcSeqno, HostInfo, HostCpid, PFpops, MNbytes, DFree, PlatformName, AltPlatforms, WorkReqSeconds, OtherResults, Results}
use Rattle.rpc_records.specs.declared.text_kind.TextKind.{TextKind}
use Rattle.rpc_records.specs.declared.text_kind.TextKind.TheVariants.{Word, Name, Output}

-- The name of a member in its object: host_cpid, p_fpops, m_nbytes and d_free are in host_info, the others at the top.
abbrev pub member_name : Member → List ℕ
member_name Authenticator = codes "authenticator"
member_name Hostid = codes "hostid"
member_name RpcSeqno = codes "rpc_seqno"
member_name HostInfo = codes "host_info"
member_name HostCpid = codes "host_cpid"
member_name PFpops = codes "p_fpops"
member_name MNbytes = codes "m_nbytes"
member_name DFree = codes "d_free"
member_name PlatformName = codes "platform_name"
member_name AltPlatforms = codes "alt_platforms"
member_name WorkReqSeconds = codes "work_req_seconds"
member_name OtherResults = codes "other_results"
member_name Results = codes "results"

-- The name of a member in a refusal.
abbrev pub path_of : Member → List ℕ
path_of HostCpid = codes "host_info.host_cpid"
path_of PFpops = codes "host_info.p_fpops"
path_of MNbytes = codes "host_info.m_nbytes"
path_of DFree = codes "host_info.d_free"
path_of m = member_name m

-- A result's name has 1 to 254 bytes of any kind.
abbrev pub is_name : List ℕ → Bool
is_name text = nat_le 1 (length text) && nat_le (length text) 254

-- What a job wrote has at most 1,024 bytes of any kind.
abbrev pub is_output : List ℕ → Bool
is_output text = nat_le (length text) 1024

-- A text is of this kind.
abbrev pub is_of : TextKind → List ℕ → Bool
is_of Word text = is_word text
is_of Name text = is_name text
is_of Output text = is_output text
