-- Rule. Which members of an object are faulty, each judged by itself, and the order in which faults are named.
use Rattle.std.specs.Prelude.{List, [], ◌∷◌, Bool, false, Option, Some, None, is_none, option_and_then, unwrap_or, Result, Ok, Err}
use Rattle.serde_json.specs.Data.{Data, null}
use Rattle.serde_json.specs.Find.{get}
use Rattle.rpc_records.specs.Members.{member_name}
use Rattle.rpc_records.specs.Values.{object_in, word_in, number_in, speed_in, size_in, seconds_in, alternatives_in, listed_in, reports_in}
use Rattle.rpc_records.specs.declared.fault.Fault.{Fault}
use Rattle.rpc_records.specs.declared.fault.Member.{Member}
use Rattle.rpc_records.specs.declared.fault.Member.TheVariants.{Authenticator, Hostid, RpcSeqno, HostInfo, HostCpid, PFpops, MNbytes, DFree, PlatformName, AltPlatforms, WorkReqSeconds, OtherResults, Results}

-- The members in the order in which faults are named.
abbrev pub in_order : List Member
in_order =
    Authenticator ∷ Hostid ∷ RpcSeqno ∷ HostInfo ∷ HostCpid ∷ PFpops ∷ MNbytes ∷ DFree ∷ PlatformName ∷ AltPlatforms ∷ WorkReqSeconds
    ∷ OtherResults ∷ Results ∷ []

-- The members at the top of a request. The others are in host_info.
abbrev pub at_top : List Member
at_top = Authenticator ∷ Hostid ∷ RpcSeqno ∷ HostInfo ∷ PlatformName ∷ AltPlatforms ∷ WorkReqSeconds ∷ OtherResults ∷ Results ∷ []

-- The member is missing, or not of the wanted form.
abbrev pub is_missing_or_bad : {A : Type 0} → (Data → Option A) → Option Data → Bool
is_missing_or_bad reads found = is_none (option_and_then reads found)

-- The member exists, but is not of the wanted form.
abbrev pub is_bad : {A : Type 0} → (Data → Option A) → Option Data → Bool
is_bad reads None = false
is_bad reads (Some d) = is_none (reads d)

-- The value of host_info.
abbrev pub info_of : Data → Data
info_of d = unwrap_or (get (member_name HostInfo) d) null

-- A member of this object is missing or faulty.
abbrev pub is_faulty : Data → Member → Bool
is_faulty d Authenticator = is_missing_or_bad word_in (get (member_name Authenticator) d)
is_faulty d Hostid = is_bad number_in (get (member_name Hostid) d)
is_faulty d RpcSeqno = is_missing_or_bad number_in (get (member_name RpcSeqno) d)
is_faulty d HostInfo = is_missing_or_bad object_in (get (member_name HostInfo) d)
is_faulty d HostCpid = is_missing_or_bad word_in (get (member_name HostCpid) (info_of d))
is_faulty d PFpops = is_missing_or_bad speed_in (get (member_name PFpops) (info_of d))
is_faulty d MNbytes = is_missing_or_bad size_in (get (member_name MNbytes) (info_of d))
is_faulty d DFree = is_missing_or_bad size_in (get (member_name DFree) (info_of d))
is_faulty d PlatformName = is_missing_or_bad word_in (get (member_name PlatformName) d)
is_faulty d AltPlatforms = is_bad alternatives_in (get (member_name AltPlatforms) d)
is_faulty d WorkReqSeconds = is_bad seconds_in (get (member_name WorkReqSeconds) d)
is_faulty d OtherResults = is_bad listed_in (get (member_name OtherResults) d)
is_faulty d Results = is_bad reports_in (get (member_name Results) d)

-- The refusal, if a reading gives one.
abbrev pub refusal_of : {A : Type 0} → Result A Fault → Option Fault
refusal_of (Ok x) = None
refusal_of (Err e) = Some e
