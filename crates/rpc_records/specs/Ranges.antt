-- Rule. The ranges of a request. Every request that was read is within them, and a canonical text of a request within them can be read
-- back.
use Rattle.std.specs.Prelude.{◌<◌, ◌≤◌, ◌^◌, ◌≤ℤ◌, ℕ, pos, negsuc, List, length, All, IfSome, IsTrue}
use Rattle.texts.specs.Words.{IsWord}
use Rattle.rpc_records.specs.Members.{is_name, is_output}
use Rattle.rpc_records.specs.declared.request.HostInfo.{HostInfo}
use Rattle.rpc_records.specs.declared.request.Report.{Report}
use Rattle.rpc_records.specs.declared.request.Request.{Request}

-- 1 to 254 bytes.
abbrev pub IsName : List ℕ → Type 0
IsName text = IsTrue (is_name text)

-- A host's name and its amounts: at least one operation a second, and bytes.
pub record IsHostInfo (host : HostInfo) : Type 0 where
  pub host_cpid : IsWord host.host_cpid
  pub some_fpops : 1 ≤ host.p_fpops
  pub p_fpops : host.p_fpops ≤ 10 ^ 18
  pub m_nbytes : host.m_nbytes ≤ 10 ^ 18
  pub d_free : host.d_free ≤ 10 ^ 18

-- A report's name, exit status of 32 bits, and output of at most 1,024 bytes.
pub record IsReport (report : Report) : Type 0 where
  pub name : IsName report.name
  pub least_status : negsuc 2147483647 ≤ℤ report.exit_status
  pub most_status : report.exit_status ≤ℤ pos 2147483647
  pub output : IsTrue (is_output report.output)

-- At most 1,024 names of results.
pub record AreListed (names : List (List ℕ)) : Type 0 where
  pub count : length names ≤ 1024
  pub each : All IsName names

-- A request with its own platform and at most 7 others, and at most 256 reports.
pub record IsInRange (request : Request) : Type 0 where
  pub authenticator : IsWord request.authenticator
  pub hostid : request.hostid ≤ 2147483647
  pub rpc_seqno : request.rpc_seqno ≤ 2147483647
  pub host : IsHostInfo request.host
  pub some_platform : 0 < length request.platforms
  pub platform_count : length request.platforms ≤ 8
  pub platforms : All IsWord request.platforms
  pub asked : request.asked ≤ 1000000000
  pub other_results : IfSome request.other_results AreListed
  pub result_count : length request.results ≤ 256
  pub results : All IsReport request.results
