-- Rule. Whether a call names the number of its host.
use Rattle.std.specs.Prelude.{◌≡◌, ℕ, false, Some}
pub use Rattle.rpc_records.specs.HostNumbers.{is_number, names_host}
use Rattle.rpc_records.specs.declared.request.Request.{Request}
use Rattle.sched_book.specs.Places.{account_place, known_host}
use Rattle.sched_book.specs.declared.world.World.{World}

-- the account of a call exists, and the number that the call names is not its host's
pub record NamesWrongNumber (w : World) (r : Request) : Type 0 where
  pub account : ℕ
  pub stands : account_place w r.authenticator ≡ Some account
  pub wrong : names_host r.hostid (known_host w account r.host.host_cpid) ≡ false
