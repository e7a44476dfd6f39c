-- Words. What is known of one call of std's readers and writers.
use Rattle.std.specs.Prelude.{ℕ, List, Option}
use Rattle.std.specs.Io.KnownBytes.{Consumes}
use Rattle.std.specs.declared.io.ErrorKind.{ErrorKind}
use Rattle.std.specs.declared.io.ErrorKind.TheVariants.{Interrupted}
use Rattle.http_serving.specs.declared.streams.StreamFault.{StreamFault}
use Rattle.http_serving.specs.declared.streams.StreamFault.TheVariants as fault

-- One read takes some of the known bytes from the front, or none.
abbrev pub MayRead : Option (List ℕ) → Option (List ℕ) → Type 0
MayRead before after = (bytes : List ℕ) × Consumes before after bytes

-- why a call of a stream gave or took nothing, from the kind of its error
abbrev pub fault_of : ErrorKind → StreamFault
fault_of Interrupted = fault.Interrupted
fault_of _ = fault.Failed
