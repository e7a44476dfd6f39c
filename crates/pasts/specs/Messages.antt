-- Rule. What messages say, apart from the bytes in which they come. (The call is BOINC's scheduler request; imports, ticks and reads are
-- this profile's.)
use Rattle.std.specs.Prelude.{ℕ, List, Result}
use Rattle.reply_register.specs.declared.key.Key.{Key}
use Rattle.rpc_records.specs.declared.fault.Fault.{Fault}
use Rattle.rpc_records.specs.declared.request.Request.{Request}
use Rattle.sched_book.specs.declared.rows.Rows.{Rows}
use Rattle.sched_book.specs.declared.world.World.{World}
use Rattle.stores.specs.Eras.{this_era}
use Rattle.pasts.specs.declared.answer.AnswerContent.{AnswerContent}
use Rattle.stores.specs.declared.kind.Kind.{Kind}

-- What a message can be. It is a call of a host; an import with its bytes, and the rows that they say or their first fault; a tick; a read
-- of what is stored. Or it is refused for its bytes alone.
pub data Said : Type 0 where
  Rpc : (request : Request) → Said
  Import : (kind : Kind) (batch text : List ℕ) (read : Result Rows Fault) → Said
  Tick : Said
  Read : (tells : World → AnswerContent) → Said
  Refused : (fault : Fault) → Said

-- A message, its moment, and the era in which it came.
pub record Message : Type 0 where
  pub now : ℕ
  pub said : Said
  pub era : ℕ

-- a message to this program
abbrev pub heard_now : ℕ → Said → Message
heard_now now said = record { now = now; said = said; era = this_era }

-- who calls: a host of an account
abbrev pub key_of : Request → Key
key_of request = record { authenticator = request.authenticator; host_cpid = request.host.host_cpid }
