-- Rule. The answer to a read of a host's statement. (This project's own.)
use Rattle.std.specs.Prelude.{ℕ, List, Option, Some, None}
use Rattle.rpc_records.specs.declared.fault.Fault.TheVariants as fault
use Rattle.sched_book.specs.declared.world.World.{World}
use Rattle.office_files.specs.Statements.{statement_of}
use Rattle.pasts.specs.declared.answer.AnswerContent.{AnswerContent}
use Rattle.pasts.specs.declared.answer.AnswerContent.TheVariants.{Statement, Refusal}

-- the statement, or that there is no such host
abbrev pub statement_told : Option (List ℕ) → AnswerContent
statement_told (Some text) = Statement text
statement_told None = Refusal fault.NoSuchHost

abbrev pub told_of_host : ℕ → World → AnswerContent
told_of_host host w = statement_told (statement_of w host)
