-- The texts that read a whole table write nothing, for any schema.
use Rattle.std.proofs.Common.{ℕ, ◌+◌, Bool, if◌then◌else◌, true, false, List, None, Ok, Err, sym, true≢false}
use Rattle.sqlite_schema.specs.declared.command.Command.{Command}
use Rattle.sqlite_schema.specs.declared.schema.Schema.{Schema}
use Rattle.sqlite_resolve.specs.declared.compiled.Compiled.{Compiled}
use Rattle.sqlite_resolve.specs.declared.error.CompileError.TheVariants.{NoSuchTable}
use Rattle.sqlite_resolve.specs.Lowering.{Checked, and_then}
use Rattle.sqlite_syntax.specs.declared.statement.Parsed.{Parsed}
use Rattle.sqlite_resolve.specs.Compile.{first, planned, meaning, command, compiled, with_command, small, timed}
use Rattle.sqlite.specs.Given.{Returns}
use Rattle.sqlite.specs.Listing.{understood, reads_listing, if_select, listing_schema, is_select}
use Rattle.table_meaning.specs.declared.tables.TableName.{TableName}
use Rattle.table_meaning.specs.Texts.{read_text}
use Rattle.table_meaning.proofs.ByComputing.{IsQuiet, computed}

quiet_plan : (schema : Schema) (p : Parsed) → IsQuiet (Ok p) → ¬ Returns (and_then (planned schema p) (λ plan. Ok (with_command p plan)))
unfolding planned meaning
quiet_plan schema p quiet = rw (quiet schema base) (go (command schema p.formats base p.statement))
  where
    base : ℕ
    base = small p.names + small (timed schema p.formats p.statement)

    go : (c : Checked Command) → ¬ Returns (and_then (and_then (and_then c (λ c. Ok (c, None))) (λ found. Ok (timed schema p.formats p.statement, found))) (λ plan. Ok (with_command p plan)))
    go (Ok c) h = absurd (true≢false (sym h))
    go (Err e) h = h

pub quiet_compiled : (schema : Schema) (text : List ℕ) → IsQuiet (first text) → ¬ Returns (compiled schema text)
unfolding compiled
quiet_compiled schema text = go (first text)
  where
    go : (p : Checked Parsed) → IsQuiet p → ¬ Returns (and_then p (λ p. and_then (planned schema p) (λ plan. Ok (with_command p plan))))
    go (Ok p) quiet = quiet_plan schema p quiet
    go (Err e) quiet = λ h. h

selected : (r : Checked Compiled) → ¬ Returns r → ¬ Returns (if_select r)
selected (Ok c) quiet = go (is_select c.command)
  where
    go : (b : Bool) → ¬ Returns (if b then Ok c else Err NoSuchTable)
    go true = quiet
    go false = λ h. h
selected (Err e) quiet = λ h. h

pub never_returns : (schema : Schema) (t : TableName) → ¬ Returns (understood schema (read_text t))
unfolding understood
never_returns schema t = go (reads_listing schema (read_text t))
  where
    go : (b : Bool) → ¬ Returns (if b then if_select (compiled listing_schema (read_text t)) else compiled schema (read_text t))
    go true = selected (compiled listing_schema (read_text t)) (quiet_compiled listing_schema (read_text t) (computed t).quiet)
    go false = quiet_compiled schema (read_text t) (computed t).quiet
