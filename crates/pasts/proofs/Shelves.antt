-- What holds of the rows of each import of a past holds of the stored rows.
use Rattle.std.proofs.Common.{Bool, true, false, List, [], ◌∷◌, Ok, Err, sym, subst}
use Rattle.std.specs.Prelude.{if◌then◌else◌}
use Rattle.std.specs.List.{AllByRecursion}
use Rattle.sched_book.specs.Imports.{Shelf, empty_shelf, shelved, shelf_of}
use Rattle.sched_book.specs.declared.rows.Rows.{Rows}
use Rattle.sched_book.specs.declared.settings.Settings.{Settings}
use Rattle.pasts.specs.FirstHeard.{shelf_said, rows_of, is_first_heard, first_heard}
use Rattle.pasts.specs.Messages.{Said, Rpc, Import, Tick, Read, Refused, Message}
use Rattle.pasts.specs.Stands.{Past, Tables, Stands, messages_in}
use Rattle.pasts.proofs.Carried.{rows_are_of_first_heard}

-- P holds of the rows that this message imports, if it imports any.
abbrev pub IfImports : (Rows → Type 0) → Said → Type 0
IfImports P (Import kind batch text (Ok rows)) = P rows
IfImports P (Import kind batch text (Err fault)) = Unit {0}
IfImports P (Rpc request) = Unit {0}
IfImports P Tick = Unit {0}
IfImports P (Read tells) = Unit {0}
IfImports P (Refused fault) = Unit {0}

-- Q holds of an empty shelf, and still holds of a shelf once rows are added of which P holds.
module _ (P : Rows → Type 0) (Q : Shelf → Type 0) (none : Q empty_shelf) (more : (s : Shelf) (new : Rows) → Q s → P new → Q (shelved s new)) where
  said_on : (said : Said) (shelf : Shelf) → IfImports P said → Q shelf → Q (shelf_said said shelf)
  said_on (Import kind batch text (Ok rows)) shelf new old = more shelf rows old new
  said_on (Import kind batch text (Err fault)) shelf new old = old
  said_on (Rpc request) shelf new old = old
  said_on Tick shelf new old = old
  said_on (Read tells) shelf new old = old
  said_on (Refused fault) shelf new old = old

  of_rows : (messages : List Message) → AllByRecursion (λ m. IfImports P m.said) messages → Q (rows_of messages)
  of_rows [] all = none
  of_rows (m ∷ older) all = said_on m.said (rows_of older) all.0 (of_rows older all.1)

  kept : (b : Bool) (m : Message) (heard : List Message) → IfImports P m.said → AllByRecursion (λ m. IfImports P m.said) heard
      → AllByRecursion (λ m. IfImports P m.said) (if b then m ∷ heard else heard)
  kept true m heard new all = (new, all)
  kept false m heard new all = all

  of_first_heard : (s : Settings) (past : Past) → AllByRecursion (λ h. IfImports P h.message.said) past
      → AllByRecursion (λ m. IfImports P m.said) (first_heard s (messages_in past))
  of_first_heard s [] all = tt
  of_first_heard s (h ∷ past) all =
      let heard : List Message = first_heard s (messages_in past) in
      kept (is_first_heard s heard h.message.said) h.message heard all.0 (of_first_heard s past all.1)

  -- so Q holds of the stored rows
  pub shelf_stands : (t : Tables) (past : Past) → Stands t past → AllByRecursion (λ h. IfImports P h.message.said) past → Q (shelf_of t.world)
  shelf_stands t past stands all =
      subst Q (sym (rows_are_of_first_heard t past stands).rows)
      (of_rows (first_heard t.world.settings (messages_in past)) (of_first_heard t.world.settings past all))
