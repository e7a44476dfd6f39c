-- What agrees with arrivals of an era before versions had classes is unclassed.
use Rattle.std.proofs.Common.{◌≡◌, ℕ, ◌<◌, List, [], ◌∷◌, length, Result, Ok, Err, refl, sym, subst, arith}
use Rattle.std.specs.Prelude.{IfOk, map}
use Rattle.std.specs.List.{All, AllByRecursion}
use Rattle.std.proofs.lemmas.Bool.{lt-ltb}
use Rattle.std.proofs.lemmas.List.Elements.{All-nil, All-cons, All-head, All-tail, All-append}
use Rattle.http_messages.specs.Deciding.{Asked}
use Rattle.http_messages.specs.Deciding as asks
use Rattle.office_files.specs.Records.{Record}
use Rattle.office_files.specs.declared.fault.RowsFault.{RowsFault}
use Rattle.office_files.proofs.FormerRows.{accounts_are_unclassed, apps_are_unclassed, former_versions_are_unclassed, former_workunits_are_unclassed}
use Rattle.rpc_records.specs.Reading.{meaning}
use Rattle.rpc_records.specs.declared.fault.Fault.{Fault}
use Rattle.rpc_records.specs.declared.request.Request.{Request}
use Rattle.sched_book.specs.Classes.{first_rule, imported}
use Rattle.sched_book.specs.Former.{IsOfItsPlatform, IsUnmarked, AreUnclassed, HasNoClasses}
use Rattle.sched_book.specs.Imports.{Shelf, empty_shelf, shelved}
use Rattle.sched_book.specs.declared.instance.UnitBook.{UnitBook}
use Rattle.sched_book.specs.declared.rows.ClassRule.{ClassRule}
use Rattle.sched_book.specs.declared.rows.ClassRule.TheVariants.{Any, OfFirst, Only}
use Rattle.sched_book.specs.declared.rows.Rows.{Rows}
use Rattle.sched_book.specs.declared.rows.Rows.TheVariants as rows
use Rattle.sched_book.specs.declared.rows.Workunit.{Workunit}
use Rattle.stores.specs.Eras.{era_of_classes}
use Rattle.stores.specs.declared.kind.Kind.{Kind}
use Rattle.stores.specs.declared.kind.Kind.TheVariants.{Accounts, Apps, Versions, Workunits}
use Rattle.pasts.specs.UpgradePoints.{AreOfEras}
use Rattle.pasts.specs.Messages.{Said, Import}
use Rattle.pasts.specs.Stands.{Past}
use Rattle.pasts.proofs.UpgradePoints.{era_most}
use Rattle.pasts.proofs.Shelves.{IfImports, shelf_stands}
use Rattle.message_engine.specs.Imports.{reading_in, as_refusal, ReadsIn}
use Rattle.message_engine.specs.Stores.{tables_by}
use Rattle.sched_server.specs.Arrivals.{Answered, IsPastOf, answered}
use Rattle.sched_server.specs.Laws.{FormerWorldsAreUnclassed}
use Rattle.sched_server.specs.Meanings.{SaysIn, said_by}

-- ---- what imports say

reads_unclassed : (era : ℕ) (kind : Kind) (records : List Record) → era < era_of_classes → IfOk (reading_in era kind records) AreUnclassed
reads_unclassed era Accounts records less = accounts_are_unclassed records
reads_unclassed era Apps records less = apps_are_unclassed records
reads_unclassed era Versions records less = rw (lt-ltb era era_of_classes less) (former_versions_are_unclassed records)
reads_unclassed era Workunits records less = rw (lt-ltb era era_of_classes less) (former_workunits_are_unclassed records)

told_unclassed : (said : Result Rows RowsFault) → IfOk said AreUnclassed → IfOk (as_refusal said) AreUnclassed
told_unclassed (Ok rows) are = are
told_unclassed (Err fault) are = tt

read_unclassed : (era : ℕ) (kind : Kind) (text : List ℕ) (read : Result Rows Fault) → era < era_of_classes → ReadsIn era kind text read → IfOk read AreUnclassed
read_unclassed era kind text read less reads =
    let said : Result Rows RowsFault = reads.0 in
    let own : IfOk said AreUnclassed = subst (λ r. IfOk r AreUnclassed) reads.1.2 (reads_unclassed era kind reads.1.0 less) in
    subst (λ r. IfOk r AreUnclassed) (sym reads.2) (told_unclassed said own)

import_unclassed : (kind : Kind) (batch text : List ℕ) (read : Result Rows Fault) → IfOk read AreUnclassed → IfImports AreUnclassed (Import kind batch text read)
import_unclassed kind batch text (Ok rows) are = are
import_unclassed kind batch text (Err fault) are = tt

call_unclassed : (r : Result Request Fault) → IfImports AreUnclassed (said_by r)
call_unclassed (Ok request) = tt
call_unclassed (Err fault) = tt

said_unclassed : (era : ℕ) (asked : Asked) (said : Said) → era < era_of_classes → SaysIn era asked said → IfImports AreUnclassed said
said_unclassed era (asks.call body) said less says = subst (IfImports AreUnclassed) (sym says) (call_unclassed (meaning body))
said_unclassed era (asks.import kind batch text) said less says =
    subst (IfImports AreUnclassed) (sym says.2) (import_unclassed kind batch text says.0 (read_unclassed era kind text says.0 less says.1))
said_unclassed era asks.tick said less says = subst (IfImports AreUnclassed) (sym says) tt
said_unclassed era (asks.statement host) said less says = subst (IfImports AreUnclassed) (sym says) tt
said_unclassed era (asks.wrong_method allowed) said less says = subst (IfImports AreUnclassed) (sym says) tt
said_unclassed era (asks.refused f) said less says = subst (IfImports AreUnclassed) (sym says) tt

-- ---- a past

past_unclassed : (key points : List ℕ) (before : List Answered) (past : Past) → length points < era_of_classes → IsPastOf key before past → AreOfEras points past
    → AllByRecursion (λ h. IfImports AreUnclassed h.message.said) past
past_unclassed key points [] [] less tells eras = tt
past_unclassed key points [] (h ∷ past) less tells eras = absurd tells
past_unclassed key points (a ∷ before) [] less tells eras = absurd tells
past_unclassed key points (a ∷ before) (h ∷ past) less tells eras =
    let heard = tells.0 in
    let early : h.message.era < era_of_classes = omega (arith, eras.0, era_most points (length past), less) in
    (said_unclassed h.message.era heard.asked h.message.said early heard.says, past_unclassed key points before past less tells.1 eras.1)

-- ---- what is stored

shelved_unclassed : (s : Shelf) (new : Rows) → HasNoClasses s → AreUnclassed new → HasNoClasses (shelved s new)
shelved_unclassed s (rows.Accounts xs) old new = record { versions = old.versions; units = old.units }
shelved_unclassed s (rows.Apps xs) old new = record { versions = old.versions; units = old.units }
shelved_unclassed s (rows.Versions xs) old new = record { versions = All-append IsOfItsPlatform s.versions xs old.versions new; units = old.units }
shelved_unclassed s (rows.Workunits xs) old new = record { versions = old.versions; units = All-append IsUnmarked s.units xs old.units new }

-- a workunit that was imported without a mark is not marked
unmarked : (rule : ClassRule) → first_rule rule ≡ Any → rule ≡ Any
unmarked Any is = refl
unmarked OfFirst is = is
unmarked (Only class) is = cc

units_unmarked : (units : List UnitBook) → All IsUnmarked (map (λ (b : UnitBook). imported b.unit) units) → All (λ (b : UnitBook). IsUnmarked b.unit) units
units_unmarked [] all = All-nil (λ (b : UnitBook). IsUnmarked b.unit)
units_unmarked (b ∷ units) all =
    let more : List Workunit = map (λ (b : UnitBook). imported b.unit) units in
    All-cons (λ (b : UnitBook). IsUnmarked b.unit) b units (unmarked b.unit.class_rule (All-head IsUnmarked (imported b.unit) more all))
    (units_unmarked units (All-tail IsUnmarked (imported b.unit) more all))

no_rows : HasNoClasses empty_shelf
no_rows = record { versions = All-nil IsOfItsPlatform; units = All-nil IsUnmarked }

pub former_worlds_are_unclassed : FormerWorldsAreUnclassed
former_worlds_are_unclassed era key held points before less st =
    let early : length points < era_of_classes = omega (arith, st.in_era.upgrades, less) in
    let past = past_unclassed key points (answered before) st.past early st.tells st.in_era.eras in
    let shelf = shelf_stands AreUnclassed HasNoClasses no_rows shelved_unclassed (tables_by held) st.past st.stands past in record {
      versions = shelf.versions;
      units = units_unmarked held.world.units shelf.units;
    }
