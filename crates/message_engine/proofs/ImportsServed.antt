-- An import is served by its kept batch, by a refusal, or by its step and its commit.
use Rattle.std.proofs.Common.{◌≡◌, ◌≢◌, ℕ, ◌≤◌, List, sym, refl, ap, ◌∙◌, subst}
use Rattle.std.specs.Prelude.{Option, Some, None, option_map, Result, Ok, Err, IfOk, OnOk, if◌then◌else◌}
use Rattle.std.specs.Str.{bytes_eq}
use Rattle.office_files.specs.Faults.{refusal_of}
use Rattle.office_files.specs.Importing.{Says, Refuses}
use Rattle.office_files.specs.Records.{Record}
use Rattle.office_files.specs.declared.fault.RowsFault.{RowsFault}
use Rattle.office_files.specs.declared.fault.RowsFault.TheVariants as rows_fault
use Rattle.office_files.proofs.TextRecords.{text_has_one_list}
use Rattle.rpc_records.specs.declared.fault.Fault.{Fault}
use Rattle.rpc_records.specs.declared.fault.Fault.TheVariants as fault
use Rattle.sched_book.specs.Delta.{applied}
use Rattle.sched_book.specs.Imports.{AreChecked, fault_of_rows, shelf_of}
use Rattle.sched_book.specs.Limits.{last_moment, AreRowsInLimits}
use Rattle.sched_book.specs.Step.{ImportStep}
use Rattle.sched_book.specs.declared.cause.Cause.{Cause}
use Rattle.sched_book.specs.declared.delta.Delta.{Delta}
use Rattle.sched_book.specs.declared.machine.Answered.TheVariants as answered
use Rattle.sched_book.specs.declared.machine.Call.TheVariants as call
use Rattle.sched_book.specs.declared.rows.Rows.{Rows}
use Rattle.sched_book.specs.declared.world.World.{World}
use Rattle.stores.specs.Eras.{this_era}
use Rattle.stores.specs.Held.{Batches, Held, IsCommitted, IsKeptSoundly, IsLeft, MayBeCommitted}
use Rattle.pasts.specs.Answers.{imported_text}
use Rattle.stores.specs.Kinds.{kind_name}
use Rattle.pasts.specs.Told.{told_import}
use Rattle.pasts.specs.declared.answer.AnswerContent.{AnswerContent}
use Rattle.pasts.specs.declared.answer.AnswerContent.TheVariants.{Good, Refusal}
use Rattle.stores.specs.declared.batch.KeptBatch.{KeptBatch}
use Rattle.stores.specs.declared.kind.Kind.{Kind}
use Rattle.pasts.proofs.ByNumber.{kept_by_number}
use Rattle.message_engine.specs.Imports.{reading_of, as_refusal, import_of, entry_of_batch, ServesImport, IsImportServed}
use Rattle.message_engine.specs.Stores.{IsServed, ServesIn}
use Rattle.message_engine.proofs.EntriesKept.{told_serves, step_serves, IsStep}

-- ---- a batch that is kept

-- what a look-up found is what is kept
looked_up : (batches : Batches) (kind : Kind) (batch name : List ℕ) (looked kept : Option KeptBatch)
    → looked ≡ kept → name ≡ batch → looked ≡ batches kind name → batches kind batch ≡ kept
looked_up batches kind batch name looked kept is same there = ap (batches kind) (sym same) ∙ sym there ∙ is

pub again_serves : (now : ℕ) (kind : Kind) (batch text name : List ℕ) (looked : Option KeptBatch) (kept : KeptBatch) (answer : AnswerContent) (old new : Held)
    → looked ≡ Some kept → name ≡ batch → looked ≡ old.batches kind name → answer ≡ (if bytes_eq kept.text text then Good kept.answer else Refusal fault.BatchReused)
    → IsLeft old new → ServesImport now kind batch text answer old new
again_serves now kind batch text name looked kept answer old new found same there is left =
    let one = text_has_one_list text in
    let read : Result Rows Fault = as_refusal (reading_of kind one.0) in (
      read,
      (reading_of kind one.0, (one.0, one.1, refl), refl),
      told_serves (import_of now kind batch text read) answer old new
          (ap (λ o. told_import old.world o text read) (looked_up old.batches kind batch name looked (Some kept) found same there) ∙ ap Some (sym is)) left,
    )

-- a batch that was looked up and not found
pub still_none : (batches : Batches) (kind : Kind) (batch name : List ℕ) (looked : Option KeptBatch) → looked ≡ None → name ≡ batch → looked ≡ batches kind name → batches kind batch ≡ None
still_none batches kind batch name looked none same there = looked_up batches kind batch name looked None none same there

-- ---- a refusal

-- a text with a fault of its own reads as that fault
says_fault : (reading : List Record → Result Rows RowsFault) (text : List ℕ) (e : RowsFault) → ((cause : Cause) → e ≢ rows_fault.Unavailable cause)
    → Refuses reading text e → Says reading text (Err e)
says_fault reading text (rows_fault.BadCsv row column) known refuses = refuses
says_fault reading text (rows_fault.Unavailable cause) known refuses = absurd (known cause refl)
says_fault reading text (rows_fault.DuplicateName row) known refuses = absurd refuses
says_fault reading text (rows_fault.UnknownReference row) known refuses = absurd refuses
says_fault reading text rows_fault.TableFull known refuses = absurd refuses

pub unread_serves : (now : ℕ) (kind : Kind) (batch text : List ℕ) (e : RowsFault) (refusal : Fault) (old new : Held)
    → ((cause : Cause) → e ≢ rows_fault.Unavailable cause) → refusal ≡ refusal_of e → Refuses (reading_of kind) text e → IsLeft old new
    → old.batches kind batch ≡ None → ServesImport now kind batch text (Refusal refusal) old new
unread_serves now kind batch text e refusal old new known is refuses left none =
    let read : Result Rows Fault = Err refusal in (
      read,
      (Err e, says_fault (reading_of kind) text e known refuses, ap (λ f. Err f) is),
      told_serves (import_of now kind batch text read) (Refusal refusal) old new (ap (λ o. told_import old.world o text read) none) left,
    )

-- what was found of rows in the world of a store
pub unforbidden : (old : Held) (w : World) → old.world ≡ w → (rows : Rows) (found : Option Fault) → fault_of_rows (shelf_of w) rows ≡ found → fault_of_rows (shelf_of old.world) rows ≡ found
unforbidden old w world_is rows found is = ap (λ v. fault_of_rows (shelf_of v) rows) world_is ∙ is

-- rows that have a fault compared with those that exist
pub forbidden_serves : (now : ℕ) (kind : Kind) (batch text : List ℕ) (rows : Rows) (refusal : Fault) (old new : Held)
    → fault_of_rows (shelf_of old.world) rows ≡ Some refusal → IsLeft old new
    → old.batches kind batch ≡ None → ServesIn (import_of now kind batch text (Ok rows)) (Refusal refusal) old new
forbidden_serves now kind batch text rows refusal old new forbids left none =
    told_serves (import_of now kind batch text (Ok rows)) (Refusal refusal) old new
    (ap (λ o. told_import old.world o text (Ok rows)) none ∙ ap (option_map Refusal) forbids) left

-- ---- rows that are added

module _ (now count : ℕ) (kind : Kind) (batch text : List ℕ) (new_rows : Rows) (delta : Delta) (old new : Held) (w : World) (world_is : old.world ≡ w)
    (soon : now ≤ last_moment) (limits : AreRowsInLimits new_rows)
    (made : IsStep (λ v. AreChecked v new_rows) (λ v after. ImportStep v new_rows after count) delta w) where
  rows_serve : IsKeptSoundly delta (entry_of_batch kind batch text count) old new
      → old.batches kind batch ≡ None → fault_of_rows (shelf_of old.world) new_rows ≡ None
      → ServesIn (import_of now kind batch text (Ok new_rows)) (Good (imported_text (kind_name kind) batch count)) old new
  rows_serve done none unrefused sound =
      let here = subst (IsStep (λ v. AreChecked v new_rows) (λ v after. ImportStep v new_rows after count) delta) (sym world_is) made in
      let checked : AreChecked old.world new_rows = record { in_limits = limits; unrefused = unrefused } in
      let m = import_of now kind batch text (Ok new_rows) in
      step_serves m (call.Import new_rows) (answered.Imported count) delta (entry_of_batch kind batch text count) old new
      (ap (λ o. told_import old.world o text (Ok new_rows)) none ∙ ap (option_map Refusal) unrefused)
      refl (record { request = tt; moment = soon }) (here.step sound.world checked) (here.sound sound.world checked)
      (kept_by_number old.world (applied old.world delta) m.said (call.Import new_rows) now (answered.Imported count) sound.world refl (here.step sound.world checked) this_era old.calls
      sound.hosts)
      (λ k b. refl) (λ says. says) (done (record { fits = here.fits sound.world checked; newest = tt }) (here.sound sound.world checked)) sound

  pub rows_done : {E : Type 0} (result : Result AnswerContent E) → IfOk result (λ answer. answer ≡ Good (imported_text (kind_name kind) batch count))
      → OnOk result (MayBeCommitted delta (entry_of_batch kind batch text count) old → IsCommitted delta (entry_of_batch kind batch text count) old new)
      → IfOk result (λ answer. old.batches kind batch ≡ None → fault_of_rows (shelf_of old.world) new_rows ≡ None
      → ServesIn (import_of now kind batch text (Ok new_rows)) answer old new)
  rows_done (Ok answer) is done = λ none unrefused.
      subst (λ a. ServesIn (import_of now kind batch text (Ok new_rows)) a old new) (sym is) (rows_serve (λ may_be soundly. done may_be) none unrefused)
  rows_done (Err e) is done = tt

  -- if a stop leaves the commit whole, the import was served
  pub rows_ahead : IsKeptSoundly delta (entry_of_batch kind batch text count) old new
      → old.batches kind batch ≡ None → fault_of_rows (shelf_of old.world) new_rows ≡ None → IsServed (import_of now kind batch text (Ok new_rows)) old new
  rows_ahead done none unrefused = (Good (imported_text (kind_name kind) batch count), rows_serve done none unrefused)

-- ---- rows that were read, and then imported

pub read_on : {E : Type 0} (now : ℕ) (kind : Kind) (batch text : List ℕ) (rows : Rows) (old new : Held) (result : Result AnswerContent E) → Says (reading_of kind) text (Ok rows)
    → IfOk result (λ answer. old.batches kind batch ≡ None → ServesIn (import_of now kind batch text (Ok rows)) answer old new)
    → IfOk result (λ answer. old.batches kind batch ≡ None → ServesImport now kind batch text answer old new)
read_on now kind batch text rows old new (Ok answer) says serves = λ none. (Ok rows, (Ok rows, says, refl), serves none)
read_on now kind batch text rows old new (Err e) says serves = tt

pub read_ahead : (now : ℕ) (kind : Kind) (batch text : List ℕ) (rows : Rows) (old new : Held) → Says (reading_of kind) text (Ok rows)
    → (old.batches kind batch ≡ None → IsServed (import_of now kind batch text (Ok rows)) old new) → old.batches kind batch ≡ None → IsImportServed now kind batch text old new
read_ahead now kind batch text rows old new says served none = (Ok rows, (Ok rows, says, refl), served none)
