use Rattle.std.proofs.Common.{◌≡◌, ℕ, sym, subst, ◌∙◌, inl, inr, rules, arith}
use Rattle.sqlite.specs.Effect.{Database}
use Rattle.sqlite.specs.Held.{state}
use Rattle.sqlite.specs.State.{State, HasCleanDisk}
use Rattle.table_meaning.specs.Steps.{PutsRows}
use Rattle.table_meaning.specs.Kept.{calls_in}
use Rattle.sched_tables.specs.Entries.{ArePutWith}
use Rattle.sched_tables.specs.Views.{world_of, AreKept}
use Rattle.sched_tables.specs.Held.{IsHonest}
use Rattle.sched_tables.specs.ReadLaws.{was_honest}
use Rattle.sched_book.specs.Delta.{applied}
use Rattle.sched_book.specs.declared.delta.Delta.{Delta}
use Rattle.table_rows.specs.Utf8.{HaveUtf8}
use Rattle.table_worlds.specs.StoredWorld.{world_in}
use Rattle.sched_tables.specs.DueFrom.{NothingIsDueBefore, lowered}
use Rattle.sched_tables.proofs.DueFromStays.{lowered_before, lowered_then}
use Rattle.table_cache.specs.Remembering.{IsCacheOf}
use Rattle.sched_tables.proofs.EntriesKept.{world_then}
use Rattle.sched_tables.proofs.RowsLead.{rows_lead}
use Rattle.sched_tables.proofs.Leads.{puts_all, leaves_made, was_ok, was_err}
use Rattle.sched_tables.specs.ReopenLaws.{reads_reopen}
use Rattle.sched_tables.proofs.Reopened.{commit_reopens}
use Rattle.sched_tables.proofs.tables.Tables.commit.Goals as goal

pub returns-clause-made : goal.returns-clause-made
returns-clause-made g c = λ honest kept.
    let before = c.args.self.now in
    let mid = state g.S.Store c.rows_with-rows.new.self.conn in
    let new = state g.S.Store c.put_rows.new.conn in
    let clean : HasCleanDisk mid = omega (arith, c.put_rows.ensures.crash.clean, honest.0) in
    let was_open = c.put_rows.ensures.was_open honest.0 honest.1 in
    let puts = was_ok c.put_rows.result (PutsRows mid.now new.committed c.as_slice-put.result.now) (search rules) (c.put_rows.ensures.both honest.0 honest.1) in
    let rest = was_ok c.put_rows.result (new.now ≡ new.committed) (search rules) (c.put_rows.ensures.rest honest.0 honest.1) in
    puts_all (state g.S.Store before.conn) mid new (world_of g.S.Store before) c.args.delta.now c.args.entry.now c.as_slice-put.result.now
    (c.rows_with-rows.ensures.reads.0.same clean was_open kept.0.rests).0 rest
    (subst (ArePutWith (world_of g.S.Store before) c.args.delta.now (calls_in (state g.S.Store before.conn).now.trees) c.args.entry.now) (sym c.as_slice-put.ensures) (c.in_ok-rows.ensures.rows (clean, was_open) kept))
    puts (was_ok c.put_rows.result (HaveUtf8 c.as_slice-put.result.now) (search rules) c.put_rows.ensures.utf8)

-- where the rows are as they were, nothing is due before a lowered `due_from` either
due_from_left : (old new : State) (due_from lower : ℕ) (cs : Delta) → lower ≡ lowered due_from cs → new.now ≡ old.now → NothingIsDueBefore (world_in old.now.trees) due_from → NothingIsDueBefore (world_in new.now.trees) lower
due_from_left old new due_from lower cs is same marked =
    subst (λ (db : Database). NothingIsDueBefore (world_in db.trees) lower) (sym same) (subst (NothingIsDueBefore (world_in old.now.trees)) (sym is) (lowered_before (world_in old.now.trees) due_from cs marked))

pub returns-in_err-rows-clause-due_from : goal.returns-in_err-rows-clause-due_from
returns-in_err-rows-clause-due_from g c = λ honest kept.
    let before = c.args.self.now in
    due_from_left (state g.S.Store before.conn) (state g.S.Store c.rows_with-rows.new.self.conn) before.due_from c.lowered-due_from.result c.args.delta.now c.lowered-due_from.ensures
    (c.rows_with-rows.ensures.reads.0.same honest.0 honest.1 kept.0.rests).0 kept.1.due_from_is

pub returns-in_err-apps-clause-due_from : goal.returns-in_err-apps-clause-due_from
returns-in_err-apps-clause-due_from g c = λ honest kept.
    let before = c.args.self.now in
    due_from_left (state g.S.Store before.conn) (state g.S.Store c.rows_with-rows.new.self.conn) before.due_from c.lowered-due_from.result c.args.delta.now c.lowered-due_from.ensures
    (c.rows_with-rows.ensures.reads.0.same honest.0 honest.1 kept.0.rests).0 kept.1.due_from_is

pub returns-in-Err-clause-due_from : goal.returns-in-Err-clause-due_from
returns-in-Err-clause-due_from g c = λ honest kept.
    let before = c.args.self.now in
    let mid = state g.S.Store c.rows_with-rows.new.self.conn in
    let clean : HasCleanDisk mid = omega (arith, c.put_rows.ensures.crash.clean, honest.0) in
    let was_open = c.put_rows.ensures.was_open honest.0 honest.1 in
    due_from_left (state g.S.Store before.conn) (state g.S.Store c.put_rows.new.conn) before.due_from c.lowered-due_from.result c.args.delta.now c.lowered-due_from.ensures
    ((was_err c.put_rows.result _ (search rules) (c.put_rows.ensures.neither honest.0 honest.1)).0 ∙ (c.rows_with-rows.ensures.reads.0.same clean was_open kept.0.rests).0) kept.1.due_from_is

pub returns-clause-due_from : goal.returns-clause-due_from
returns-clause-due_from g c = λ honest kept.
    let before = c.args.self.now in
    let w = world_of g.S.Store before in
    let cs = c.args.delta.now in
    let due_from = c.lowered-due_from.result in
    let then = world_then (state g.S.Store before.conn) (state g.S.Store c.put_rows.new.conn) w cs c.args.entry.now kept.0 (returns-clause-made g c honest kept) in
    subst (λ u. NothingIsDueBefore u due_from) (sym then) (subst (NothingIsDueBefore (applied w cs)) (sym c.lowered-due_from.ensures) (lowered_then w before.due_from cs kept.1.due_from_is))

pub returns-clause-remembers : goal.returns-clause-remembers
returns-clause-remembers g c = λ honest kept.
    let before = c.args.self.now in
    let old = state g.S.Store before.conn in
    let mid = state g.S.Store c.rows_with-rows.new.self.conn in
    let new = state g.S.Store c.put_rows.new.conn in
    let w = world_of g.S.Store before in
    let cs = c.args.delta.now in
    let e = c.args.entry.now in
    let rows = c.as_slice-put.result.now in
    let clean : HasCleanDisk mid = omega (arith, c.put_rows.ensures.crash.clean, honest.0) in
    let early : IsHonest mid = (clean, c.put_rows.ensures.was_open honest.0 honest.1) in
    let put : ArePutWith w cs (calls_in old.now.trees) e rows = subst (ArePutWith w cs (calls_in old.now.trees) e) (sym c.as_slice-put.ensures) (c.in_ok-rows.ensures.rows early kept) in
    subst (λ u. IsCacheOf u (calls_in new.now.trees) c.note_put.new.self) (sym (world_then old new w cs e kept.0 (returns-clause-made g c honest kept)))
    (c.note_put.ensures w (applied w cs) (calls_in old.now.trees) (calls_in new.now.trees) (rows_lead w cs (calls_in old.now.trees) e rows kept.0.readable put) (c.rows_with-rows.ensures.reads.3 early kept))

pub returns-in-Err-clause-remembers : goal.returns-in-Err-clause-remembers
returns-in-Err-clause-remembers g c = λ honest kept. c.forget_all.ensures _ _

pub returns-clause-crash : goal.returns-clause-crash
returns-clause-crash g c =
    let before = c.args.self.now in
    let cs = c.args.delta.now in
    leaves_made (state g.S.Store before.conn) (state g.S.Store c.rows_with-rows.new.self.conn) (state g.S.Store c.put_rows.new.conn) (world_of g.S.Store before) cs c.args.entry.now c.as_slice-put.result.now
    (AreKept g.S.Store before) c.rows_with-rows.ensures.reads.0 c.put_rows.ensures.crash
    (λ honest kept. subst (ArePutWith (world_of g.S.Store before) cs (calls_in (state g.S.Store before.conn).now.trees) c.args.entry.now) (sym c.as_slice-put.ensures) (c.in_ok-rows.ensures.rows honest kept)) (λ kept. kept.0.rests)

pub returns-in-Err-clause-crash : goal.returns-in-Err-clause-crash
returns-in-Err-clause-crash g c =
    let before = c.args.self.now in
    let cs = c.args.delta.now in
    leaves_made (state g.S.Store before.conn) (state g.S.Store c.rows_with-rows.new.self.conn) (state g.S.Store c.put_rows.new.conn) (world_of g.S.Store before) cs c.args.entry.now c.as_slice-put.result.now
    (AreKept g.S.Store before) c.rows_with-rows.ensures.reads.0 c.put_rows.ensures.crash
    (λ honest kept. subst (ArePutWith (world_of g.S.Store before) cs (calls_in (state g.S.Store before.conn).now.trees) c.args.entry.now) (sym c.as_slice-put.ensures) (c.in_ok-rows.ensures.rows honest kept)) (λ kept. kept.0.rests)

pub returns-in_err-rows-clause-reopens : goal.returns-in_err-rows-clause-reopens
returns-in_err-rows-clause-reopens g c = λ may reopens. reads_reopen (state g.S.Store c.args.self.now.conn) (state g.S.Store c.rows_with-rows.new.self.conn) c.rows_with-rows.ensures.reads.0 (λ honest. (may honest).0.0.rests) reopens

pub returns-in_err-apps-clause-reopens : goal.returns-in_err-apps-clause-reopens
returns-in_err-apps-clause-reopens g c = λ may reopens. reads_reopen (state g.S.Store c.args.self.now.conn) (state g.S.Store c.rows_with-rows.new.self.conn) c.rows_with-rows.ensures.reads.0 (λ honest. (may honest).0.0.rests) reopens

pub returns-in-Err-clause-reopens : goal.returns-in-Err-clause-reopens
returns-in-Err-clause-reopens g c = λ may reopens.
    let before = c.args.self.now in
    let old = state g.S.Store before.conn in
    let mid = state g.S.Store c.rows_with-rows.new.self.conn in
    let new = state g.S.Store c.put_rows.new.conn in
    let reads = c.rows_with-rows.ensures.reads.0 in
    let early = λ (honest : IsHonest new). let clean : HasCleanDisk mid = omega (arith, c.put_rows.ensures.crash.clean, honest.0) in let h : IsHonest mid = (clean, c.put_rows.ensures.was_open honest.0 honest.1) in h in
    commit_reopens old new c.args.delta.now c.args.entry.now (AreKept g.S.Store before) (λ kept. kept.0) may reopens (returns-in-Err-clause-crash g c)
    (λ honest. was_honest old mid reads (early honest))
    (λ honest kept. inr ((was_err c.put_rows.result _ (search rules) (c.put_rows.ensures.neither honest.0 honest.1)).0 ∙ (reads.same (early honest).0 (early honest).1 kept.0.rests).0))

pub returns-clause-reopens : goal.returns-clause-reopens
returns-clause-reopens g c = λ may reopens.
    let before = c.args.self.now in
    let old = state g.S.Store before.conn in
    let mid = state g.S.Store c.rows_with-rows.new.self.conn in
    let new = state g.S.Store c.put_rows.new.conn in
    let early = λ (honest : IsHonest new). let clean : HasCleanDisk mid = omega (arith, c.put_rows.ensures.crash.clean, honest.0) in let h : IsHonest mid = (clean, c.put_rows.ensures.was_open honest.0 honest.1) in h in
    commit_reopens old new c.args.delta.now c.args.entry.now (AreKept g.S.Store before) (λ kept. kept.0) may reopens (returns-clause-crash g c)
    (λ honest. was_honest old mid c.rows_with-rows.ensures.reads.0 (early honest))
    (λ honest kept. inl (returns-clause-made g c honest kept))
