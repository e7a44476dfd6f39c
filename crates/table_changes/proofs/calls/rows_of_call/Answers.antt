use Rattle.std.proofs.Common.{rules, ◌≡◌, true}
use Rattle.std.specs.List.{list_all}
use Rattle.sched_book.specs.Delta.{edited}
use Rattle.table_worlds.specs.Readable.{IsReadable, gives_words}
use Rattle.table_worlds.proofs.StaysReadable.{stays_readable}
use Rattle.table_changes.proofs.ReadableCalls.{holds_anyway, of_call_state}
use Rattle.table_changes.proofs.calls.rows_of_call.Goals as goal

pub returns-clause-rows : goal.returns-clause-rows
returns-clause-rows g c = λ honest kept.
    let d = g.met.D.Units in
    let before = d.stays_honest _ _ c.rows_of_call_state.ensures.reads honest in
    let well = d.stays_kept _ _ c.call_state_of.ensures.reads before kept in
    of_call_state (g.D.Units.world c.args.desk.now) _ c.in_ok-call_state.call_state c.args.edits.now c.rows_of_call_state.result
    (d.stays_same _ _ c.call_state_of.ensures.reads before kept) c.in_ok-call_state.ensures.edits (c.in_ok-call_state.ensures.call_state before kept)
    (c.rows_of_call_state.ensures.rows honest well)

pub returns-clause-readable : goal.returns-clause-readable
returns-clause-readable g c = λ honest kept readable.
    let w = g.D.Units.world c.args.desk.now in
    let cs = c.args.edits.now in
    let puts : list_all gives_words cs ≡ true = search rules in
    holds_anyway (IsReadable (edited w cs)) c.rows_of_call_state.result (stays_readable w cs readable puts)
