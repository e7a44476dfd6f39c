use Rattle.std.proofs.Common.{sym, subst, inr}
use Rattle.sqlite.specs.Effect.{Database}
use Rattle.sqlite.specs.Held.{state}
use Rattle.table_worlds.specs.RowsOf.{having}
use Rattle.table_reading.specs.Reading.{AreAllRead}
use Rattle.table_reading.proofs.ReadsOn.{known_before, known_after, shows_first, refused_on}
use Rattle.table_reading.proofs.StoredWorlds.{is_read, is_held, settings_told, apps_told, none_due_told, none_stands, one_reason, beside_of}
use Rattle.table_reading.proofs.world.stored_world.Goals as goal

pub returns-in_err-world-clause-bad : goal.returns-in_err-world-clause-bad
returns-in_err-world-clause-bad g c = λ was.
    let first = state g.S.Store c.args.conn.now in
    let rows = c.in-Ok.ensures.rows was in
    refused_on c.from_residual.result _ c.in_err-world.field-0.0 c.from_residual.ensures.1
    (λ is. inr (rows.0, rows.1, λ w stand. one_reason c.in_err-world.field-0.0 (c.in_err-world.ensures.refused w stand.sound (beside_of first.now was.known rows.0 rows.1 rows.2 c.in-Ok.reading rows.3 w stand)) is))

pub returns-in-Ok-test_world-clause-stands : goal.returns-in-Ok-test_world-clause-stands
returns-in-Ok-test_world-clause-stands g c = λ was.
    let first = state g.S.Store c.args.conn.now in
    let before = state g.S.Store c.read_all.new.conn in
    let after = state g.S.Store c.test_world.new.conn in
    let kept = c.read_all.ensures.reads in
    let read = c.test_world.ensures.reads in
    let rows = c.in-Ok.ensures.rows (known_before first before after kept read was) in
    let later = subst (λ (db : Database). AreAllRead db.trees rows.0) (sym (shows_first first before after kept read was)) rows.1 in
    let stand = c.in-Ok-test_world.ensures.stands (known_after first before after kept read was) rows.0 later rows.2 rows.3 in
    is_read first.now was.known rows.0 rows.1 (having c.in_ok-world.world stand.0) stand.1

pub returns-in-Ok-test_world-clause-held : goal.returns-in-Ok-test_world-clause-held
returns-in-Ok-test_world-clause-held g c = λ was.
    let first = state g.S.Store c.args.conn.now in
    let before = state g.S.Store c.read_all.new.conn in
    let after = state g.S.Store c.test_world.new.conn in
    let kept = c.read_all.ensures.reads in
    let read = c.test_world.ensures.reads in
    let rows = c.in-Ok.ensures.rows (known_before first before after kept read was) in
    let later = subst (λ (db : Database). AreAllRead db.trees rows.0) (sym (shows_first first before after kept read was)) rows.1 in
    let stand = c.in-Ok-test_world.ensures.stands (known_after first before after kept read was) rows.0 later rows.2 rows.3 in
    is_held first.now was.known rows.0 rows.1 (having c.in_ok-world.world stand.0) stand.1

pub returns-in-Ok-test_world-clause-utf8 : goal.returns-in-Ok-test_world-clause-utf8
returns-in-Ok-test_world-clause-utf8 g c = λ was.
    let first = state g.S.Store c.args.conn.now in
    let before = state g.S.Store c.read_all.new.conn in
    let after = state g.S.Store c.test_world.new.conn in
    c.in-Ok.ensures.utf8 (known_before first before after c.read_all.ensures.reads c.test_world.ensures.reads was)

pub returns-in-Ok-test_world-clause-kept : goal.returns-in-Ok-test_world-clause-kept
returns-in-Ok-test_world-clause-kept g c = λ was.
    let first = state g.S.Store c.args.conn.now in
    let before = state g.S.Store c.read_all.new.conn in
    let after = state g.S.Store c.test_world.new.conn in
    let kept = c.read_all.ensures.reads in
    let read = c.test_world.ensures.reads in
    let rows = c.in-Ok.ensures.rows (known_before first before after kept read was) in
    let later = subst (λ (db : Database). AreAllRead db.trees rows.0) (sym (shows_first first before after kept read was)) rows.1 in
    let stand = c.in-Ok-test_world.ensures.stands (known_after first before after kept read was) rows.0 later rows.2 rows.3 in
    (settings_told first.now was.known rows.0 rows.1 (having c.in_ok-world.world stand.0) stand.1, apps_told first.now was.known rows.0 rows.1 (having c.in_ok-world.world stand.0) stand.1)

pub returns-in-Ok-test_world-clause-due_from : goal.returns-in-Ok-test_world-clause-due_from
returns-in-Ok-test_world-clause-due_from g c = λ was.
    let first = state g.S.Store c.args.conn.now in
    let before = state g.S.Store c.read_all.new.conn in
    let after = state g.S.Store c.test_world.new.conn in
    let kept = c.read_all.ensures.reads in
    let read = c.test_world.ensures.reads in
    let rows = c.in-Ok.ensures.rows (known_before first before after kept read was) in
    let later = subst (λ (db : Database). AreAllRead db.trees rows.0) (sym (shows_first first before after kept read was)) rows.1 in
    let stand = c.in-Ok-test_world.ensures.stands (known_after first before after kept read was) rows.0 later rows.2 rows.3 in
    none_due_told first.now was.known rows.0 rows.1 (having c.in_ok-world.world stand.0) stand.1 c.in-Ok-test_world.due_from stand.2

pub returns-in-Err-BadRow-test_world-clause-bad : goal.returns-in-Err-BadRow-test_world-clause-bad
returns-in-Err-BadRow-test_world-clause-bad g c = λ was refused.
    let first = state g.S.Store c.args.conn.now in
    let before = state g.S.Store c.read_all.new.conn in
    let after = state g.S.Store c.test_world.new.conn in
    let kept = c.read_all.ensures.reads in
    let read = c.test_world.ensures.reads in
    let rows = c.in-Ok.ensures.rows (known_before first before after kept read was) in
    let later = subst (λ (db : Database). AreAllRead db.trees rows.0) (sym (shows_first first before after kept read was)) rows.1 in
    inr (
    none_stands first.now was.known rows.0 rows.1 c.in_ok-world.world
    (λ w stand. c.in_ok-world.ensures.told w stand.sound (beside_of first.now was.known rows.0 rows.1 rows.2 c.in-Ok.reading rows.3 w stand))
    (λ books stand. c.in-Err-BadRow-test_world.ensures.bad (known_after first before after kept read was) rows.0 later rows.2 rows.3 c.in_ok-world.ensures.alone c.in-Err-BadRow-test_world.field-0-is books stand)
    )
