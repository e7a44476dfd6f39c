use Rattle.std.proofs.Common.{◌≡◌, ◌⊎◌, sym, subst, ◌∙◌, IsTrue, rules}
use Rattle.sqlite.specs.Effect.{Database}
use Rattle.sqlite.specs.Held.{state}
use Rattle.sqlite.specs.State.{State, HasCleanDisk}
use Rattle.table_meaning.specs.Holding.{AreKnown}
use Rattle.table_reading.specs.Reading.{AreUtf8, WereKnown, HasBadTable, RepresentNone, HasOtherSchema}
use Rattle.table_reading.proofs.ReadsOn.{refused_on}
use Rattle.table_rows.specs.Refusing.{rest_of, HasNoTransaction, IsRestOf}
use Rattle.table_rows.proofs.Rests.{opened_rest, read_rest}
use Rattle.sched_tables.specs.Held.{IsHonest}
use Rattle.sched_tables.proofs.Refusals.{told_by_schema, told_by_rows, given_same}
use Rattle.sched_tables.proofs.Reopened.{rest_reopens, kept_can_be_opened}
use Rattle.table_meaning.proofs.StepLemmas.{reads_on}
use Rattle.sched_tables.specs.ReadLaws.{was_honest}
use Rattle.sched_tables.specs.StopLaws.{found_is_committed}
use Rattle.sched_tables.proofs.Leads.{was_ok}
use Rattle.sched_tables.proofs.Opened.{early, was_known, shows_the_same, opened_kept, opened_beside, opened_sound, opened_rows}
use Rattle.sched_tables.proofs.tables.Tables.adopt.Goals as goal

pub returns-in-Ok-clause-open : goal.returns-in-Ok-clause-open
returns-in-Ok-clause-open g c = λ clean.
    (clean, was_ok c.test_open.result (IsTrue (state g.S.Store c.test_open.new.conn).is_open) (search rules) (c.test_open.ensures.open clean))

pub returns-in-Ok-clause-sound : goal.returns-in-Ok-clause-sound
returns-in-Ok-clause-sound g c = λ clean.
    let taken = state g.S.Store c.in_ok-conn.conn in
    let read = state g.S.Store c.stored_world-read.new.conn in
    let after = state g.S.Store c.test_open.new.conn in
    let opens = c.in_ok-conn.ensures.opens in
    let known = c.in_ok-conn.ensures.known in
    let reads = reads_on taken read after c.stored_world-read.ensures.reads c.test_open.ensures.reads in
    let honest = returns-in-Ok-clause-open g c clean in
    let were = was_known taken read opens known c.stored_world-read.ensures.reads (was_honest read after c.test_open.ensures.reads honest) in
    opened_sound taken after opens known reads honest (c.in-Ok.ensures.stands were) (c.in-Ok.ensures.held were)

pub returns-in-Ok-clause-held : goal.returns-in-Ok-clause-held
returns-in-Ok-clause-held g c = λ clean.
    let taken = state g.S.Store c.in_ok-conn.conn in
    let read = state g.S.Store c.stored_world-read.new.conn in
    let after = state g.S.Store c.test_open.new.conn in
    let opens = c.in_ok-conn.ensures.opens in
    let known = c.in_ok-conn.ensures.known in
    let reads = reads_on taken read after c.stored_world-read.ensures.reads c.test_open.ensures.reads in
    let honest = returns-in-Ok-clause-open g c clean in
    let were = was_known taken read opens known c.stored_world-read.ensures.reads (was_honest read after c.test_open.ensures.reads honest) in
    let stands = c.in-Ok.ensures.stands were in
    let held = c.in-Ok.ensures.held were in
    let kept = c.in-Ok.ensures.kept were in (
      opened_kept taken after opens known reads honest stands held,
      opened_beside taken after opens known reads honest stands held c.in-Ok.kept.settings c.in-Ok.kept.apps c.new.result c.in-Ok.kept.due_from kept.0 kept.1 c.new.ensures (c.in-Ok.ensures.due_from were),
    )

pub returns-in-Ok-clause-same : goal.returns-in-Ok-clause-same
returns-in-Ok-clause-same g c = λ clean.
    let taken = state g.S.Store c.in_ok-conn.conn in
    let read = state g.S.Store c.stored_world-read.new.conn in
    let after = state g.S.Store c.test_open.new.conn in
    let opens = c.in_ok-conn.ensures.opens in
    let known = c.in_ok-conn.ensures.known in
    let reads = reads_on taken read after c.stored_world-read.ensures.reads c.test_open.ensures.reads in
    let honest = returns-in-Ok-clause-open g c clean in
    shows_the_same taken after opens known reads honest ∙ c.in_ok-conn.ensures.same (early taken after opens known reads honest)

pub returns-in-Ok-clause-clean : goal.returns-in-Ok-clause-clean
returns-in-Ok-clause-clean g c = λ clean.
    let taken = state g.S.Store c.in_ok-conn.conn in
    let read = state g.S.Store c.stored_world-read.new.conn in
    let after = state g.S.Store c.test_open.new.conn in
    let opens = c.in_ok-conn.ensures.opens in
    let known = c.in_ok-conn.ensures.known in
    let reads = reads_on taken read after c.stored_world-read.ensures.reads c.test_open.ensures.reads in
    c.in_ok-conn.ensures.clean (early taken after opens known reads (returns-in-Ok-clause-open g c clean))

pub returns-in-Ok-clause-rows : goal.returns-in-Ok-clause-rows
returns-in-Ok-clause-rows g c = λ clean.
    let taken = state g.S.Store c.in_ok-conn.conn in
    let read = state g.S.Store c.stored_world-read.new.conn in
    let after = state g.S.Store c.test_open.new.conn in
    let opens = c.in_ok-conn.ensures.opens in
    let known = c.in_ok-conn.ensures.known in
    let reads = reads_on taken read after c.stored_world-read.ensures.reads c.test_open.ensures.reads in
    let honest = returns-in-Ok-clause-open g c clean in
    let were = was_known taken read opens known c.stored_world-read.ensures.reads (was_honest read after c.test_open.ensures.reads honest) in
    opened_rows taken after opens known reads honest (c.in-Ok.ensures.stands were) (c.in-Ok.ensures.held were)

pub returns-in-Ok-clause-stop : goal.returns-in-Ok-clause-stop
returns-in-Ok-clause-stop g c = λ clean h found.
    found_is_committed (state g.S.Store c.test_open.new.conn) _ h (returns-in-Ok-clause-held g c clean).0
    (returns-in-Ok-clause-sound g c clean) (λ trees left. g.met.S.Store.settled c.test_open.new.conn.store trees (returns-in-Ok-clause-open g c clean).1 left) found

pub returns-in-Ok-clause-reopens : goal.returns-in-Ok-clause-reopens
returns-in-Ok-clause-reopens g c =
    let after = state g.S.Store c.test_open.new.conn in
    rest_reopens after (λ clean. (returns-in-Ok-clause-open g c clean).1) (λ clean. (returns-in-Ok-clause-held g c clean).0.rests) (g.met.S.Store.settled c.test_open.new.conn.store)
    (λ clean. kept_can_be_opened after (returns-in-Ok-clause-held g c clean).0 (returns-in-Ok-clause-rows g c clean) (are_utf8 clean))
  where
    taken : State
    taken = state g.S.Store c.in_ok-conn.conn

    read : State
    read = state g.S.Store c.stored_world-read.new.conn

    last : State
    last = state g.S.Store c.test_open.new.conn

    are_utf8 : HasCleanDisk last → AreUtf8 last.now.trees
    are_utf8 clean =
        let opens = c.in_ok-conn.ensures.opens in
        let known = c.in_ok-conn.ensures.known in
        let reads = reads_on taken read last c.stored_world-read.ensures.reads c.test_open.ensures.reads in
        let honest = returns-in-Ok-clause-open g c clean in
        let were = was_known taken read opens known c.stored_world-read.ensures.reads (was_honest read last c.test_open.ensures.reads honest) in
        subst (λ (db : Database). AreUtf8 db.trees) (sym (shows_the_same taken last opens known reads honest)) (c.in-Ok.ensures.utf8 were)

pub returns-in_err-conn-clause-refused : goal.returns-in_err-conn-clause-refused
returns-in_err-conn-clause-refused g c =
    let e = c.in_err-conn.field-0.0 in
    let told = told_by_schema g.S.Store (state g.S.Store c.args.conn).committed e c.in_err-conn.ensures.old c.in_err-conn.ensures.other c.in_err-conn.ensures.neither c.in_err-conn.ensures.fits in
    refused_on c.from_residual.result _ e c.from_residual.ensures.1 told

pub returns-in-Err-clause-refused : goal.returns-in-Err-clause-refused
returns-in-Err-clause-refused g c =
    let taken = state g.S.Store c.in_ok-conn.conn in
    let read = state g.S.Store c.stored_world-read.new.conn in
    let after = state g.S.Store c.test_open.new.conn in
    let db = (state g.S.Store c.args.conn).committed in
    let opens = c.in_ok-conn.ensures.opens in
    let known = c.in_ok-conn.ensures.known in
    let reads = reads_on taken read after c.stored_world-read.ensures.reads c.test_open.ensures.reads in
    let honest = λ (clean : HasCleanDisk after). let h : IsHonest after = (clean, was_ok c.test_open.result (IsTrue after.is_open) (search rules) (c.test_open.ensures.open clean)) in h in
    let same = λ (clean : HasCleanDisk after). let h : taken.now ≡ db = c.in_ok-conn.ensures.same (early taken after opens known reads (honest clean)) in h in
    let were = λ (clean : HasCleanDisk after). let h : WereKnown taken read = was_known taken read opens known c.stored_world-read.ensures.reads (was_honest read after c.test_open.ensures.reads (honest clean)) in h in
    told_by_rows g.S.Store db c.in-Err.fault c.test_open.new.conn c.in-Err.ensures.never_old
    (λ clean. subst AreKnown (same clean) (were clean).known)
    (λ clean is. subst (λ (d : Database). HasOtherSchema d.trees) (same clean) (c.in-Err.ensures.other_schema (were clean) is))
    (λ clean is. subst (λ (d : Database). HasBadTable d.trees ⊎ RepresentNone d.trees) (same clean) (c.in-Err.ensures.bad (were clean) is))
    c.of.result c.of.ensures.given.0 c.of.ensures.given.1

pub returns-in-Err-clause-back : goal.returns-in-Err-clause-back
returns-in-Err-clause-back g c =
    let taken = state g.S.Store c.in_ok-conn.conn in
    let read = state g.S.Store c.stored_world-read.new.conn in
    let after = state g.S.Store c.test_open.new.conn in
    let opens = c.in_ok-conn.ensures.opens in
    let known = c.in_ok-conn.ensures.known in
    let reads = reads_on taken read after c.stored_world-read.ensures.reads c.test_open.ensures.reads in
    given_same (λ conn. HasCleanDisk (state g.S.Store conn) → HasNoTransaction (state g.S.Store c.args.conn).committed (state g.S.Store conn)) c.in-Err.fault c.test_open.new.conn
    (λ clean.
    let honest : IsHonest after = (clean, was_ok c.test_open.result (IsTrue after.is_open) (search rules) (c.test_open.ensures.open clean)) in
    let before = early taken after opens known reads honest in
    let shows = shows_the_same taken after opens known reads honest in
    record {
      is_open = honest.1;
      idle = reads.idle (opens before).autocommit;
      now = shows ∙ c.in_ok-conn.ensures.same before;
      committed = (reads.same honest.0 honest.1 (opens before).clean).1 ∙ sym (opens before).clean ∙ c.in_ok-conn.ensures.same before;
    })
    c.of.result c.of.ensures.given.0 c.of.ensures.given.1

pub returns-in_err-conn-clause-rest : goal.returns-in_err-conn-clause-rest
returns-in_err-conn-clause-rest g c =
    refused_on c.from_residual.result (λ e. IsRestOf g.S.Store (state g.S.Store c.args.conn) (rest_of e)) c.in_err-conn.field-0.0 c.from_residual.ensures.1 c.in_err-conn.ensures.rest

pub returns-then-is_err-clause-rest : goal.returns-then-is_err-clause-rest
returns-then-is_err-clause-rest g c =
    let taken = c.in_ok-conn.conn in
    let last = c.test_open.new.conn in
    opened_rest g.S.Store (state g.S.Store c.args.conn) taken c.into_store.result g.met.S.Store.settled c.in_ok-conn.ensures.opens c.in_ok-conn.ensures.same c.in_ok-conn.ensures.clean
    (read_rest g.S.Store taken last c.into_store.result (reads_on (state g.S.Store taken) (state g.S.Store c.stored_world-read.new.conn) (state g.S.Store last) c.stored_world-read.ensures.reads c.test_open.ensures.reads) c.into_store.ensures.quiet)

pub returns-in-Err-clause-rest : goal.returns-in-Err-clause-rest
returns-in-Err-clause-rest g c =
    let taken = c.in_ok-conn.conn in
    let last = c.test_open.new.conn in
    opened_rest g.S.Store (state g.S.Store c.args.conn) taken (rest_of c.of.result) g.met.S.Store.settled c.in_ok-conn.ensures.opens c.in_ok-conn.ensures.same c.in_ok-conn.ensures.clean
    (read_rest g.S.Store taken last (rest_of c.of.result) (reads_on (state g.S.Store taken) (state g.S.Store c.stored_world-read.new.conn) (state g.S.Store last) c.stored_world-read.ensures.reads c.test_open.ensures.reads) c.of.ensures.rest)
