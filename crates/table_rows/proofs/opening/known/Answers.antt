use Rattle.std.proofs.Common.{◌≡◌, sym, ap, subst, ◌∙◌, rules, arith}
use Rattle.sqlite.specs.Effect.{Database}
use Rattle.sqlite.specs.Held.{state}
use Rattle.sqlite.specs.State.{HasCleanDisk}
use Rattle.table_meaning.specs.Schema.{newest}
use Rattle.table_meaning.specs.Schemas.{AreKnownAt, AreEarlier}
use Rattle.table_meaning.proofs.Knowing.{known_at_from}
use Rattle.table_meaning.proofs.SchemaTables.{known_newest, same_number}
use Rattle.table_rows.proofs.Reopening.{one_refused}
use Rattle.table_rows.proofs.Rests.{own_rest, quiet_rest, opened_rest}
use Rattle.table_rows.specs.Refusing.{rest_of}
use Rattle.table_rows.proofs.opening.known.Goals as goal

pub returns-clause-known : goal.returns-clause-known
returns-clause-known g c clean =
    let n = c.in-Some.schema in
    let now = (state g.S.Store c.in-Ok.conn).now in
    let found = rw c.in-Some.is at c.in-Ok-schema_number.ensures.found in
    let opened = c.in-Ok.ensures.opens clean in
    let top : n ≡ newest = omega (arith, found.0.1, c.if-schema-lt-NEWEST_SCHEMA.false) in
    known_newest now (subst (λ m. AreKnownAt m now) top (known_at_from n found.0 now found.1 (opened.1 opened.0.is_open).0 (c.in-Ok.ensures.ordered clean)))

pub returns-then-schema-lt-NEWEST_SCHEMA-clause-old : goal.returns-then-schema-lt-NEWEST_SCHEMA-clause-old
returns-then-schema-lt-NEWEST_SCHEMA-clause-old g c m other is clean =
    let n = c.in-Some.schema in
    let now = (state g.S.Store c.in-Ok.conn).now in
    let found = rw c.in-Some.is at c.in-Ok-schema_number.ensures.found in
    let told = c.refusal.ensures.old m other is clean in
    let opened = c.in-Ok.ensures.opens told.0 in
    subst (AreEarlier m) (c.in-Ok.ensures.same told.0) (told.1 (known_at_from n found.0 now found.1 (opened.1 opened.0.is_open).0 (c.in-Ok.ensures.ordered told.0))).1

pub returns-in_default-clause-other : goal.returns-in_default-clause-other
returns-in_default-clause-other g c refused is clean schema =
    let clean_here = subst (λ h. HasCleanDisk (state g.S.Store h)) (sym (one_refused c.in-Ok.conn refused is)) clean in
    let same = ap (λ (db : Database). db.schema) (c.in-Ok.ensures.same clean_here) in
    c.in-Ok-schema_number.ensures.none (search rules) newest (omega arith, omega arith) (same ∙ schema)

pub returns-then-schema-lt-NEWEST_SCHEMA-clause-neither : goal.returns-then-schema-lt-NEWEST_SCHEMA-clause-neither
returns-then-schema-lt-NEWEST_SCHEMA-clause-neither g c refused is clean n earlier =
    let m = c.in-Some.schema in
    let now = (state g.S.Store c.in-Ok.conn).now in
    let found = rw c.in-Some.is at c.in-Ok-schema_number.ensures.found in
    let told = c.refusal.ensures.other refused is clean in
    let same = c.in-Ok.ensures.same told.0 in
    let one : n ≡ m = same_number n m (earlier.earlier.0, omega (arith, earlier.earlier.1)) found.0 (sym earlier.known.schema ∙ sym (ap (λ (db : Database). db.schema) same) ∙ found.1) in
    told.1 (subst (AreEarlier m) (sym same) (subst (λ k. AreEarlier k (state g.S.Store c.args.conn).committed) one earlier))

pub returns-in-Err-schema_number-clause-rest : goal.returns-in-Err-schema_number-clause-rest
returns-in-Err-schema_number-clause-rest g c =
    let conn = c.in-Ok.conn in
    opened_rest g.S.Store (state g.S.Store c.args.conn) conn c.into_store.result g.met.S.Store.settled (λ clean. (c.in-Ok.ensures.opens clean).0) c.in-Ok.ensures.same c.in-Ok.ensures.clean
    (quiet_rest g.S.Store conn c.into_store.result c.into_store.ensures.quiet)

pub returns-in_default-clause-rest : goal.returns-in_default-clause-rest
returns-in_default-clause-rest g c =
    let conn = c.in-Ok.conn in
    opened_rest g.S.Store (state g.S.Store c.args.conn) conn conn.store g.met.S.Store.settled (λ clean. (c.in-Ok.ensures.opens clean).0) c.in-Ok.ensures.same c.in-Ok.ensures.clean
    (own_rest g.S.Store conn)

pub returns-then-schema-lt-NEWEST_SCHEMA-clause-rest : goal.returns-then-schema-lt-NEWEST_SCHEMA-clause-rest
returns-then-schema-lt-NEWEST_SCHEMA-clause-rest g c =
    let conn = c.in-Ok.conn in
    opened_rest g.S.Store (state g.S.Store c.args.conn) conn (rest_of c.refusal.result) g.met.S.Store.settled (λ clean. (c.in-Ok.ensures.opens clean).0) c.in-Ok.ensures.same c.in-Ok.ensures.clean
    c.refusal.ensures.rest
