use Rattle.std.proofs.Common.{◌≡◌, Some, None, option_map, sym, ap, ◌∙◌, rules, arith}
use Rattle.sqlite.specs.Effect.{Database}
use Rattle.sqlite.specs.Held.{state}
use Rattle.sqlite.specs.State.{HasCleanDisk}
use Rattle.table_meaning.specs.declared.rows.StoredVersionClass.{StoredVersionClass}
use Rattle.table_meaning.specs.declared.rows.StoredRow.TheVariants as stored
use Rattle.table_meaning.specs.Rows.{columns_of, class_key, look_up, whole}
use Rattle.table_desk.proofs.ReadLater.{shown_later, tell_later}
use Rattle.table_desk.proofs.VersionsListed.{version_missing, version_found}
use Rattle.table_desk.proofs.apps.version_with.Goals as goal

pub returns-in_default-clause-answer : goal.returns-in_default-clause-answer
returns-in_default-clause-answer g c = λ clean is_open rests w tell placed.
    let none : None ≡ c.in_ok-id.field-0 = search rules in
    version_missing _ w tell c.args.app.now c.args.place (sym placed) c.args.platform.now c.args.version_num
    (ap (option_map whole) none ∙ c.in_ok-id.ensures.first clean tell.holds.known)

pub returns-clause-answer : goal.returns-clause-answer
returns-clause-answer g c = λ clean is_open rests w tell placed.
    let first = state g.S.Store c.args.conn.now in
    let mid = state g.S.Store c.version_known.new.conn in
    let read = c.class_of.ensures.reads in
    let early : HasCleanDisk mid = omega (arith, read.survives.clean, clean) in
    let was_open = read.was_open clean is_open in
    let later = tell_later first mid c.version_known.ensures.reads early was_open rests w tell in
    let found : Some c.in-Some.id ≡ c.in_ok-id.field-0 = search rules in
    let classed : Some c.in-Some-2.row ≡ c.in_ok-row.field-0 = search rules in
    let app = c.in_ok-copied.ensures in
    let platform = c.in_ok-copied-2.ensures in
    let class = c.in_ok-version_class.ensures.read in
    version_found _ w tell c.args.app.now c.args.place (sym placed) c.args.platform.now c.args.version_num c.in-Some.id c.in-Some-2.row c.in_ok-in_limits.field-0
    (ap (option_map whole) found ∙ c.in_ok-id.ensures.first early tell.holds.known)
    (ap (option_map (λ (r : StoredVersionClass). columns_of (stored.VersionClass r))) classed ∙ c.in_ok-row.ensures.row clean later.holds.known
    ∙ ap (λ (db : Database). look_up db.trees (class_key c.in-Some.id)) (shown_later first mid c.version_known.ensures.reads early was_open rests))
    (c.in_ok-in_limits.ensures.same ∙ (λ i. record { app = app i; platform = platform i; version_num = c.args.version_num; class = class i }))
