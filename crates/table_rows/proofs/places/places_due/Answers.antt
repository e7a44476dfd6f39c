use Rattle.std.proofs.Common.{◌≡◌, true, [], ◌∷◌, rules}
use Rattle.sqlite_value.specs.Value.{owned}
use Rattle.sqlite_value.specs.declared.value.Value.TheVariants.{Int}
use Rattle.sqlite.specs.Held.{state}
use Rattle.sqlite.specs.Values.{bound}
use Rattle.table_meaning.specs.Places.{ShowsPlaces, is_due, due_text}
use Rattle.table_meaning.proofs.PlacesShown.{due_shown}
use Rattle.table_rows.proofs.places.places_due.Goals as goal

pub returns-clause-due : goal.returns-clause-due
returns-clause-due g c clean contents places held are =
    let old = state g.S.Store (record c.args.conn.now { in_transaction = true }) in
    let told : ShowsPlaces g.S.Store c.args.conn.now due_text (bound (c.moment.result ∷ c.moment-2.result ∷ [])) c.in_ok-due.due = c.in_ok-due.ensures.shown clean in
    let from : owned c.moment.result ≡ Int c.args.from = search rules in
    let until : owned c.moment-2.result ≡ Int c.args.until = search rules in
    let shows = rw (from, until) at told in
    c.in_order.ensures contents places (is_due c.args.from c.args.until) are (due_shown old (state g.S.Store shows.1.0) contents held places are c.args.from c.args.until shows.0 shows.1.1 c.in_ok-due.due shows.2)
