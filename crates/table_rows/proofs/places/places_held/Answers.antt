use Rattle.std.proofs.Common.{true, [], ◌∷◌}
use Rattle.sqlite.specs.Held.{state}
use Rattle.sqlite.specs.Values.{bound}
use Rattle.table_meaning.specs.Places.{ShowsPlaces, is_row_held_by, held_text}
use Rattle.table_meaning.proofs.PlacesShown.{held_shown}
use Rattle.table_rows.proofs.places.places_held.Goals as goal

pub returns-clause-held : goal.returns-clause-held
returns-clause-held g c clean contents places held are few =
    let old = state g.S.Store (record c.args.conn.now { in_transaction = true }) in
    let told : ShowsPlaces g.S.Store c.args.conn.now held_text (bound (c.whole.result ∷ c.whole-2.result ∷ [])) c.in_ok-held.held = c.in_ok-held.ensures.shown clean in
    let shows = rw (c.whole.ensures, c.whole-2.ensures) at told in
    c.in_order.ensures contents places (is_row_held_by c.args.host) are (held_shown old (state g.S.Store shows.1.0) contents held places are c.args.host c.args.most shows.0 shows.1.1 c.in_ok-held.held shows.2 few)
