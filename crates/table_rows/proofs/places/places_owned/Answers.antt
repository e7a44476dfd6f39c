use Rattle.std.proofs.Common.{true, [], ◌∷◌}
use Rattle.std.proofs.lemmas.Result.{IfOk-weaker}
use Rattle.sqlite.specs.Held.{state}
use Rattle.table_meaning.specs.Rows.{whole}
use Rattle.table_meaning.specs.Places.{ShowsPlaces, owned_text}
use Rattle.table_meaning.proofs.PlacesShown.{owned_shown}
use Rattle.table_rows.proofs.places.places_owned.Goals as goal

pub returns-clause-owned : goal.returns-clause-owned
returns-clause-owned g c clean contents places held are =
    let old = state g.S.Store (record c.args.conn.now { in_transaction = true }) in
    IfOk-weaker c.places_shown.result (ShowsPlaces g.S.Store c.args.conn.now owned_text (whole c.args.host ∷ [])) _
    (λ found shows. owned_shown old (state g.S.Store shows.1.0) contents held places are c.args.host shows.0 shows.1.1 found shows.2) (rw c.whole.ensures at (c.places_shown.ensures.shown clean))
