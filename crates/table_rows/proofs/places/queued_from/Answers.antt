use Rattle.std.proofs.Common.{◌≡◌, true, [], ◌∷◌, IfOk, rules}
use Rattle.std.proofs.lemmas.Result.{IfOk-weaker}
use Rattle.sqlite_value.specs.Value.{owned}
use Rattle.sqlite.specs.Held.{state}
use Rattle.sqlite.specs.Values.{bound}
use Rattle.table_meaning.specs.Rows.{whole}
use Rattle.table_meaning.specs.Places.{ShowsPlaces, page_size, queued_text}
use Rattle.table_meaning.proofs.PlacesShown.{queued_shown}
use Rattle.table_rows.proofs.places.queued_from.Goals as goal

pub returns-clause-queued : goal.returns-clause-queued
returns-clause-queued g c clean contents places held are =
    let old = state g.S.Store (record c.args.conn.now { in_transaction = true }) in
    let told : IfOk c.places_shown.result (ShowsPlaces g.S.Store c.args.conn.now queued_text (bound (c.whole.result ∷ c.whole-2.result ∷ c.whole-3.result ∷ []))) = c.places_shown.ensures.shown clean in
    let most : owned c.whole-3.result ≡ whole (page_size c.args.page) = search rules in
    IfOk-weaker c.places_shown.result (ShowsPlaces g.S.Store c.args.conn.now queued_text (whole c.args.from.unit ∷ whole c.args.from.number ∷ whole (page_size c.args.page) ∷ [])) _
    (λ found shows. queued_shown old (state g.S.Store shows.1.0) contents held places are c.args.from (page_size c.args.page) shows.0 shows.1.1 found shows.2)
    (rw (c.whole.ensures, c.whole-2.ensures, most) at told)
