use Rattle.std.proofs.Common.{◌≡◌, true, [], ◌∷◌, length, ◌∙◌, rules}
use Rattle.sqlite_value.specs.Value.{owned}
use Rattle.sqlite_value.specs.declared.value.Value.TheVariants.{Int}
use Rattle.sqlite.specs.Held.{state}
use Rattle.sqlite.specs.Values.{bound}
use Rattle.table_meaning.specs.Rows.{whole}
use Rattle.table_meaning.specs.Places.{ShowsPlaces, sent_text}
use Rattle.table_meaning.proofs.PlacesShown.{sent_shown}
use Rattle.table_rows.proofs.places.sent_between.Goals as goal

pub returns-in-Ok-clause-sent : goal.returns-in-Ok-clause-sent
returns-in-Ok-clause-sent g c clean contents places held are =
    let old = state g.S.Store (record c.args.conn.now { in_transaction = true }) in
    let told : ShowsPlaces g.S.Store c.args.conn.now sent_text (bound (c.whole.result ∷ c.moment.result ∷ c.moment-2.result ∷ [])) c.in_ok-sent.sent = c.in_ok-sent.ensures.shown clean in
    let host : owned c.whole.result ≡ whole c.args.host = search rules in
    let from : owned c.moment.result ≡ Int c.args.from = search rules in
    let until : owned c.moment-2.result ≡ Int c.args.until = search rules in
    let shows = rw (host, from, until) at told in
    let counted : c.in-Ok.count ≡ length c.in_ok-sent.sent = search rules in
    counted ∙ sent_shown old (state g.S.Store shows.1.0) contents held places are c.args.host c.args.from c.args.until shows.0 shows.1.1 c.in_ok-sent.sent shows.2
