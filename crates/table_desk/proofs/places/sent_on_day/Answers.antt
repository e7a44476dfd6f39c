use Rattle.std.proofs.Common.{ap₂, length, ◌∙◌, rules}
use Rattle.sched_book.specs.Places.{places}
use Rattle.table_meaning.specs.Places.{is_sent_between, places_with_row}
use Rattle.table_meaning.specs.Worlds.{contents_of}
use Rattle.table_desk.proofs.PlacesAsked.{sent_told}
use Rattle.table_desk.proofs.AllPlaces.{all_places}
use Rattle.table_desk.proofs.places.sent_on_day.Goals as goal

pub returns-clause-answer : goal.returns-clause-answer
returns-clause-answer g c = λ clean is_open rests w tell.
    let contents = contents_of w tell.calls tell.batches in
    let counted = c.in_ok-sent_between.ensures.sent clean contents (places w) tell.holds (all_places w tell.calls tell.batches) in
    counted ∙ ap₂ (λ a b. length (places_with_row contents (is_sent_between c.args.host a b) (places w))) (search rules) (search rules) ∙ sent_told _ w tell c.args.host c.args.day
