use Rattle.std.proofs.Common.{ap₂, ◌∙◌, rules}
use Rattle.sched_book.specs.Places.{places}
use Rattle.table_meaning.specs.Places.{is_due, places_with_row}
use Rattle.table_meaning.specs.Worlds.{contents_of}
use Rattle.table_desk.proofs.PlacesAsked.{due_told}
use Rattle.table_desk.proofs.AllPlaces.{all_places}
use Rattle.table_desk.proofs.places.due_before.Goals as goal

pub returns-clause-answer : goal.returns-clause-answer
returns-clause-answer g c = λ clean is_open rests w tell none.
    let contents = contents_of w tell.calls tell.batches in
    let listed = c.in_ok-places_due.ensures.due clean contents (places w) tell.holds (all_places w tell.calls tell.batches) in
    listed ∙ ap₂ (λ a b. places_with_row contents (is_due a b) (places w)) (search rules) (search rules) ∙ due_told _ w tell c.args.from c.args.now none
