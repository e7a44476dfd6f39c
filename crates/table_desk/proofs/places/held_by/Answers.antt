use Rattle.std.proofs.Common.{◌≤◌, length, sym, subst, ◌∙◌}
use Rattle.sched_book.specs.Places.{places}
use Rattle.table_meaning.specs.Worlds.{contents_of}
use Rattle.table_desk.proofs.PlacesAsked.{held_told}
use Rattle.table_desk.proofs.AllPlaces.{all_places}
use Rattle.table_desk.proofs.places.held_by.Goals as goal

pub returns-clause-answer : goal.returns-clause-answer
returns-clause-answer g c = λ clean is_open rests w tell few.
    let told = held_told _ w tell c.args.host in
    c.in_ok-places_held.ensures.held clean (contents_of w tell.calls tell.batches) (places w) tell.holds (all_places w tell.calls tell.batches) (subst (λ held. length held ≤ c.args.most) (sym told) few) ∙ told
