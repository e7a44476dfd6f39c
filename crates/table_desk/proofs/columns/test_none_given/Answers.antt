use Rattle.std.proofs.Common.{sym, ◌∙◌, rules}
use Rattle.sched_book.specs.Places.{places}
use Rattle.table_meaning.specs.Worlds.{contents_of}
use Rattle.table_desk.proofs.ColumnsCounted.{no_items}
use Rattle.table_desk.proofs.PlacesAsked.{owned_told}
use Rattle.table_desk.proofs.AllPlaces.{all_places}
use Rattle.table_desk.proofs.columns.test_none_given.Goals as goal

pub returns-clause-answer : goal.returns-clause-answer
returns-clause-answer g c = λ clean is_open rests w tell.
    sym (c.in_ok-owned.ensures.owned clean (contents_of w tell.calls tell.batches) (places w) tell.holds (all_places w tell.calls tell.batches) ∙ owned_told _ w tell c.args.host)
    ∙ no_items c.in_ok-owned.owned (search rules)
