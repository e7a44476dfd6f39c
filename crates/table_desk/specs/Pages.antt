-- Words. Candidates that are looked up a page of places at a time.
use Rattle.std.specs.Prelude.{◌+◌, ◌-◌, List, [], filter_map, slice_get, Option, Some, None, option_map}
use Rattle.sched_book.specs.Desk.{workunit_at}
use Rattle.sched_book.specs.Offers.{unsent}
use Rattle.sched_book.specs.declared.desk.Candidate.{Candidate}
use Rattle.sched_book.specs.declared.instance.Place.{Place}
use Rattle.sched_book.specs.declared.world.World.{World}
use Rattle.table_meaning.specs.Places.{page_size}
use Rattle.table_meaning.specs.declared.tables.QueuePage.{QueuePage}
use Rattle.table_desk.specs.declared.window.QueueWindow.{QueueWindow}

-- a place with its workunit, if there is one
abbrev pub candidate_at : World → Place → Option Candidate
candidate_at w place = option_map (λ u. record { place = place; unit = u }) (workunit_at w place.unit)

abbrev pub candidates_at : World → List Place → List Candidate
candidates_at w = filter_map (candidate_at w)

-- the place with the next number in the same workunit
abbrev pub behind : Place → Place
behind place = record { unit = place.unit; number = place.number + 1 }

-- the next page begins just after the last place of a full page; a page with fewer places has no next one
abbrev pub next_page : QueuePage → List Place → Option Place
next_page page places = option_map behind (slice_get places (page_size page - 1))

-- the unsent instances from there on; none if there is no next page
abbrev pub unsent_on : World → Option Place → List Candidate
unsent_on w None = []
unsent_on w (Some from) = unsent w from

-- the unsent instances after a window
abbrev pub unsent_after : World → QueueWindow → List Candidate
unsent_after w window = unsent_on w window.end
