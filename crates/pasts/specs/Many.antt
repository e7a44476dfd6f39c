-- Rule. Messages one after the other. (This project's own.)
use Rattle.std.specs.Prelude.{List, [], ◌∷◌}
use Rattle.pasts.specs.Stands.{Heard, Past, Tables, Same, Serves, then_heard}

-- these messages, the oldest first, are served one after the other, with these answers
abbrev pub ServesAll : Tables → List Heard → Tables → Type 0
ServesAll old [] new = Same new old
ServesAll old (h ∷ more) new = (mid : Tables) × Serves old h.message h.answer mid × ServesAll mid more new

-- the past, and then these messages
abbrev pub followed : Past → List Heard → Past
followed past [] = past
followed past (h ∷ more) = followed (then_heard past h.message h.answer) more
